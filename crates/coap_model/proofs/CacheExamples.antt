-- Histories and their caches, computed.
use Rattle.std.proofs.Common.{◌≡◌, ◌≢◌, inl, ℕ, true, ◌≤◌, List, [], ◌∷◌, length, refl, sym, ap, arith, nat_lt}
use Rattle.std.specs.Prelude.{zero, suc, codes}
use Rattle.std.specs.List.{list_all}
use Rattle.std.proofs.lemmas.Bool.{and_parts, ltb-true}
use Rattle.coap_message.specs.Uint.{IsBytes, uint_spelling}
use Rattle.coap_message.specs.declared.kind.Kind.TheVariants.{Non}
use Rattle.coap_message.specs.declared.code.TheConstants.Code.{GET}
use Rattle.coap_message.specs.Message.{Message}
use Rattle.coap_message.specs.Options.{option_of}
use Rattle.coap_message.specs.Reading.{read_message, body_at, options_within, option_at, extended}
use Rattle.coap_message.specs.Spelling.{Spells, spelling, option_spelling}
use Rattle.coap_message.proofs.WholeMessages.{read_is}
use Rattle.coap_endpoint.specs.declared.endpoint.Endpoint.{Endpoint}
use Rattle.coap_option.specs.declared.numbers.TheConstants.{URI_PATH}
use Rattle.coap_target.specs.Routes.{mapped_target}
use Rattle.coap_target.specs.Request.{request_target}
use Rattle.coap_model.specs.declared.report.Outcome.TheVariants.{Answered, SentRequest}
use Rattle.coap_model.specs.declared.report.Storing.{Storing}
use Rattle.coap_model.specs.declared.report.Storing.TheVariants.{Kept, TooLarge}
use Rattle.coap_model.specs.Events.{arrival}
use Rattle.coap_forward.specs.Messages.{token_of}
use Rattle.coap_forward.specs.Forms.{target_options}
use Rattle.coap_model.specs.Keys.{target_sent, key_sent}
use Rattle.coap_forward.specs.Answers.{answer_of}
use Rattle.coap_model.specs.Examples.{origin, client, get_t, get_temp}
use Rattle.coap_model.specs.LimitExamples as limited
use Rattle.coap_model.specs.OptionExamples.{key_of_temp}
use Rattle.coap_model.specs.History.{Action, Position, IsPositionOf, Never, Sends, Asks, Gets, in_acknowledgement}
use Rattle.coap_model.specs.Forged as forged
use Rattle.coap_model.specs.Forged.{setting, opened, asked}
use Rattle.coap_model.specs.Cached.{IsCacheOf, empty, kept, too_large, hit, otherwise}
use Rattle.coap_model.specs.CacheExamples.{content_for, get_for, answered, kept_past, hits, hit_past, opens_again, opened_past, asks_again, asked_past, first_entry, second_entry}
use Rattle.coap_model.proofs.Positions.{here, same_moves}

-- numbers below 256 are bytes
pub are-bytes : (bytes : List ℕ) → list_all (λ b. nat_lt b 256) bytes ≡ true → IsBytes bytes
are-bytes [] all i = omega arith
are-bytes (b ∷ bytes) all zero = ltb-true b 256 (and_parts (nat_lt b 256) (list_all (λ c. nat_lt c 256) bytes) all).0
are-bytes (b ∷ bytes) all (suc i) = are-bytes bytes (and_parts (nat_lt b 256) (list_all (λ c. nat_lt c 256) bytes) all).1 i

-- ---- the requests that were sent

-- an observation without a sent request sends nothing
pub unsent : (x : ℕ) (before : List Action) (d : Action) → d.observation.report.outcome ≢ SentRequest → ¬ Sends 0 x (here before d)
unsent x before d not s = not s.outcome

-- the first datagram encodes the request of the first exchange
pub first_sent : Spells (get_temp []) (get_for 1 1)
unfolding read_message body_at options_within option_at extended token_of target_options uint_spelling
first_sent = read_is (get_temp []) (get_for 1 1) (are-bytes (get_temp []) refl) refl

-- and the second encodes the request of the second exchange
pub second_sent : Spells (limited.asked 3 2) (get_for 3 2)
unfolding read_message body_at options_within option_at extended token_of target_options uint_spelling
second_sent = read_is (limited.asked 3 2) (get_for 3 2) (are-bytes (limited.asked 3 2) refl) refl

-- the first request wasn't sent before
pub first_unsent : Never (Sends 0 1) (opened ∷ [])
first_unsent = (unsent 1 [] opened (λ e. cc), tt)

-- and the second wasn't sent before either
pub second_unsent : Never (Sends 0 2) opened_past
second_unsent = (unsent 2 hit_past opens_again (λ e. cc), (unsent 2 kept_past hits (λ e. cc), (unsent 2 (asked ∷ opened ∷ []) (answered 5 1 1 (Answered Kept)) (λ e. cc), (other, (unsent 2 [] opened (λ e. cc), tt)))))
  where
    other : ¬ Sends 0 2 (here (opened ∷ []) asked)
    other s = let e = same_moves 1 2 s.act in omega (arith, e)

-- so each request was first sent there
abbrev pub first_asks : Asks 0 1 (here (opened ∷ []) asked)
first_asks = record {
  sends = record { act = refl; outcome = refl; to = origin; sent = refl; message = get_for 1 1; spells = first_sent; token = refl };
  first = first_unsent;
}

abbrev pub second_asks : Asks 0 2 (here opened_past asks_again)
second_asks = record {
  sends = record { act = refl; outcome = refl; to = origin; sent = refl; message = get_for 3 2; spells = second_sent; token = refl };
  first = second_unsent;
}

-- ---- the answers that arrived

-- the datagrams of the answers encode these messages
pub first_got : Spells (limited.got 1 1) (content_for 1 1)
unfolding read_message body_at options_within option_at extended token_of
first_got = read_is (limited.got 1 1) (content_for 1 1) (are-bytes (limited.got 1 1) refl) refl

-- and so does the second one
pub second_got : Spells (limited.got 3 2) (content_for 3 2)
unfolding read_message body_at options_within option_at extended token_of
second_got = read_is (limited.got 3 2) (content_for 3 2) (are-bytes (limited.got 3 2) refl) refl

-- so the answer to a request arrives there, whether it is stored or not
abbrev pub content_gets : (past : List Action) (now id x : ℕ) (storing : Storing) (asking : Position) → IsPositionOf past asking → (asks : Asks 0 x asking) → asks.sends.to ≡ origin → asks.sends.message ≡ get_for id x → IsBytes (limited.got id x) → Spells (limited.got id x) (content_for id x)
    → length (limited.got id x) ≤ 1500 → Gets setting x (here past (answered now id x (Answered storing)))
content_gets past now id x storing asking was_asked asks to message bytes spells short = record {
  act = refl;
  outcome = refl;
  meets = record {
    asking = asking;
    was_asked = was_asked;
    asks = asks;
    message = content_for id x;
    brings = record { bytes = limited.got id x; came = ap (λ (e : Endpoint). arrival e (limited.got id x)) (sym to); spells = spells; short = short };
    matches = in_acknowledgement refl refl refl (ap (λ (m : Message). m.id) (sym message));
  };
  bytes = bytes;
}

-- the first answer
abbrev pub first_gets : (storing : Storing) → Gets setting 1 (here (asked ∷ opened ∷ []) (answered 5 1 1 (Answered storing)))
first_gets storing = content_gets (asked ∷ opened ∷ []) 5 1 1 storing (here (opened ∷ []) asked) (inl refl) first_asks refl refl (are-bytes (limited.got 1 1) refl) first_got (omega arith)

-- the second
abbrev second_gets : (storing : Storing) → Gets setting 2 (here asked_past (answered 20 3 2 (Answered storing)))
second_gets storing = content_gets asked_past 20 3 2 storing (here opened_past asks_again) (inl refl) second_asks refl refl (are-bytes (limited.got 3 2) refl) second_got (omega arith)

-- ---- the caches

-- what happens before an answer leaves the cache empty
cache_asked : IsCacheOf setting (asked ∷ opened ∷ []) []
cache_asked = otherwise asked refl (otherwise opened refl empty)

-- so does an answer that isn't stored
pub cache_not_stored : IsCacheOf setting forged.past []
cache_not_stored = otherwise forged.answered refl cache_asked

-- an answer that is kept is in the cache
pub cache_kept : IsCacheOf setting kept_past (first_entry ∷ [])
unfolding token_of target_options target_sent key_sent answer_of spelling option_spelling uint_spelling
cache_kept = kept (answered 5 1 1 (Answered Kept)) 1 (first_gets Kept) (here [] opened) refl (inl refl) (refl, refl) empty cache_asked

-- the request of another client
abbrev pub get_read : Message
get_read = record { kind = Non; code = GET; id = 7; token = []; options = option_of URI_PATH (codes "t") ∷ []; payload = [] }

-- the datagram encodes it
pub get_spelled : Spells (get_t []) get_read
unfolding read_message body_at options_within option_at extended
get_spelled = read_is (get_t []) get_read (are-bytes (get_t []) refl) refl

-- it is the request of a client that is answered from the cache
pub cache_hit : IsCacheOf setting hit_past (first_entry ∷ [])
unfolding mapped_target request_target
cache_hit = hit hits (client 2) get_read key_of_temp.target first_entry refl (record { bytes = get_t []; came = refl; spells = get_spelled; short = omega arith }) refl refl cache_kept

-- opening and sending a new request leaves the cache as it is
cache_opened_again : IsCacheOf setting opened_past (first_entry ∷ [])
cache_opened_again = otherwise opens_again refl cache_hit

pub cache_asked_again : IsCacheOf setting asked_past (first_entry ∷ [])
cache_asked_again = otherwise asks_again refl cache_opened_again

-- another answer replaces the first
pub cache_in_place : IsCacheOf setting (answered 20 3 2 (Answered Kept) ∷ asked_past) (second_entry ∷ [])
unfolding token_of target_options target_sent key_sent answer_of spelling option_spelling uint_spelling
cache_in_place = kept (answered 20 3 2 (Answered Kept)) 2 (second_gets Kept) (here hit_past opens_again) refl (inl refl) (refl, refl) cache_hit cache_asked_again

-- or removes it, if it is too large
pub cache_too_large : IsCacheOf setting (answered 20 3 2 (Answered TooLarge) ∷ asked_past) []
unfolding token_of target_options target_sent key_sent
cache_too_large = too_large (answered 20 3 2 (Answered TooLarge)) 2 (second_gets TooLarge) refl cache_asked_again
