-- Forged replies from the cache: an entry that was changed isn't used any more, and an answer that
-- a change overtook isn't kept.
use Rattle.std.proofs.Common.{◌≡◌, inl, inr, ℕ, ◌+◌, Bool, true, false, ◌<◌, List, [], ◌∷◌, ◌++◌, length, Some, None, Result, Ok, Err, refl, sym, ap, ◌∙◌, subst, arith}
use Rattle.std.specs.Option.{option_map_or}
use Rattle.std.specs.Prelude.{if◌then◌else◌, get_or, ◌&&◌}
use Rattle.std.proofs.lemmas.List.{length-append}
use Rattle.std.proofs.lemmas.Bool.{and_parts}
use Rattle.std.proofs.lemmas.Option.{same_Some}
use Rattle.coap_message.specs.declared.error.DecodeError.{DecodeError}
use Rattle.coap_message.specs.declared.code.TheConstants.Code.{CONTENT}
use Rattle.coap_message.specs.Codes.{is_code}
use Rattle.coap_message.specs.Message.{Message}
use Rattle.coap_message.specs.Reading.{read_message, body_at, options_within, option_at, extended}
use Rattle.coap_message.specs.Spelling.{Spells, spelling, option_spelling}
use Rattle.coap_message.specs.Uint.{uint_spelling}
use Rattle.coap_message.proofs.WholeMessages.{read_again, read_is}
use Rattle.coap_option.specs.Selection.{max_age_of, tags_of}
use Rattle.coap_target.specs.Routes.{mapped_target}
use Rattle.coap_target.specs.Request.{request_target}
use Rattle.coap_endpoint.specs.declared.endpoint.Endpoint.{Endpoint}
use Rattle.coap_endpoint.specs.declared.target.Target.{Target}
use Rattle.coap_store.specs.declared.key.CacheKey.{CacheKey}
use Rattle.coap_store.specs.Freshness.{is_fresh}
use Rattle.coap_store.specs.Keys.{same_key}
use Rattle.coap_store.specs.Lists.{of_key}
use Rattle.coap_store.specs.Renewing.{has_tag, is_validated, tag_of}
use Rattle.coap_store.specs.Showing.{is_cacheable}
use Rattle.coap_forward.specs.Changes.{changed_by, concerns}
use Rattle.coap_forward.specs.Forms.{target_options}
use Rattle.coap_forward.specs.Messages.{token_of, at_once}
use Rattle.coap_forward.specs.Answers.{stored_answer, shown, passed_part}
use Rattle.coap_model.specs.declared.report.Outcome.{Outcome}
use Rattle.coap_model.specs.declared.report.Outcome.TheVariants.{Opened}
use Rattle.coap_model.specs.declared.report.Storing.TheVariants.{Kept}
use Rattle.coap_model.specs.Events.{arrival}
use Rattle.coap_model.specs.Keys.{target_sent, key_sent}
use Rattle.coap_model.specs.Examples.{origin, client, get_t}
use Rattle.coap_model.specs.LimitExamples as limited
use Rattle.coap_model.specs.OptionExamples.{key_of_temp}
use Rattle.coap_model.specs.History.{Observation, Action, told_by, opened_in, Position, IsRequestOf, IsPositionOf, Never, Sends, Asks, Gets, in_acknowledgement, accepts_answer}
use Rattle.coap_model.specs.Forged.{setting, opened, asked}
use Rattle.coap_model.specs.Cached.{Cached, cached_key, entry_of_cached, IsCacheOf, otherwise, IsFetched, first_hand, validated, IsObtained, WasObtained}
use Rattle.coap_model.specs.Changed.{key_asked, Changes, IsTold, Unchanged, WasChanged}
use Rattle.coap_model.specs.CacheExamples.{get_for, kept_past, hits, hit_past, opens_again, opened_past, asks_again, asked_past, first_entry}
use Rattle.coap_model.specs.ForgedHits.{reply, change_told, changed_message, change, changed_past, overtaken_past, keeps_overtaken, opens_two}
use Rattle.coap_model.specs.Setting.{Setting}
use Rattle.coap_model.specs.State.{State}
use Rattle.coap_model.specs.Word.{IsFromCache, KeepsItsWord}
use Rattle.coap_model.specs.Standing.{Open, queued, open_by, open_in, standing_in}
use Rattle.coap_model.specs.Justified.{IsHit, IsKept, IsOpening, JustifiedBy, AllJustified, verdict_on}
use Rattle.coap_model.specs.Verdicts.{may_ask, verdict_of}
use Rattle.coap_model.proofs.Cached.{cache-unique}
use Rattle.coap_model.proofs.CacheExamples.{are-bytes, unsent, second_sent, first_asks, second_asks, content_gets, first_gets, first_got, get_read, get_spelled, cache_asked_again}
use Rattle.coap_model.proofs.MarksAndTaints.{one-getting, told-stays, told-on, told-contrary, newest-unchanged}
use Rattle.coap_model.proofs.Positions.{here, same_moves, request-unique}

-- ---- the change

-- the response to the second exchange says that its target was changed
change_spelled : Spells change_told changed_message
unfolding read_message body_at options_within option_at extended token_of
change_spelled = read_is change_told changed_message (are-bytes change_told refl) refl

-- it arrives there
abbrev change_gets : (past : List Action) (asking : Position) → IsPositionOf past asking → (asks : Asks 0 2 asking) → asks.sends.to ≡ origin → asks.sends.message ≡ get_for 3 2 → Gets setting 2 (here past change)
change_gets past asking was_asked asks to message = record {
  act = refl;
  outcome = refl;
  meets = record {
    asking = asking;
    was_asked = was_asked;
    asks = asks;
    message = changed_message;
    brings = record { bytes = change_told; came = ap (λ (e : Endpoint). arrival e change_told) (sym to); spells = change_spelled; short = omega arith };
    matches = in_acknowledgement refl refl refl (ap (λ (m : Message). m.id) (sym message));
  };
  bytes = are-bytes change_told refl;
}

-- the target of the request is changed
changed-there : Changes setting key_of_temp.target (here asked_past change)
unfolding changed_by token_of target_options target_sent key_sent uint_spelling spelling option_spelling
changed-there = record { exchange = 2; gets = change_gets asked_past (here opened_past asks_again) (inl refl) second_asks refl refl; concerned = refl }

-- so it was changed since the request for the first answer was sent
pub was_changed : WasChanged setting key_of_temp.target first_entry.asking changed_past
was_changed = record { position = here asked_past change; is_there = inl refl; holds = (changed-there, omega arith) }

-- the first answer itself changes nothing
content-quiet : concerns (changed_by (key_asked (first_gets Kept)).target (first_gets Kept).meets.message) key_of_temp.target ≡ false
unfolding changed_by
content-quiet = refl

-- so nothing changed the target before that
pub was_unchanged : Unchanged setting key_of_temp.target first_entry.asking asked_past
was_unchanged =
    told-stays false setting key_of_temp.target first_entry.asking opened_past asks_again refl
    (told-stays false setting key_of_temp.target first_entry.asking hit_past opens_again refl
    (told-stays false setting key_of_temp.target first_entry.asking kept_past hits refl
    (subst (λ (b : Bool). IsTold b setting key_of_temp.target first_entry.asking kept_past) content-quiet
    (told-on false key_of_temp.target first_entry.asking (first_gets Kept) (omega arith)
    (told-stays false setting key_of_temp.target first_entry.asking (opened ∷ []) asked refl
    (told-stays false setting key_of_temp.target first_entry.asking [] opened refl tt))))))

-- ---- what is sent from the cache

-- the cache is the same after the change
cache_changed : IsCacheOf setting changed_past (first_entry ∷ [])
cache_changed = otherwise change refl cache_asked_again

-- whatever is found in a cache with one entry is that entry
found-one : (key : CacheKey) (c d : Cached) → of_key cached_key key (c ∷ []) ≡ Some d → c ≡ d
found-one key c d found = go (same_key (cached_key c) key) refl found
  where
    go : (b : Bool) → same_key (cached_key c) key ≡ b → (if b then Some c else None) ≡ Some d → c ≡ d
    go true e is = same_Some c d is
    go false e is = absurd cc

-- so a hit uses that entry
hit-shows : (past : List Action) (d : Action) → IsCacheOf setting past (first_entry ∷ []) → (hit : IsHit setting past d) → first_entry ≡ hit.entry
hit-shows past d cache hit =
    let one = cache-unique setting past hit.cached (first_entry ∷ []) hit.is_cache cache in
    found-one hit.key first_entry hit.entry (subst (λ (cs : List Cached). of_key cached_key hit.key cs ≡ Some hit.entry) one hit.found)

-- an unchanged and fresh entry is sent with the rest of its Max-Age
reply_spelled : Spells (reply 25 9).observation.bytes (at_once get_read (shown 25 (stored_answer (entry_of_cached first_entry).1) 4 [] (tags_of get_read)))
unfolding read_message body_at options_within option_at extended uint_spelling
reply_spelled = read_is (reply 25 9).observation.bytes _ (are-bytes (reply 25 9).observation.bytes refl) refl

-- the client requests it
abbrev pub reply_asked : (now left : ℕ) → IsRequestOf setting (client 4) get_read (reply now left).observation.event
reply_asked now left = record { brings = record { bytes = get_t []; came = refl; spells = get_spelled; short = omega arith }; kind = refl; method = refl }

-- so the reply is justified
pub as_it_is : IsHit setting asked_past (reply 25 9)
unfolding verdict_of request_target mapped_target
as_it_is = record {
  act = refl;
  client = client 4;
  request = get_read;
  key = key_of_temp;
  cached = first_entry ∷ [];
  entry = first_entry;
  id = 4;
  asked = reply_asked 25 9;
  method = refl;
  verdict = refl;
  is_cache = cache_asked_again;
  found = refl;
  usable = record { fresh = refl; unchanged = was_unchanged };
  new = record { unknown = refl; room = omega arith };
  ids = λ non. record { free = omega arith };
  tells = record { sent = refl; spells = reply_spelled };
}

-- an entry that was changed isn't a hit
pub after_a_change : ¬ IsHit setting changed_past (reply 25 9)
after_a_change hit =
    let same = hit-shows changed_past (reply 25 9) cache_changed hit in
    told-contrary first_entry.asking (subst (λ (c : Cached). Unchanged setting c.key.target c.asking changed_past) (sym same) hit.usable.unchanged) was_changed

-- ---- replies from the cache

-- the first answer was fetched
pub first_fetched : IsFetched setting key_of_temp first_entry.asking first_entry.getting
unfolding token_of target_options target_sent key_sent spelling option_spelling uint_spelling
first_fetched = record {
  exchange = 1;
  gets = first_gets Kept;
  asking_is = refl;
  method = refl;
  asked_key = refl;
  passed = refl;
  unchanged = newest-unchanged setting key_of_temp.target (opened ∷ []) asked refl;
}

-- so it was obtained
pub first_obtained : (past : List Action) → IsPositionOf past first_entry.asking → IsPositionOf past first_entry.getting → WasObtained setting past first_entry
unfolding first_fetched token_of
first_obtained past was_asked was_got = record { was_asked = was_asked; was_got = was_got; obtained = first_hand first_fetched refl (record { code = refl; max_age = omega arith }) }

-- if it is unchanged, it is a reply from the cache, both before the change and after it
from_cache_if : (past : List Action) → IsPositionOf past first_entry.asking → IsPositionOf past first_entry.getting → Unchanged setting key_of_temp.target first_entry.asking past → IsFromCache setting past (reply 25 9).observation
unfolding verdict_of request_target mapped_target
from_cache_if past was_asked was_got unchanged = record {
  client = client 4;
  request = get_read;
  key = key_of_temp;
  asked = reply_asked 25 9;
  method = refl;
  key_is = refl;
  cached = first_entry;
  equal_key = refl;
  received = first_obtained past was_asked was_got;
  usable = record { fresh = refl; unchanged = unchanged };
  id = 4;
  shows = record { sent = refl; spells = reply_spelled };
}

pub from_cache : IsFromCache setting asked_past (reply 25 9).observation
from_cache = from_cache_if asked_past (inr (inr (inr (inr (inl refl))))) (inr (inr (inr (inl refl)))) was_unchanged

pub from_cache_but_for_the_change : Unchanged setting key_of_temp.target first_entry.asking changed_past → IsFromCache setting changed_past (reply 25 9).observation
from_cache_but_for_the_change = from_cache_if changed_past (inr (inr (inr (inr (inr (inl refl)))))) (inr (inr (inr (inr (inl refl)))))

-- the response that made the change can't be kept
not-of-the-change : {key : CacheKey} {response : Message} {asking : Position} → IsObtained setting key response asking (here asked_past change) → ⊥
not-of-the-change (first_hand {response = response} fetched is lasting) =
    let one = one-getting fetched.gets (change_gets asked_past (here opened_past asks_again) (inl refl) second_asks refl refl) in
    let code : response.code ≡ changed_message.code = ap (λ (m : Message). m.code) is ∙ ap (λ (m : Message). (passed_part true m).code) one.message in
    let none : is_cacheable response.code ≡ false = ap is_cacheable code in
    absurd (let e = sym lasting.code ∙ none in cc)
not-of-the-change (validated {old = old} fetched tag obtained behind tagged sent is renewal fit lasting) =
    let one = one-getting fetched.gets (change_gets asked_past (here opened_past asks_again) (inl refl) second_asks refl refl) in
    let valid : is_validated old (passed_part true changed_message) ≡ true = subst (λ (m : Message). is_validated old (passed_part true m) ≡ true) one.message is in
    not-valid (and_parts (is_code old.code CONTENT) false (and_parts (is_code old.code CONTENT && false) (option_map_or (λ (t : List ℕ). has_tag t (passed_part true changed_message)) (tag_of old.options) false) valid).0).1
  where
    not-valid : false ≡ true → ⊥
    not-valid e = absurd cc

-- an entry with the first answer was requested by the first request
pub asked-first : {key : CacheKey} {response : Message} {asking : Position} → IsObtained setting key response asking first_entry.getting → asking ≡ first_entry.asking
asked-first (first_hand fetched is lasting) = sym fetched.asking_is ∙ (one-getting fetched.gets (first_gets Kept)).asking
asked-first (validated fetched tag obtained behind tagged sent is renewal fit lasting) = sym fetched.asking_is ∙ (one-getting fetched.gets (first_gets Kept)).asking

-- an answer arrives at no other position
pub got-elsewhere : {key : CacheKey} {response : Message} {asking getting : Position} (p : Position) → accepts_answer p.action.observation.report.outcome ≡ false → p ≡ getting → IsObtained setting key response asking getting → ⊥
got-elsewhere {key} {response} {asking} {getting} p none same obtained = go (subst (λ (q : Position). IsObtained setting key response asking q) (sym same) obtained)
  where
    go : IsObtained setting key response asking p → ⊥
    go (first_hand fetched is lasting) = absurd (let e = sym fetched.gets.outcome ∙ none in cc)
    go (validated fetched tag other behind tagged sent is renewal fit lasting) = absurd (let e = sym fetched.gets.outcome ∙ none in cc)

-- so an obtained entry was requested before the change
obtained-first : {key : CacheKey} {response : Message} {asking getting : Position} → IsPositionOf changed_past getting → IsObtained setting key response asking getting → asking ≡ first_entry.asking
obtained-first {key} {response} {asking} {getting} (inl e) o = absurd (not-of-the-change (subst (λ (q : Position). IsObtained setting key response asking q) (sym e) o))
obtained-first (inr (inl e)) o = absurd (got-elsewhere (here opened_past asks_again) refl e o)
obtained-first (inr (inr (inl e))) o = absurd (got-elsewhere (here hit_past opens_again) refl e o)
obtained-first (inr (inr (inr (inl e)))) o = absurd (got-elsewhere (here kept_past hits) refl e o)
obtained-first {key} {response} {asking} {getting} (inr (inr (inr (inr (inl e))))) o = asked-first (subst (λ (q : Position). IsObtained setting key response asking q) (sym e) o)
obtained-first (inr (inr (inr (inr (inr (inl e)))))) o = absurd (got-elsewhere (here (opened ∷ []) asked) refl e o)
obtained-first (inr (inr (inr (inr (inr (inr (inl e))))))) o = absurd (got-elsewhere (here [] opened) refl e o)
obtained-first (inr (inr (inr (inr (inr (inr (inr none))))))) o = absurd none

-- the request has the key
pub key-asked : (key : CacheKey) → verdict_on setting get_read ≡ may_ask key → key ≡ key_of_temp
unfolding verdict_of request_target mapped_target
key-asked key is = let e : may_ask key_of_temp ≡ may_ask key = is in let same : key_of_temp ≡ key = cc in sym same

-- so an entry that was changed isn't a reply from the cache
pub not_from_cache : ¬ IsFromCache setting changed_past (reply 25 9).observation
not_from_cache f =
    let one = request-unique setting (reply 25 9).observation.event f.client (client 4) f.request get_read f.asked (reply_asked 25 9) in
    let key : f.cached.key ≡ key_of_temp = f.equal_key ∙ key-asked f.key (subst (λ (m : Message). verdict_on setting m ≡ may_ask f.key) one.1 f.key_is) in
    let target : f.cached.key.target ≡ key_of_temp.target = ap (λ (k : CacheKey). k.target) key in
    let asking : f.cached.asking ≡ first_entry.asking = obtained-first f.received.was_got f.received.obtained in
    let unchanged = subst (λ (t : Target). Unchanged setting t f.cached.asking changed_past) target f.usable.unchanged in
    told-contrary first_entry.asking (subst (λ (p : Position). Unchanged setting key_of_temp.target p changed_past) asking unchanged) was_changed

-- ---- entries that are stale, or sent wrongly

-- an entry that is stale by a millisecond isn't a hit
pub too_late : ¬ IsHit setting asked_past (reply 10006 0)
too_late hit =
    let same = hit-shows asked_past (reply 10006 0) cache_asked_again hit in
    let fresh : is_fresh 10006 (entry_of_cached first_entry).1 ≡ true = subst (λ (c : Cached). is_fresh 10006 (entry_of_cached c).1 ≡ true) (sym same) hit.usable.fresh in
    let stale : is_fresh 10006 (entry_of_cached first_entry).1 ≡ false = refl in
    absurd (let e = sym fresh ∙ stale in cc)

-- the Max-Age in a message
abbrev pub age_told : Result Message DecodeError → ℕ
age_told (Ok m) = max_age_of m
age_told (Err e) = 0

-- an entry isn't sent with its original Max-Age
pub as_received : ¬ IsHit setting asked_past (reply 25 10)
unfolding read_message body_at options_within option_at extended uint_spelling
as_received hit =
    let same = hit-shows asked_past (reply 25 10) cache_asked_again hit in
    let one = request-unique setting (reply 25 10).observation.event hit.client (client 4) hit.request get_read hit.asked (reply_asked 25 10) in
    let told = read_again (reply 25 10).observation.bytes _ hit.tells.spells in
    let nine : 10 ≡ 9 = ap age_told told ∙ (λ i. max_age_of (at_once (one.1 i) (shown 25 (stored_answer (entry_of_cached (sym same i)).1) hit.id (one.1 i).token (tags_of (one.1 i))))) in
    omega (arith, nine)

-- ---- what is kept

-- the second request is sent before the first is answered
pub early_unsent : Never (Sends 0 2) (opens_again ∷ asked ∷ opened ∷ [])
early_unsent = (unsent 2 (asked ∷ opened ∷ []) opens_again (λ e. cc), (other, (unsent 2 [] opened (λ e. cc), tt)))
  where
    other : ¬ Sends 0 2 (here (opened ∷ []) asked)
    other s = let e = same_moves 1 2 s.act in omega (arith, e)

-- so it was first sent there
abbrev early_asks : Asks 0 2 (here (opens_again ∷ asked ∷ opened ∷ []) asks_again)
early_asks = record {
  sends = record { act = refl; outcome = refl; to = origin; sent = refl; message = get_for 3 2; spells = second_sent; token = refl };
  first = early_unsent;
}

-- its answer changes the target after the first request was sent
early-changed : Changes setting key_of_temp.target (here (asks_again ∷ opens_again ∷ asked ∷ opened ∷ []) change)
unfolding changed_by token_of target_options target_sent key_sent uint_spelling spelling option_spelling
early-changed = record { exchange = 2; gets = change_gets (asks_again ∷ opens_again ∷ asked ∷ opened ∷ []) (here (opens_again ∷ asked ∷ opened ∷ []) asks_again) (inl refl) early_asks refl refl; concerned = refl }

-- so the target was changed since the first request was sent
overtaken : WasChanged setting key_of_temp.target (here (opened ∷ []) asked) overtaken_past
overtaken = record { position = here (asks_again ∷ opens_again ∷ asked ∷ opened ∷ []) change; is_there = inl refl; holds = (early-changed, omega arith) }

-- the first answer arrives after that
abbrev late_gets : Gets setting 1 (here overtaken_past keeps_overtaken)
late_gets = content_gets overtaken_past 25 1 1 Kept (here (opened ∷ []) asked) (inr (inr (inr (inl refl)))) first_asks refl refl (are-bytes (limited.got 1 1) refl) first_got (omega arith)

-- the request has the key
asked-temp : key_asked late_gets ≡ key_of_temp
unfolding token_of target_options target_sent key_sent uint_spelling spelling option_spelling
asked-temp = refl

-- so the answer isn't kept
pub overtaken_kept : ¬ IsKept setting overtaken_past keeps_overtaken
overtaken_kept kept =
    let one = one-getting kept.here.gets late_gets in
    let target : (key_asked kept.here.gets).target ≡ key_of_temp.target = ap (λ (k : CacheKey). k.target) (one.key ∙ asked-temp) in
    let unchanged = subst (λ (t : Target). Unchanged setting t kept.here.gets.meets.asking overtaken_past) target kept.here.unchanged in
    told-contrary (here (opened ∷ []) asked) (subst (λ (p : Position). Unchanged setting key_of_temp.target p overtaken_past) one.asking unchanged) overtaken

-- ---- a promise that isn't kept

-- the first of two exchanges is open when the second is opened
two-open : (setting : Setting) (past : List Action) (d e : Action) → d.observation.report.outcome ≡ Opened → e.observation.report.outcome ≡ Opened → AllJustified setting (e ∷ d ∷ past) → 1 < setting.limits.exchanges
two-open setting past d e first second all =
    let j : IsOpening setting past d = subst (λ (o : Outcome). JustifiedBy o setting past d) first all.1.0 in
    let k : IsOpening setting (d ∷ past) e = subst (λ (o : Outcome). JustifiedBy o setting (d ∷ past) e) second all.0 in
    let there : open_in (d ∷ past) ≡ open_in past ++ record { number = opened_in past + 1; client = j.client; stage = queued } ∷ [] = λ i. open_by (first i) (j.act i) (j.asked.brings.came i) d.observation.report.send (standing_in (d ∷ past)) (open_in past) in
    let more = length-append (open_in past) (record { number = opened_in past + 1; client = j.client; stage = queued } ∷ []) in
    let room = k.room.shared.exchange in
    omega (arith, ap (λ (xs : List Open). length xs) there, more, room)

-- so with room for one, this isn't the history of a proxy that keeps its promise
pub two_exchanges : (w : State) → w.setting.limits.exchanges ≡ 1 → ¬ KeepsItsWord opens_two w
two_exchanges w one word = go word.actions word.told word.justified
  where
    outcome : Observation → Outcome
    outcome e = e.report.outcome

    go : (actions : List Action) → told_by actions ≡ opens_two → AllJustified w.setting actions → ⊥
    go [] told all = absurd (let few = ap (λ (es : List Observation). length es) told in omega (arith, few))
    go (e ∷ []) told all = absurd (let few = ap (λ (es : List Observation). length es) told in omega (arith, few))
    go (e ∷ d ∷ past) told all =
        let many = two-open w.setting past d e (ap (λ (es : List Observation). outcome (get_or es 1 opened.observation)) told) (ap (λ (es : List Observation). outcome (get_or es 0 opened.observation)) told) all in
        omega (arith, one, many)
