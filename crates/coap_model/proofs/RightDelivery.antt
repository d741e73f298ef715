-- Deliveries that are right; the forged ones differ from them in one thing.
use Rattle.std.proofs.Common.{◌≡◌, ◌≢◌, inl, inr, ⊎_elim, ℕ, ◌<◌, Bool, true, false, cond, List, [], ◌∷◌, Option, Some, None, refl, sym, arith}
use Rattle.std.specs.Prelude.{◌==◌, option_map}
use Rattle.std.proofs.lemmas.Option.{same_Some}
use Rattle.coap_message.specs.declared.kind.Kind.TheVariants.{Con}
use Rattle.coap_message.specs.Message.{Message}
use Rattle.coap_message.specs.Uint.{uint_spelling}
use Rattle.coap_message.specs.Reading.{read_message, body_at, options_within, option_at, extended}
use Rattle.coap_message.specs.Spelling.{Spells, spelling, option_spelling}
use Rattle.coap_message.proofs.WholeMessages.{read_is}
use Rattle.coap_endpoint.specs.declared.endpoint.Endpoint.{Endpoint}
use Rattle.coap_option.specs.Selection.{tags_of}
use Rattle.coap_target.specs.Routes.{mapped_target}
use Rattle.coap_target.specs.Request.{request_target}
use Rattle.coap_forward.specs.Forms.{target_options}
use Rattle.coap_forward.specs.Messages.{token_of, is_get}
use Rattle.coap_forward.specs.Answers.{answer_of, shown_as}
use Rattle.coap_model.specs.declared.report.Outcome.TheVariants.{Opened}
use Rattle.coap_model.specs.Events.{arrival}
use Rattle.coap_model.specs.Examples.{origin, client, content, content_for_client, content_in, get_t}
use Rattle.coap_model.specs.OptionExamples.{key_of_temp}
use Rattle.coap_model.specs.CacheExamples.{content_for, get_for}
use Rattle.coap_model.specs.Keys.{target_sent, key_sent}
use Rattle.coap_model.specs.Verdicts.{may_ask, verdict_of}
use Rattle.coap_model.specs.Standing.{Stage, Open, queued, sent, done, WaiterStanding, waits, delivering, stage_of, service_of}
use Rattle.coap_model.specs.Due.{to_send, to_repeat, to_end, IsToServe, to_serve, to_serve_again, IsDueAt, IsSooner}
use Rattle.coap_model.specs.History.{Act, no_item, admits, moves, serves, Action, IsRequestOf, Sends, Asks, in_acknowledgement}
use Rattle.coap_model.specs.Cached.{empty}
use Rattle.coap_model.specs.Justified.{got, IsDelivery, verdict_on}
use Rattle.coap_model.specs.Forged.{setting, asked, answered, past, past_con, delivery, right, in_con}
use Rattle.coap_model.proofs.Positions.{here, admitted-number}
use Rattle.coap_model.proofs.CacheExamples.{are-bytes, first_sent, first_got, get_read, get_spelled}

-- a client's request in these bytes is accepted, with whatever is sent immediately
abbrev opening : List ℕ → Option Endpoint → List ℕ → Action
opening came send bytes = record { observation = record { now = 0; draw = 0; event = arrival (client 1) came; report = record { send = send; outcome = Opened }; bytes = bytes }; act = admits 1 1 }

-- it is forwarded, and its answer arrives
abbrev past_of : Action → List Action
past_of o = answered ∷ asked ∷ o ∷ []

-- the request was sent there, and never before
abbrev asks_first : (o : Action) → ((x : ℕ) → ¬ Sends 0 x (here [] o)) → Asks 0 1 (here (o ∷ []) asked)
asks_first o unsent_there = record {
  sends = record { act = refl; outcome = refl; to = origin; sent = refl; message = get_for 1 1; spells = first_sent; token = refl };
  first = (unsent_there 1, tt);
}

-- ---- what is due

-- the only exchange has ended
one_stage : {A : Type 0} (came : List ℕ) (send : Option Endpoint) (bytes : List ℕ) (x : ℕ) (stage : Stage) → stage ≢ done → stage_of x (past_of (opening came send bytes)) ≡ Some stage → A
one_stage came send bytes x stage other e = go (1 == x) e
  where
    go : {A : Type 0} (b : Bool) → option_map {T = Open} (λ q. q.stage) (cond b (Some (record { number = 1; client = client 1; stage = done })) None) ≡ Some stage → A
    go true e = absurd (other (sym (same_Some done stage e)))
    go false e = absurd cc

-- the only waiter waits
one_service : {A : Type 0} (came : List ℕ) (send : Option Endpoint) (bytes : List ℕ) (v : ℕ) → service_of v (past_of (opening came send bytes)) ≡ Some delivering → A
one_service came send bytes v e = go (1 == v) e
  where
    go : {A : Type 0} (b : Bool) → option_map {T = WaiterStanding} (λ s. s.service) (cond b (Some (record { number = 1; client = client 1; service = waits 1 })) None) ≡ Some delivering → A
    go true e = absurd cc
    go false e = absurd cc

-- nothing is due before the waiter is served
first_due : (came : List ℕ) (send : Option Endpoint) (bytes : List ℕ) (a : Act) (m : ℕ) → IsDueAt setting (past_of (opening came send bytes)) a m → ¬ IsSooner a m (serves 1) 0
first_due came send bytes no_item m due sooner = due
first_due came send bytes (admits v x) m due sooner = due
first_due came send bytes (moves x) m (to_send t) sooner = one_stage came send bytes x queued (λ e. cc) t.stage
first_due came send bytes (moves x) m (to_repeat t) sooner = one_stage came send bytes x (sent t.to) (λ e. cc) t.stage
first_due came send bytes (moves x) m (to_end t) sooner = let at = t.at_is in ⊎_elim (λ (less : m < 0). omega (arith, less)) (λ same. let now = same.0 in omega (arith, at, now)) sooner
first_due came send bytes (serves v) m (to_serve t) sooner = let number = admitted-number t.admitted in ⊎_elim (λ (less : m < 0). omega (arith, less)) (λ same. let before = same.1 in omega (arith, before, number.0)) sooner
first_due came send bytes (serves v) m (to_serve_again t) sooner = one_service came send bytes v t.service

-- ---- right deliveries

-- the client's view of the answer, in a message of the type of its request, is a delivery
right-is : (came : List ℕ) (send : Option Endpoint) (bytes reply : List ℕ) (request : Message) → IsRequestOf setting (client 1) request (arrival (client 1) came) → verdict_on setting request ≡ may_ask key_of_temp → Spells reply (shown_as request.kind (is_get request.code) 2500 (answer_of 1500 true None 0 (content_for 1 1)) 2 request.token (tags_of request)) → IsDelivery setting (past_of (opening came send bytes)) (delivery (client 1) reply (serves 1))
unfolding token_of target_options target_sent key_sent
right-is came send bytes reply request asked_so verdict spells =
    let o = opening came send bytes in
    let serve : IsToServe setting (past_of o) 1 0 = record {
      admitted = record { exchange = 1; admission = here [] o; client = client 1; request = request; was_admitted = inr (inr (inl refl)); admits = record { act = refl; outcome = refl; number = refl }; asked = asked_so };
      unserved = ((λ s. let e = s.outcome in cc), ((λ s. let e = s.outcome in cc), ((λ s. let e = s.outcome in cc), tt)));
      ending = here (asked ∷ o ∷ []) answered;
      was_ended = inl refl;
      ends = record { act = refl; outcome = refl };
      at_is = refl;
    } in
    record {
      waiter = 1;
      act = refl;
      acting = record { ticked = refl; at = 0; due = to_serve serve; come = omega arith; first = first_due came send bytes };
      to_serve = serve;
      later = inr (inl refl);
      key = key_of_temp;
      verdict = verdict;
      answer = answer_of 1500 true None 0 (content_for 1 1);
      ended = got (record {
        act = refl;
        outcome = refl;
        meets = record {
          asking = here (o ∷ []) asked;
          was_asked = inl refl;
          asks = asks_first o (λ x s. let e = s.outcome in cc);
          message = content_for 1 1;
          brings = record { bytes = content; came = refl; spells = first_got; short = omega arith };
          matches = in_acknowledgement refl refl refl refl;
        };
        bytes = are-bytes content refl;
      }) [] (record { opening = here [] o; was_opened = inl refl; opens = (refl, refl); is_cache = empty }) refl refl;
      id = 2;
      tells = record { sent = refl; spells = spells };
    }

-- the Confirmable request
abbrev con_read : Message
con_read = record get_read { kind = Con }

con_spelled : Spells (0x40 ∷ 1 ∷ 0 ∷ 7 ∷ 0xB1 ∷ 0x74 ∷ []) con_read
unfolding read_message body_at options_within option_at extended
con_spelled = read_is _ con_read (are-bytes (0x40 ∷ 1 ∷ 0 ∷ 7 ∷ 0xB1 ∷ 0x74 ∷ []) refl) refl

-- what a client with a Non-confirmable request is sent
pub is_right : IsDelivery setting past right
unfolding read_message body_at options_within option_at extended answer_of spelling option_spelling uint_spelling verdict_of request_target mapped_target
is_right = right-is _ None [] (content_for_client 7) get_read (record { brings = record { bytes = get_t []; came = refl; spells = get_spelled; short = omega arith }; kind = refl; method = refl }) refl (read_is (content_for_client 7) _ (are-bytes (content_for_client 7) refl) refl)

-- and what one with a Confirmable request is sent
pub is_right_in_con : IsDelivery setting past_con in_con
unfolding read_message body_at options_within option_at extended answer_of spelling option_spelling uint_spelling verdict_of request_target mapped_target
is_right_in_con = right-is _ (Some (client 1)) (0x60 ∷ 0 ∷ 0 ∷ 7 ∷ []) (content_in 0x40 7) con_read (record { brings = record { bytes = 0x40 ∷ 1 ∷ 0 ∷ 7 ∷ 0xB1 ∷ 0x74 ∷ []; came = refl; spells = con_spelled; short = omega arith }; kind = refl; method = refl }) refl (read_is (content_in 0x40 7) _ (are-bytes (content_in 0x40 7) refl) refl)
