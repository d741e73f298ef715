-- Forged acknowledgements of an answer close no waiter.
use Rattle.std.proofs.Common.{◌≡◌, inl, inr, ℕ, [], ◌∷◌, codes, Some, refl, sym, ap, ◌∙◌, subst, arith}
use Rattle.std.proofs.lemmas.Option.{same_Some}
use Rattle.coap_endpoint.specs.declared.endpoint.Endpoint.{Endpoint}
use Rattle.coap_message.specs.declared.kind.Kind.TheVariants.{Ack, Con}
use Rattle.coap_message.specs.declared.code.TheConstants.Code.{CONTENT, EMPTY}
use Rattle.coap_message.specs.Message.{Message}
use Rattle.coap_message.specs.Options.{option_of}
use Rattle.coap_message.specs.Reading.{read_message, body_at, options_within, option_at, extended}
use Rattle.coap_message.specs.Spelling.{Spells}
use Rattle.coap_message.proofs.WholeMessages.{one_message, read_is}
use Rattle.coap_option.specs.declared.numbers.TheConstants.{MAX_AGE}
use Rattle.coap_model.specs.declared.report.Outcome.TheVariants.{Delivered}
use Rattle.coap_model.specs.Examples.{client, content_in}
use Rattle.coap_model.specs.History.{Brings, Position, IsPositionOf, Serves}
use Rattle.coap_model.specs.Justified.{Closes}
use Rattle.coap_model.specs.Forged.{setting, asked, answered, opened_con, past_con, in_con, acknowledged}
use Rattle.coap_model.proofs.CacheExamples.{are-bytes}
use Rattle.coap_model.proofs.Positions.{here, one-brought}

-- an acknowledgement with nothing but an id
abbrev empty_of : ℕ → Message
empty_of id = record { kind = Ack; code = EMPTY; id = id; token = []; options = []; payload = [] }

-- an acknowledgement with the id of the answer
second_spelled : Spells (0x60 ∷ 0 ∷ 0 ∷ 2 ∷ []) (empty_of 2)
unfolding read_message body_at options_within option_at extended
second_spelled = read_is (0x60 ∷ 0 ∷ 0 ∷ 2 ∷ []) (empty_of 2) (are-bytes (0x60 ∷ 0 ∷ 0 ∷ 2 ∷ []) refl) refl

-- and one with another id
third_spelled : Spells (0x60 ∷ 0 ∷ 0 ∷ 3 ∷ []) (empty_of 3)
unfolding read_message body_at options_within option_at extended
third_spelled = read_is (0x60 ∷ 0 ∷ 0 ∷ 3 ∷ []) (empty_of 3) (are-bytes (0x60 ∷ 0 ∷ 0 ∷ 3 ∷ []) refl) refl

-- the answer that the client was sent has the id 2
abbrev told_to_client : Message
told_to_client = record { kind = Con; code = CONTENT; id = 2; token = []; options = option_of MAX_AGE (7 ∷ []) ∷ []; payload = codes "21" }

-- the datagram encodes the answer
told_spelled : Spells (content_in 0x40 7) told_to_client
unfolding read_message body_at options_within option_at extended
told_spelled = read_is (content_in 0x40 7) told_to_client (are-bytes (content_in 0x40 7) refl) refl

-- an acknowledgement with this id closes it
pub by_its_id : Closes setting (in_con ∷ past_con) 3000 1 (acknowledged (client 1) 2)
by_its_id = record {
  serving = here past_con in_con;
  was_served = inl refl;
  serves = record { act = refl; outcome = refl };
  service = refl;
  soon = omega arith;
  to = client 1;
  sent = refl;
  answer = told_to_client;
  spells = told_spelled;
  message = empty_of 2;
  brings = record { bytes = 0x60 ∷ 0 ∷ 0 ∷ 2 ∷ []; came = refl; spells = second_spelled; short = omega arith };
  kind = inl refl;
  empty = refl;
  id_is = refl;
}

-- the waiter was served at no other position
not-served : (p q : Position) → p ≡ q → (p.action.observation.report.outcome ≡ Delivered → ⊥) → Serves 1 q → ⊥
not-served p q same none s = none (ap (λ (r : Position). r.action.observation.report.outcome) same ∙ s.outcome)

-- the waiter was served at one position
served-there : (p : Position) → IsPositionOf (in_con ∷ past_con) p → Serves 1 p → here past_con in_con ≡ p
served-there p (inl e) s = e
served-there p (inr (inl e)) s = absurd (not-served (here (asked ∷ opened_con ∷ []) answered) p e (λ same. cc) s)
served-there p (inr (inr (inl e))) s = absurd (not-served (here (opened_con ∷ []) asked) p e (λ same. cc) s)
served-there p (inr (inr (inr (inl e)))) s = absurd (not-served (here [] opened_con) p e (λ same. cc) s)
served-there p (inr (inr (inr (inr none)))) s = absurd none

-- one with another id doesn't
pub by_another_id : ¬ Closes setting (in_con ∷ past_con) 3000 1 (acknowledged (client 1) 3)
by_another_id c =
    let three : Brings 1500 (client 1) (empty_of 3) (acknowledged (client 1) 3) = record { bytes = 0x60 ∷ 0 ∷ 0 ∷ 3 ∷ []; came = refl; spells = third_spelled; short = omega arith } in
    let one = one-brought c.brings three in
    let there = served-there c.serving c.was_served c.serves in
    let spelled = subst (λ (p : Position). Spells p.action.observation.bytes c.answer) (sym there) c.spells in
    let answer : c.answer ≡ told_to_client = one_message (content_in 0x40 7) c.answer told_to_client spelled told_spelled in
    let same : 3 ≡ 2 = sym (ap (λ (m : Message). m.id) one.1) ∙ c.id_is ∙ ap (λ (m : Message). m.id) answer in
    omega (arith, same)

-- nor does one from another client
pub by_another_client : ¬ Closes setting (in_con ∷ past_con) 3000 1 (acknowledged (client 2) 2)
by_another_client c =
    let two : Brings 1500 (client 2) (empty_of 2) (acknowledged (client 2) 2) = record { bytes = 0x60 ∷ 0 ∷ 0 ∷ 2 ∷ []; came = refl; spells = second_spelled; short = omega arith } in
    let one = one-brought c.brings two in
    let there = served-there c.serving c.was_served c.serves in
    let sent : Some (client 1) ≡ Some c.to = ap (λ (p : Position). p.action.observation.report.send) there ∙ c.sent in
    let to : client 1 ≡ client 2 = same_Some (client 1) c.to sent ∙ one.0 in
    let port = ap (λ (e : Endpoint). e.port) to in
    omega (arith, port)
