-- An event brings at most one message.
use Rattle.std.proofs.Common.{◌≡◌, ℕ, false, List, Option, Some, sym, ap, ◌∙◌}
use Rattle.std.proofs.lemmas.Option.{same_Some}
use Rattle.coap_message.specs.declared.kind.Kind.{Kind}
use Rattle.coap_message.specs.declared.message.Head.{Head}
use Rattle.coap_message.specs.Message.{Message}
use Rattle.coap_message.specs.Reading.{head_at}
use Rattle.coap_message.proofs.WholeMessages.{read_again, head_read}
use Rattle.coap_endpoint.specs.declared.endpoint.Endpoint.{Endpoint}
use Rattle.coap_model.specs.Events.{Event, arrival, tick}
use Rattle.std.specs.Option.{option_map_or}
use Rattle.coap_model.specs.Setting.{Setting}
use Rattle.coap_forward.specs.Messages.{is_con}
use Rattle.coap_model.specs.History.{Brings, comes_con, IsRequestOf}
use Rattle.coap_model.proofs.Positions.{arrival-same}

-- an arrival isn't a tick
pub no_tick : {A : Type 0} {event : Event} {source : Endpoint} {bytes : List ℕ} → event ≡ arrival source bytes → event ≡ tick → A
no_tick came ticked = absurd (let e = sym came ∙ ticked in cc)

-- a message has the type of its head
pub head_kind : {event : Event} {most : ℕ} {a b : Endpoint} {m : Message} {head : Head} {ys : List ℕ} → Brings most a m event → event ≡ arrival b ys → head_at ys ≡ Some head → m.kind ≡ head.kind
head_kind {a = a} {b = b} {m = m} {head = head} {ys = ys} p came is =
    let same = arrival-same a b p.bytes ys (sym p.came ∙ came) in
    let read = head_read p.bytes m (read_again p.bytes m p.spells) in
    let at : head_at p.bytes ≡ Some head = ap head_at same.1 ∙ is in
    ap (λ (h : Head). h.kind) (same_Some (record { kind = m.kind; code = m.code; id = m.id }) head (sym read ∙ at))

-- so it has no other type
pub kinds : {A : Type 0} {m n k l : Kind} → m ≡ n → m ≡ k → n ≡ l → (k ≡ l → ⊥) → A
kinds same m_is n_is other = absurd (other (sym m_is ∙ same ∙ n_is))

-- a request is Confirmable if its datagram is
pub request_con : {setting : Setting} {client : Endpoint} {m : Message} {event : Event} → IsRequestOf setting client m event → comes_con event ≡ is_con m.kind
request_con {m = m} r =
    let b = r.brings in
    let read = head_read b.bytes m (read_again b.bytes m b.spells) in
    ap comes_con b.came ∙ ap (λ (h : Option Head). option_map_or (λ k. is_con k.kind) h false) read
