-- The report of a step says whether there was memory.
use Rattle.std.proofs.Common.{◌≡◌, ℕ, Bool, true, false, nat_le, List, Option, Some, None, refl, ap}
use Rattle.std.specs.Prelude.{◌&&◌, if◌then◌else◌}
use Rattle.coap_message.specs.Codes.{is_request, is_response}
use Rattle.coap_message.specs.declared.message.Head.{Head}
use Rattle.coap_message.specs.Message.{Message}
use Rattle.coap_message.specs.Reading.{head_at}
use Rattle.coap_endpoint.specs.declared.endpoint.Endpoint.{Endpoint}
use Rattle.coap_store.specs.Entries.{Entry, entry_key, entry_size}
use Rattle.coap_store.specs.Lists.{of_key, others}
use Rattle.coap_pending.specs.declared.exchange.Exchange.{Exchange}
use Rattle.coap_pending.specs.Table.{Numbered, first_that, item_at}
use Rattle.coap_model.specs.declared.deed.Deed.TheVariants as deeds
use Rattle.coap_model.specs.declared.deed.Unprocessed.{Unprocessed}
use Rattle.coap_model.specs.Deeds.{unread, unprocessable}
use Rattle.coap_model.specs.declared.report.Outcome.{Outcome}
use Rattle.coap_model.specs.declared.report.Outcome.TheVariants.{Answered}
use Rattle.coap_model.specs.declared.report.Storing.{Storing}
use Rattle.coap_model.specs.declared.report.Storing.TheVariants.{Kept, TooLarge, NoMemory, NotStored}
use Rattle.coap_forward.specs.Changes.{changed_by}
use Rattle.coap_model.specs.Events.{Event, arrival, tick}
use Rattle.coap_model.specs.History.{grown_of}
use Rattle.coap_message.specs.declared.kind.Kind.{Kind}
use Rattle.coap_message.specs.declared.kind.Kind.TheVariants.{Con, Non, Ack, Rst}
use Rattle.coap_dedup.specs.declared.record.Record.{Record}
use Rattle.coap_pending.specs.Exchanges.{is_sent, was_sent_as}
use Rattle.coap_forward.specs.Messages.{brings_requests, brings_responses, is_con, is_ack, is_bare, acknowledgement}
use Rattle.coap_model.specs.Answers.{Arrived, with_changed, entry_made, answers_so, keeps_if, may_store, answer_for, answers}
use Rattle.coap_model.specs.Empties.{on_delivery, acknowledges, settles, on_exchange, on_found, on_empty}
use Rattle.coap_model.specs.Requests.{on_request}
use Rattle.coap_model.specs.Responses.{awaiting, on_not_confirmable, on_new_confirmable, on_unknown, on_response_in, on_response}
use Rattle.coap_model.specs.Step.{on_no_response, on_no_request, message_in, on_read, step_of}
use Rattle.coap_model.specs.State.{State, Step, known_of, has_record_room, remembers, drops, unprocessed, says, silent}
use Rattle.coap_model.proofs.Rules.{answered_state}

-- a step that depends on the memory is the one that its own report determines
abbrev IsTold : (Bool → Step) → Type 0
IsTold s = (grown : Bool) → s (grown_of (s grown).report.outcome) ≡ s grown

-- so is a choice between two such steps
either : (b : Bool) (s t : Bool → Step) → IsTold s → IsTold t → IsTold (λ grown. if b then s grown else t grown)
either true s t p q = p
either false s t p q = q

-- and one whose message is remembered
remembered-told : (now : ℕ) (source : Endpoint) (m : Message) (s : Bool → Step) → IsTold s → IsTold (λ grown. remembers now source m (s grown))
remembered-told now source m s told grown = ap (remembers now source m) (told grown)

-- an answer's report says how it was stored, whatever is sent immediately
so-outcome : (w : State) (now : ℕ) (a : Arrived) (storing : Storing) (store : List Entry) → (answers_so w now a storing store).report.outcome ≡ Answered storing
so-outcome w now a storing store = go (is_con a.message.kind)
  where
    go : (b : Bool) → (if b then says (deeds.Answered a.exchange.0 storing) a.source (acknowledgement a.message.id) (answered_state w now a.exchange.0 a.answer store) else silent (deeds.Answered a.exchange.0 storing) (answered_state w now a.exchange.0 a.answer store)).report.outcome ≡ Answered storing
    go true = refl
    go false = refl

-- an answer that is kept depends on the memory if its key has no entry
kept-told : (w : State) (now : ℕ) (a : Arrived) (o : Option Entry) → IsTold (λ grown. keeps_if w now grown a o)
kept-told w now a None true = ap (λ (o : Outcome). keeps_if w now (grown_of o) a None) (so-outcome w now a Kept _)
kept-told w now a None false = ap (λ (o : Outcome). keeps_if w now (grown_of o) a None) (so-outcome w now a NoMemory w.store)
kept-told w now a (Some entry) grown = refl

-- storing an answer
answers-told : (w : State) (now : ℕ) (source : Endpoint) (m : Message) (x : Numbered Exchange) → IsTold (λ grown. answers w now grown source m x)
answers-told w now source m x =
    let a : Arrived = record { source = source; message = m; exchange = x; answer = answer_for w now m x.1 } in
    let changed = with_changed (changed_by x.1.key.target m) w in
    let small = nat_le (entry_size (entry_made changed now x.1 a.answer)) changed.setting.limits.cache_bytes in
    either (may_store x.1 a.answer) (λ grown. if small then keeps_if changed now grown a (of_key entry_key x.1.key changed.store) else answers_so changed now a TooLarge (others entry_key x.1.key changed.store)) (λ grown. answers_so changed now a NotStored changed.store)
    (either small (λ grown. keeps_if changed now grown a (of_key entry_key x.1.key changed.store)) (λ grown. answers_so changed now a TooLarge (others entry_key x.1.key changed.store)) (kept-told changed now a (of_key entry_key x.1.key changed.store)) (λ grown. refl))
    (λ grown. refl)

-- ---- responses

-- a response with an exchange that may await it
awaited-told : (w : State) (now : ℕ) (source : Endpoint) (m : Message) (o : Option (Numbered Exchange)) → IsTold (λ grown. on_not_confirmable w now grown source m o)
awaited-told w now source m None = λ grown. refl
awaited-told w now source m (Some x) = answers-told w now source m x

-- a Confirmable response
new_confirmable-told : (w : State) (now : ℕ) (source : Endpoint) (m : Message) (o : Option (Numbered Exchange)) → IsTold (λ grown. on_new_confirmable w now grown source m o)
new_confirmable-told w now source m None = λ grown. refl
new_confirmable-told w now source m (Some x) =
    either (has_record_room w now source m.kind) (λ grown. remembers now source m (answers w now grown source m x)) (λ grown. drops w now m.kind)
    (remembered-told now source m (λ grown. answers w now grown source m x) (answers-told w now source m x)) (λ grown. refl)

-- a Confirmable response that may be known
unknown-told : (w : State) (now : ℕ) (source : Endpoint) (m : Message) (o : Option Record) → IsTold (λ grown. on_unknown w now grown source m o)
unknown-told w now source m None = new_confirmable-told w now source m (awaiting w source m)
unknown-told w now source m (Some known) = λ grown. refl

-- a response of any type
response-told : (w : State) (now : ℕ) (source : Endpoint) (m : Message) (k : Kind) → IsTold (λ grown. on_response_in k w now grown source m)
response-told w now source m Con = unknown-told w now source m (known_of w now source m)
response-told w now source m Non = awaited-told w now source m (awaiting w source m)
response-told w now source m Ack = awaited-told w now source m (awaiting w source m)
response-told w now source m Rst = awaited-told w now source m (awaiting w source m)

-- ---- Empty messages

-- an Empty message for an exchange that is found
found-told : (w : State) (now : ℕ) (source : Endpoint) (m : Message) (n : ℕ) (o : Option Exchange) → IsTold (λ grown. on_exchange w now grown source m n o)
found-told w now source m n None = λ grown. refl
found-told w now source m n (Some x) =
    either (is_sent x) (λ grown. settles w now grown source m n x) (λ grown. on_delivery w now source m)
    (either (is_ack m.kind) (λ grown. acknowledges w now n) (λ grown. answers w now grown source m (n, x)) (λ grown. refl) (answers-told w now source m (n, x)))
    (λ grown. refl)

-- an Empty message for something that was sent
sent-told : (w : State) (now : ℕ) (source : Endpoint) (m : Message) (o : Option ℕ) → IsTold (λ grown. on_found w now grown source m o)
sent-told w now source m None = λ grown. refl
sent-told w now source m (Some n) = found-told w now source m n (item_at n w.exchanges)

-- ---- steps

-- a datagram that was read
read-told : (w : State) (now : ℕ) (source : Endpoint) (why : Unprocessed) (h : Option Head) (o : Option Message) → IsTold (λ grown. on_read w now grown source why h o)
read-told w now source why None o = λ grown. refl
read-told w now source why (Some head) None = λ grown. refl
read-told w now source why (Some head) (Some m) =
    either (brings_requests m.kind && is_request m.code) (λ grown. on_request w now source m) (λ grown. on_no_request w now grown source m) (λ grown. refl)
    (either (brings_responses m.kind && is_response m.code) (λ grown. on_response w now grown source m) (λ grown. on_no_response w now grown source m) (response-told w now source m m.kind)
    (either (is_bare m) (λ grown. on_empty w now grown source m) (λ grown. unprocessed w now source m.kind m.id (unprocessable m.kind m.code)) (sent-told w now source m (first_that (was_sent_as source m.id now) w.exchanges)) (λ grown. refl)))

-- each step is the one that its own report determines
pub step-told : (w : State) (now draw : ℕ) (event : Event) (grown : Bool) → step_of w now draw (grown_of (step_of w now draw grown event).report.outcome) event ≡ step_of w now draw grown event
step-told w now draw (arrival source bytes) = read-told w now source (unread w.setting.limits.datagram bytes) (head_at bytes) (message_in w.setting.limits.datagram bytes)
step-told w now draw tick = λ grown. refl

-- an outcome says that memory ran out only if an answer wasn't stored for this reason
pub wanting-told : (outcome : Outcome) → grown_of outcome ≡ false → outcome ≡ Answered NoMemory
wanting-told (Answered NoMemory) e = refl
wanting-told _ e = absurd cc
