-- A message repeats at most one position: an outcome that is remembered is only given to a message
-- that isn't remembered.
use Rattle.std.proofs.Common.{◌≡◌, ◌⊎◌, refl, ⊎_elim, ℕ, ◌+◌, ◌<◌, ◌≤◌, true, List, Some, None, sym, ap, ◌∙◌, subst, arith}
use Rattle.std.specs.Prelude.{if◌then◌else◌}
use Rattle.std.proofs.lemmas.Option.{same_Some}
use Rattle.coap_message.specs.declared.kind.Kind.{Kind}
use Rattle.coap_message.specs.declared.kind.Kind.TheVariants.{Con, Non}
use Rattle.coap_message.specs.declared.message.Head.{Head}
use Rattle.coap_message.specs.Message.{Message}
use Rattle.coap_message.specs.Reading.{head_at}
use Rattle.coap_message.proofs.WholeMessages.{read_again, head_read}
use Rattle.coap_endpoint.specs.declared.endpoint.Endpoint.{Endpoint}
use Rattle.coap_dedup.specs.declared.record.Record.{Record}
use Rattle.coap_dedup.specs.Lists.{record_of}
use Rattle.coap_model.specs.declared.report.Outcome.{Outcome}
use Rattle.coap_model.specs.declared.report.Outcome.TheVariants.{Ignored, Rejected, Again, NoRecordRoom, Refused, Hit, Joined, Opened, Overloaded, NoId, Answered, Acked, SentRequest, Resent, Delivered, GaveUp, Idle}
use Rattle.coap_model.specs.Setting.{Setting}
use Rattle.coap_model.specs.Events.{arrival}
use Rattle.coap_forward.specs.Messages.{is_con, brings_requests, kept_reply}
use Rattle.coap_model.specs.History.{Action, Position, IsPositionOf, last_of, IsInOrder, Brings}
use Rattle.coap_model.specs.Remembered.{is_remembered, remembered_at}
use Rattle.coap_model.specs.Duplicates.{Repeats}
use Rattle.coap_model.specs.Justified.{known_of, HasRecordRoom, IsAnswer, Accepts, JustifiedBy, AllJustified}
use Rattle.coap_model.proofs.Arrivals.{head_kind}
use Rattle.coap_model.proofs.OwedActions.{taken-so}
use Rattle.coap_model.proofs.Sorts.{con-so}
use Rattle.coap_model.proofs.Duplicates.{known-position, position-known}
use Rattle.coap_model.proofs.Positions.{arrival-same, in-order, justified-at}
use Rattle.coap_model.proofs.Moments.{not-later}

-- something was done with a new message, and a Confirmable one got an immediate reply
pub record IsNewHere (setting : Setting) (past : List Action) (d : Action) : Type 0 where
  pub source : Endpoint
  pub message : Message
  pub brings : Brings setting.limits.datagram source message d.observation.event
  pub kind : brings_requests message.kind ≡ true
  pub unknown : known_of past d.observation.now source message ≡ None
  pub room : HasRecordRoom setting past d.observation.now source message
  pub sent : message.kind ≡ Con → d.observation.report.send ≡ Some source

-- no message has both types
not-both : {A : Type 0} {k : Kind} → k ≡ Non → k ≡ Con → A
not-both non con = absurd (let e = sym non ∙ con in cc)

-- an answer in a Confirmable message was new, and is acknowledged
answer-new : (setting : Setting) (past : List Action) (d : Action) (a : IsAnswer setting past d) → a.gets.meets.message.kind ≡ Con → IsNewHere setting past d
answer-new setting past d a con =
    record {
      source = a.gets.meets.asks.sends.to;
      message = a.gets.meets.message;
      brings = a.gets.meets.brings;
      kind = ap brings_requests con;
      unknown = (a.new con).unknown;
      room = (a.new con).room;
      sent = λ _. (subst (λ (k : Kind). Accepts k a.gets.meets.asks.sends.to a.gets.meets.message.id d.observation) con a.accepts).sent;
    }

-- a message that is remembered was new
pub new-here : (o : Outcome) (setting : Setting) (past : List Action) (d : Action) (source : Endpoint) (bytes : List ℕ) (former : Head) → JustifiedBy o setting past d → d.observation.event ≡ arrival source bytes → head_at bytes ≡ Some former → is_remembered o former.kind ≡ true → IsNewHere setting past d
new-here (Refused code) setting past d source bytes former j came head kept = record { source = j.client; message = j.request; brings = j.asked.brings; kind = j.asked.kind; unknown = j.new.unknown; room = j.new.room; sent = λ con. j.tells.sent }
new-here Hit setting past d source bytes former j came head kept = record { source = j.client; message = j.request; brings = j.asked.brings; kind = j.asked.kind; unknown = j.new.unknown; room = j.new.room; sent = λ con. j.tells.sent }
new-here Overloaded setting past d source bytes former j came head kept = record { source = j.client; message = j.request; brings = j.asked.brings; kind = j.asked.kind; unknown = j.new.unknown; room = j.new.room; sent = λ con. j.tells.sent }
new-here Joined setting past d source bytes former j came head kept = record { source = j.client; message = j.request; brings = j.asked.brings; kind = j.asked.kind; unknown = j.new.unknown; room = j.new.room; sent = λ con. (subst (λ (k : Kind). Accepts k j.client j.request.id d.observation) con j.accepts).sent }
new-here Opened setting past d source bytes former j came head kept = record { source = j.client; message = j.request; brings = j.asked.brings; kind = j.asked.kind; unknown = j.new.unknown; room = j.new.room; sent = λ con. (subst (λ (k : Kind). Accepts k j.client j.request.id d.observation) con j.accepts).sent }
new-here NoId setting past d source bytes former j came head kept = record { source = j.client; message = j.request; brings = j.asked.brings; kind = j.asked.kind; unknown = j.new.unknown; room = j.new.room; sent = λ con. not-both j.kind con }
new-here (Answered s) setting past d source bytes former j came head kept = let a = taken-so s setting past d j in answer-new setting past d a (head_kind a.gets.meets.brings came head ∙ con-so former.kind kept)
new-here Ignored setting past d source bytes former j came head kept = absurd cc
new-here Rejected setting past d source bytes former j came head kept = absurd cc
new-here Again setting past d source bytes former j came head kept = absurd cc
new-here NoRecordRoom setting past d source bytes former j came head kept = absurd cc
new-here Acked setting past d source bytes former j came head kept = absurd cc
new-here SentRequest setting past d source bytes former j came head kept = absurd cc
new-here Resent setting past d source bytes former j came head kept = absurd cc
new-here Delivered setting past d source bytes former j came head kept = absurd cc
new-here GaveUp setting past d source bytes former j came head kept = absurd cc
new-here Idle setting past d source bytes former j came head kept = absurd cc

-- a message repeats another one: it has its source, type and id
record IsLike (source c : Endpoint) (m r : Message) : Type 0 where
  pub from : c ≡ source
  pub kind : r.kind ≡ m.kind
  pub id : r.id ≡ m.id

-- a message is like the one that arrived at the position that it repeats
like : {most now : ℕ} {source c : Endpoint} {m r : Message} {p : Position} → Repeats now source m p → Brings most c r p.action.observation.event → IsLike source c m r
like {source = source} {c = c} {r = r} repeats b =
    let same = arrival-same c source b.bytes repeats.bytes (sym b.came ∙ repeats.came) in
    let read = head_read b.bytes r (read_again b.bytes r b.spells) in
    let is : head_at b.bytes ≡ Some repeats.former = ap head_at same.1 ∙ repeats.head in
    let one = same_Some (record { kind = r.kind; code = r.code; id = r.id }) repeats.former (sym read ∙ is) in
    record { from = same.0; kind = ap (λ (h : Head). h.kind) one ∙ repeats.kind; id = ap (λ (h : Head). h.id) one ∙ repeats.id }

module _ (setting : Setting) (past : List Action) (now : ℕ) (source : Endpoint) (m : Message) (all : AllJustified setting past) where
  -- what was done at a position that a message repeats
  here-new : (p : Position) → IsPositionOf past p → Repeats now source m p → IsNewHere setting p.before p.action
  here-new p at repeats = new-here p.action.observation.report.outcome setting p.before p.action source repeats.bytes repeats.former (justified-at setting past p p.action.observation.report.outcome all at refl) repeats.came repeats.head repeats.remembered

  -- its source was sent an immediate reply
  pub was-sent : (p : Position) → IsPositionOf past p → Repeats now source m p → m.kind ≡ Con → p.action.observation.report.send ≡ Some source
  was-sent p at repeats con =
      let new = here-new p at repeats in
      let l = like repeats new.brings in
      new.sent (l.kind ∙ con) ∙ ap (λ (e : Endpoint). Some e) l.from

  -- it doesn't also repeat an earlier position
  not-again : IsInOrder past → last_of past ≤ now → (p q : Position) → IsPositionOf past p → IsPositionOf p.before q → Repeats now source m p → Repeats now source m q → ⊥
  not-again ordered onward p q at before repeats earlier =
      let new = here-new p at repeats in
      let l = like repeats new.brings in
      let p_now : p.action.observation.now ≤ last_of past = not-later past p ordered at in
      let lives : now < q.action.observation.now + (if is_con m.kind then 247000 else 145000) = earlier.alive in
      let alive : p.action.observation.now < q.action.observation.now + (if is_con m.kind then 247000 else 145000) = omega (arith, p_now, onward, lives) in
      position-known p.before p.action.observation.now new.source new.message q new.kind before
      (record {
        bytes = earlier.bytes;
        former = earlier.former;
        came = earlier.came ∙ ap (λ (e : Endpoint). arrival e earlier.bytes) (sym l.from);
        head = earlier.head;
        kind = earlier.kind ∙ sym l.kind;
        id = earlier.id ∙ sym l.id;
        remembered = earlier.remembered;
        alive = subst (λ (k : Kind). p.action.observation.now < q.action.observation.now + (if is_con k then 247000 else 145000)) (sym l.kind) alive;
      })
      new.unknown

  -- so it repeats only one position
  pub one-position : IsInOrder past → last_of past ≤ now → (p q : Position) → IsPositionOf past p → IsPositionOf past q → Repeats now source m p → Repeats now source m q → p ≡ q
  one-position ordered onward p q at_p at_q repeats_p repeats_q =
      ⊎_elim
      (λ (same : p ≡ q). same)
      (λ (apart : IsPositionOf p.before q ⊎ IsPositionOf q.before p).
      ⊎_elim
      (λ (earlier : IsPositionOf p.before q). absurd (not-again ordered onward p q at_p earlier repeats_p repeats_q))
      (λ (later : IsPositionOf q.before p). absurd (not-again ordered onward q p at_q later repeats_q repeats_p))
      apart)
      (in-order past p q at_p at_q)

  -- and its record is what was sent there
  pub told-there : IsInOrder past → last_of past ≤ now → (p : Position) (known : Record) → IsPositionOf past p → Repeats now source m p → record_of source m.id (remembered_at m.kind now past) ≡ Some known → known.reply ≡ kept_reply m.kind p.action.observation.bytes
  told-there ordered onward p known at repeats found =
      let left = known-position past now source m known found in
      let same = one-position ordered onward left.position p left.is_there at left.holds.repeats repeats in
      left.holds.reply ∙ ap (λ (q : Position). kept_reply m.kind q.action.observation.bytes) same
