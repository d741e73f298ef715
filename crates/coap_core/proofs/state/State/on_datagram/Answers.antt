use Rattle.std.proofs.Common.{rules, ◌≡◌, ◌≤◌, ◌∙◌, Bool, OnErr, true, ap, length, sym, subst}
use Rattle.std.specs.Option.{option_map}
use Rattle.std.proofs.lemmas.Option.{same_Some}
use Rattle.std.proofs.lemmas.Result.{IfOk-weaker}
use Rattle.coap_message.specs.Message.{Message}
use Rattle.coap_forward.specs.Messages.{is_empty}
use Rattle.coap_model.specs.declared.deed.Did.{Did}
use Rattle.coap_model.specs.Deeds.{outcome_of}
use Rattle.coap_model.specs.History.{grown_of}
use Rattle.coap_model.specs.Step.{on_message, on_datagram}
use Rattle.coap_model.specs.State.{Step}
use Rattle.coap_core.specs.Done.{DoesSo, wants_memory}
use Rattle.coap_core.proofs.Read.{on_read-message}
use Rattle.coap_core.proofs.state.State.on_datagram.Given.{Over}
use Rattle.coap_core.proofs.state.State.on_datagram.Goals.{In-Some}
use Rattle.coap_core.proofs.state.State.on_datagram.Goals as goal

-- the step is that of the message that is read
same : (g : Over) (grown : Bool) (c : In-Some g) → on_datagram c.args.self.now c.args.now grown c.args.source c.args.bytes.now ≡ on_message c.args.self.now c.args.now grown c.args.source c.in-Some.message
same g grown c = on_read-message c.args.self.now c.args.now grown c.args.source c.args.bytes.now c.in-Some.message (sym c.in-Some.ensures)

pub on_message-requires : goal.on_message-requires
on_message-requires g c = record {
  can = record {
    ready = c.requires.can.ready;
    room = c.requires.can.room;
    fits = subst (λ (s : Step). length s.bytes ≤ c.args.out.now.room) (same g true (goal.at.on_message-requires g c).In-Some) c.requires.can.fits;
  };
}

pub returns-in-Some-clause-done : goal.returns-in-Some-clause-done
returns-in-Some-clause-done g c =
    let k = (goal.at.returns-in-Some-clause-done g c).In-Some in
    let m = c.in-Some.message in
    let left : Step → Did → Type 0 = λ s did. DoesSo s did c.args.out.now c.on_message.new.out c.on_message.new.self in
    record {
      exact = IfOk-weaker c.on_message.result
          (λ did. left (on_message c.args.self.now c.args.now (grown_of (outcome_of did.deed)) c.args.source m) did)
          (λ did. left (on_datagram c.args.self.now c.args.now (grown_of (outcome_of did.deed)) c.args.source c.args.bytes.now) did)
          (λ did does. subst (λ (s : Step). left s did) (sym (same g (grown_of (outcome_of did.deed)) k)) does) c.on_message.ensures.done.exact;
      err = search rules;
      kept = search rules;
    }

pub returns-in-Some-clause-memory : goal.returns-in-Some-clause-memory
returns-in-Some-clause-memory g c =
    subst (λ (s : Step). OnErr c.on_message.result (wants_memory s ≡ true)) (sym (same g true (goal.at.returns-in-Some-clause-memory g c).In-Some)) c.on_message.ensures.memory

pub returns-in-Some-clause-empty : goal.returns-in-Some-clause-empty
returns-in-Some-clause-empty g c empty =
    c.on_message.ensures.empty (same_Some _ _ (ap (option_map (λ (m : Message). is_empty m.code)) c.in-Some.ensures ∙ empty))
