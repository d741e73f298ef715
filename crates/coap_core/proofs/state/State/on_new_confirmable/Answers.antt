use Rattle.std.proofs.Common.{rules, ◌≡◌, true, OnErr, sym}
use Rattle.std.specs.Prelude.{IfSome}
use Rattle.std.proofs.lemmas.Result.{IfOk-weaker}
use Rattle.coap_option.proofs.Picking.{on_err}
use Rattle.coap_model.specs.declared.deed.Did.{Did}
use Rattle.coap_model.specs.Deeds.{outcome_of}
use Rattle.coap_model.specs.History.{grown_of}
use Rattle.coap_model.specs.Responses.{on_new_confirmable}
use Rattle.coap_model.specs.State.{Step, has_record_room}
use Rattle.coap_core.specs.Done.{DoesSo, wants_memory}
use Rattle.coap_core.specs.Storing.{answering_at, new_confirmable_step}
use Rattle.coap_core.proofs.Awaiting.{awaited}
use Rattle.coap_core.proofs.Puts.{answer-takes, new_confirmable-does}
use Rattle.coap_core.proofs.state.State.on_new_confirmable.Goals as goal

pub returns-clause-done : goal.returns-clause-done
returns-clause-done g c =
    let w = c.args.self.now in
    let m = c.args.arrival.message.now in
    let room : has_record_room w c.args.arrival.now c.args.arrival.from m.kind ≡ true = rw (← c.kind.ensures) (sym c.if-not-has_record_room.ensures) in
    let left : Step → Did → Type 0 = λ s report. DoesSo s report c.args.out.now c.answer.new.out c.answer.new.self in
    record {
      exact = IfOk-weaker c.answer.result
          (λ report. IfSome (answering_at w c.args.arrival.now (grown_of (outcome_of report.deed)) c.args.arrival.from m c.in-Some.number) (λ s. left s report))
          (λ report. left (new_confirmable_step w c.args.arrival.now (grown_of (outcome_of report.deed)) c.args.arrival.from m) report)
          (λ report does. new_confirmable-does w c.args.arrival.now (grown_of (outcome_of report.deed)) c.args.arrival.from m c.in-Some.number (λ s. left s report) c.requires.can.exchanges c.in-Some.ensures.exact c.requires.con room does)
          (rw c.seek_exchange.ensures at c.answer.ensures.exact);
      err = search rules;
      kept = search rules;
    }

pub returns-clause-memory : goal.returns-clause-memory
returns-clause-memory g c =
    let w = c.args.self.now in
    let m = c.args.arrival.message.now in
    let room : has_record_room w c.args.arrival.now c.args.arrival.from m.kind ≡ true = rw (← c.kind.ensures) (sym c.if-not-has_record_room.ensures) in
    awaited w c.args.arrival.from m c.in-Some.number (λ o. OnErr c.answer.result (wants_memory (on_new_confirmable w c.args.arrival.now true c.args.arrival.from m o) ≡ true)) c.requires.can.exchanges c.in-Some.ensures.exact
    (λ x found. on_err c.answer.result (rw room (answer-takes w c.args.arrival.now true c.args.arrival.from m (c.in-Some.number, x))))
