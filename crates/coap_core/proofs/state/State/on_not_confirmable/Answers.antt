use Rattle.std.proofs.Common.{rules, ◌≡◌, true, OnErr}
use Rattle.std.specs.Prelude.{IfSome}
use Rattle.std.proofs.lemmas.Result.{IfOk-weaker}
use Rattle.coap_option.proofs.Picking.{on_err}
use Rattle.coap_model.specs.declared.deed.Did.{Did}
use Rattle.coap_model.specs.Deeds.{outcome_of}
use Rattle.coap_model.specs.History.{grown_of}
use Rattle.coap_model.specs.Responses.{on_not_confirmable}
use Rattle.coap_model.specs.State.{Step}
use Rattle.coap_core.specs.Done.{DoesSo, wants_memory}
use Rattle.coap_core.specs.Storing.{answering_at, not_confirmable_step}
use Rattle.coap_core.proofs.Awaiting.{awaited}
use Rattle.coap_core.proofs.Puts.{answer-takes, awaited-does}
use Rattle.coap_core.proofs.state.State.on_not_confirmable.Goals as goal

pub returns-in-Some-clause-done : goal.returns-in-Some-clause-done
returns-in-Some-clause-done g c =
    let w = c.args.self.now in
    let m = c.args.arrival.message.now in
    let left : Step → Did → Type 0 = λ s report. DoesSo s report c.args.out.now c.answer.new.out c.answer.new.self in
    record {
      exact = IfOk-weaker c.answer.result
          (λ report. IfSome (answering_at w c.args.arrival.now (grown_of (outcome_of report.deed)) c.args.arrival.from m c.in-Some.number) (λ s. left s report))
          (λ report. left (not_confirmable_step w c.args.arrival.now (grown_of (outcome_of report.deed)) c.args.arrival.from m) report)
          (λ report does. awaited-does w c.args.arrival.now (grown_of (outcome_of report.deed)) c.args.arrival.from m c.in-Some.number (λ s. left s report) c.requires.can.exchanges c.in-Some.ensures.exact c.requires.other does)
          (rw c.seek_exchange.ensures at c.answer.ensures.exact);
      err = search rules;
      kept = search rules;
    }

pub returns-in-Some-clause-memory : goal.returns-in-Some-clause-memory
returns-in-Some-clause-memory g c =
    let w = c.args.self.now in
    let m = c.args.arrival.message.now in
    awaited w c.args.arrival.from m c.in-Some.number (λ o. OnErr c.answer.result (wants_memory (on_not_confirmable w c.args.arrival.now true c.args.arrival.from m o) ≡ true)) c.requires.can.exchanges c.in-Some.ensures.exact
    (λ x found. on_err c.answer.result (answer-takes w c.args.arrival.now true c.args.arrival.from m (c.in-Some.number, x)))
