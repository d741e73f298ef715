use Rattle.std.proofs.Common.{codes}
use Rattle.std.proofs.lemmas.Result.{on_ok_weaker}
use Rattle.std.specs.Fmt.{decimal}
use Rattle.coap_model.specs.Deeds.{report_of}
use Rattle.std.specs.Prelude.{option_map}
use Rattle.coap_core.specs.Events.{seen}
use Rattle.coap_explain.specs.Account as spec
use Rattle.coap_explain.proofs.Writing.{line-made}
use Rattle.coap_explain.proofs.explainer.put_line.Goals as goal

pub returns : goal.returns
returns g c =
    let event = seen c.args.turn.event in
    on_ok_weaker c.write_all.result
    (λ last.
    line-made c.args.line.now.items c.put_head.new.line.items c.put_event.new.line.items c.put_outcome.new.line.items c.write_all.new.self.items
    (codes "# ") (decimal c.args.core.now.events) (codes " ") (decimal c.args.turn.now) (codes " ") c.args.beside.time.now
    (spec.source_text event) (spec.message_text event) (spec.routed_text c.args.beside.routed.now)
    (spec.outcome_text (option_map report_of c.args.turn.did))
    (spec.details_of event (option_map report_of c.args.turn.did) c.args.turn.sent.now c.args.turn.now c.args.core.now (spec.noted_seen c.args.beside.noted))
    (codes "\n")
    (rw c.events.ensures.exact at c.in_ok-put_head.ensures) c.in_ok-put_event.ensures c.in_ok-put_outcome.ensures last)
    c.write_all.ensures.bytes
