use Rattle.std.proofs.Common.{◌≡◌, true, false, Some, sym, subst}
use Rattle.coap_pending.specs.Exchanges.{is_sent}
use Rattle.coap_pending.specs.Table.{item_at}
use Rattle.coap_forward.specs.Messages.{is_ack}
use Rattle.coap_model.specs.Deeds.{outcome_of}
use Rattle.coap_model.specs.History.{grown_of}
use Rattle.coap_model.specs.State.{Step}
use Rattle.coap_core.specs.Done.{DoesSo}
use Rattle.coap_core.proofs.Puts.{no-ack, reset-step}
use Rattle.coap_core.proofs.state.State.on_sent.Goals as goal

pub returns-in-Con : goal.returns-in-Con
returns-in-Con g c =
    let w = c.args.self.now in
    let m = c.args.arrival.message.now in
    let x = c.in-Some.exchange.now in
    let found : item_at c.args.number w.exchanges ≡ Some x = rw (← c.self.view_is) (sym c.in-Some.ensures.exact) in
    let sent : is_sent x ≡ true = sym c.if-not-is_sent.ensures.exact in
    let other : is_ack m.kind ≡ false = rw (← c.kind.ensures) (no-ack c.kind.result c.in-Con.is) in
    subst (λ (s : Step). DoesSo s c.reset.result c.args.out.now c.reset.new.out c.reset.new.self)
    (sym (reset-step w c.args.arrival.now (grown_of (outcome_of c.reset.result.deed)) c.args.arrival.from m c.args.number x found sent c.requires.bare other))
    c.reset.ensures
