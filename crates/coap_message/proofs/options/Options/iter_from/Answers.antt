use Rattle.std.proofs.Common.{arith, ap, sym, ◌∙◌}
use Rattle.coap_message.specs.Options.{from_number, last_number}
use Rattle.coap_message.proofs.Runs.{from-none, from-zero}
use Rattle.coap_message.proofs.options.Options.iter_from.Goals as goal

pub returns-then-self-number-clause-list : goal.returns-then-self-number-clause-list
returns-then-self-number-clause-list c =
    c.iter.ensures.list ∙ c.none.ensures ∙ sym (from-none c.args.number 0 c.args.self.now c.iter-all.ensures.in_order (omega (arith, c.self.invariant.last_is, ap (last_number 0) c.self.view_is)))

pub returns-then-number-eq0-clause-list : goal.returns-then-number-eq0-clause-list
returns-then-number-eq0-clause-list c = c.iter-all.ensures.list ∙ sym (ap (λ n. from_number n c.args.self.now) c.if-number-eq0.true ∙ from-zero c.args.self.now)
