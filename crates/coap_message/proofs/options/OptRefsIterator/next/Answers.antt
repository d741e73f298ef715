use Rattle.std.proofs.Common.{◌≡◌, [], ◌<◌, length, arith, rules, sym, ap, ◌∙◌}
use Rattle.coap_message.specs.SpelledOptions.{options_of}
use Rattle.coap_message.specs.Parsing.{parsed}
use Rattle.coap_message.proofs.OptionSpellings.{next_none, next_some}
use Rattle.coap_message.proofs.options.OptRefsIterator.next.Goals as goal

pub returns-in_err-option-clause-steps : goal.returns-in_err-option-clause-steps
returns-in_err-option-clause-steps c =
    let none : c.args.self.now ≡ [] = sym c.self.view_is ∙ next_none c.self.inside.before c.self.inside.rest.now c.self.invariant (sym c.in_err-option.ensures.exact) in
    rw c.from_residual.ensures (none, none)

pub invariant_of-self : goal.invariant_of-self
invariant_of-self c = (next_some c.self.inside.before c.self.inside.rest.now (parsed c.in_ok-option.option).0 c.in_ok-option.option.rest.now c.self.invariant (sym c.in_ok-option.ensures.exact)).1

pub returns-clause-steps : goal.returns-clause-steps
returns-clause-steps c = sym c.self.view_is ∙ (next_some c.self.inside.before c.self.inside.rest.now (parsed c.in_ok-option.option).0 c.in_ok-option.option.rest.now c.self.invariant (sym c.in_ok-option.ensures.exact)).0

pub returns-clause-goes : goal.returns-clause-goes
returns-clause-goes c =
    let first = (next_some c.self.inside.before c.self.inside.rest.now (parsed c.in_ok-option.option).0 c.in_ok-option.option.rest.now c.self.invariant (sym c.in_ok-option.ensures.exact)).0 in
    let fewer : length (options_of c.in_ok-option.option.number c.in_ok-option.option.rest.now) < length c.args.self.now = omega (arith, ap length c.self.view_is, ap length first) in
    record { on = λ f. (tt, tt, fewer); keeps = tt; rests = λ f. tt }

pub returns-in_err-option-clause-goes : goal.returns-in_err-option-clause-goes
returns-in_err-option-clause-goes c = search rules
