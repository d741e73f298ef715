use Rattle.std.proofs.Common.{◌≤◌, ◌++◌, ◌∷◌, [], arith, ap, ◌∙◌}
use Rattle.coap_message.specs.Options.{option_of}
use Rattle.coap_message.specs.SpelledOptions.{options_of}
use Rattle.coap_message.proofs.OptionSpellings.{pushed}
use Rattle.coap_message.proofs.option_list.OptionList.push.Goals as goal

pub invariant_of-self-2 : goal.invariant_of-self-2
invariant_of-self-2 c =
    let above : c.self.inside.last ≤ c.args.number = rw c.self.invariant.last_is (rw (← c.self.view_is) at c.requires.in_order) in
    rw c.in_default.ensures.ok (pushed c.self.inside.bytes c.self.inside.last (option_of c.args.number c.args.value.now) c.self.invariant above (omega arith) c.requires.within).spelled

pub returns-clause-ok : goal.returns-clause-ok
returns-clause-ok c =
    let above : c.self.inside.last ≤ c.args.number = rw c.self.invariant.last_is (rw (← c.self.view_is) at c.requires.in_order) in
    ap (options_of 0) c.in_default.ensures.ok ∙ (pushed c.self.inside.bytes c.self.inside.last (option_of c.args.number c.args.value.now) c.self.invariant above (omega arith) c.requires.within).read ∙ ap (λ l. l ++ option_of c.args.number c.args.value.now ∷ []) c.self.view_is
