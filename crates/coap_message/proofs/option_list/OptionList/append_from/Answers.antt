use Rattle.std.proofs.Common.{◌++◌, ap, ◌∙◌, append_assoc}
use Rattle.coap_message.specs.Options.{from_number, last_number}
use Rattle.coap_message.specs.Parsing.{parsed}
use Rattle.coap_message.specs.SpelledOptions.{options_of}
use Rattle.coap_message.specs.Spelling.{option_spelling}
use Rattle.coap_message.proofs.Tails.{Joined, joined-from}
use Rattle.coap_message.proofs.option_list.OptionList.append_from.Goals as goal

-- what is held then is the options before, and those from the number on
joins : (c : goal.After-self-1) → Joined c.self.inside.bytes (option_spelling c.self.inside.last (parsed c.in-Some.first).0 ++ c.in-Some.first.rest.now) (from_number c.args.number c.args.options.now) c.options.inside.last
joins c =
    let below = rw (← c.self.view_is) at c.requires.in_order in
    joined-from c.args.number c.self.inside.bytes c.self.inside.last c.args.options.now c.options.inside.last (parsed c.in-Some.first).0 c.in-Some.first.rest.now c.self.invariant below (rw c.options.view_is at c.options.invariant.spelled.in_order) c.in-Some.ensures.some
    (c.options.invariant.last_is ∙ ap (last_number 0) c.options.view_is)

pub invariant_of-self-2 : goal.invariant_of-self-2
invariant_of-self-2 c = rw (c.in_default-add_run.ensures.ok, append_assoc c.self.inside.bytes) (joins c).spelled

pub returns-clause-ok : goal.returns-clause-ok
returns-clause-ok c =
    ap (options_of 0) (c.in_default-add_run.ensures.ok ∙ append_assoc c.self.inside.bytes (option_spelling c.self.inside.last (parsed c.in-Some.first).0) c.in-Some.first.rest.now) ∙ (joins c).read ∙ ap (λ l. l ++ from_number c.args.number c.args.options.now) c.self.view_is
