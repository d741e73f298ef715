use Rattle.std.proofs.Common.{sym, ap, ◌∙◌}
use Rattle.coap_message.specs.Options.{last_number}
use Rattle.coap_message.specs.Parsing.{parsed}
use Rattle.coap_message.specs.SpelledOptions.{options_of}
use Rattle.coap_message.proofs.Tails.{from-last}
use Rattle.coap_message.proofs.writing.put_options_from.Goals as goal

pub returns-clause-last : goal.returns-clause-last
returns-clause-last c =
    let o = (parsed c.in-Some.first).0 in
    let split = c.in-Some.ensures.some.are in
    c.options.invariant.last_is ∙ ap (last_number 0) c.options.view_is ∙ sym (from-last c.args.number 0 c.args.options.now o (options_of o.number c.in-Some.first.rest.now) split) ∙ ap (last_number c.args.before) (sym split)
