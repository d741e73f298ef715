use Rattle.std.proofs.Common.{◌∙◌}
use Rattle.coap_message.proofs.Tails.{split-above, split-none, split-some}
use Rattle.coap_message.proofs.options.Options.split_from.Goals as goal

pub returns-clause-some : goal.returns-clause-some
returns-clause-some c =
    split-some c.args.number c.from.inside.before c.from.inside.rest.now c.args.self.now c.from.invariant (c.from.view_is ∙ c.iter_from-from.ensures.list) c.read_option.result c.read_option.ensures.exact

pub returns-clause-none : goal.returns-clause-none
returns-clause-none c none =
    split-none c.args.number c.from.inside.before c.from.inside.rest.now c.args.self.now c.from.invariant (c.from.view_is ∙ c.iter_from-from.ensures.list) c.read_option.result c.read_option.ensures.exact none

pub returns-clause-above : goal.returns-clause-above
returns-clause-above c =
    split-above c.args.number c.from.inside.before c.from.inside.rest.now c.args.self.now c.from.invariant (c.from.view_is ∙ c.iter_from-from.ensures.list) c.read_option.result c.read_option.ensures.exact
