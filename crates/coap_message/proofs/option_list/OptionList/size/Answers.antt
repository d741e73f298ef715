use Rattle.std.proofs.Common.{length, ap, ◌∙◌}
use Rattle.coap_message.proofs.option_list.OptionList.size.Goals as goal

pub returns : goal.returns
returns c = rw (← c.self.view_is) (c.len.ensures ∙ ap length c.self.invariant.spelled.bytes_are)
