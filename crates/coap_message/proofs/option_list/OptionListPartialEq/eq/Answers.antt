use Rattle.coap_message.proofs.OptionSpellings.{same_bytes}
use Rattle.coap_message.proofs.option_list.OptionListPartialEq.eq.Goals as goal

pub returns : goal.returns
returns c = rw (← c.self.view_is, ← c.other.view_is) (same_bytes c.eq.result c.self.inside.bytes c.other.inside.bytes c.self.invariant.spelled c.other.invariant.spelled c.eq.ensures)
