use Rattle.coap_message.proofs.options.Options.bytes.Goals as goal

pub returns : goal.returns
returns c = rw (← c.self.view_is) c.self.invariant.spelled.bytes_are
