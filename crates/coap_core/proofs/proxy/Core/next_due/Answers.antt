use Rattle.std.proofs.Common.{ap, ◌∙◌}
use Rattle.std.specs.Prelude.{option_map}
use Rattle.coap_model.specs.Ticks.{moment_of}
use Rattle.coap_core.proofs.Carried.{is-bounded}
use Rattle.coap_core.proofs.proxy.Core.next_due.Goals as goal

pub returns-clause-bounded : goal.returns-clause-bounded
returns-clause-bounded g c =
    let i = c.self.invariant in
    is-bounded c.self.inside.state i.1.0 i.0 i.1.1 i.1.2 c.moment_of.result (c.moment_of.ensures ∙ ap (option_map moment_of) i.2)
