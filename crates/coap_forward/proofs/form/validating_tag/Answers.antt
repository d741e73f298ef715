use Rattle.std.proofs.Common.{rules}
use Rattle.coap_forward.proofs.form.validating_tag.Goals as goal

pub returns-clause-exact : goal.returns-clause-exact
returns-clause-exact c = search rules
