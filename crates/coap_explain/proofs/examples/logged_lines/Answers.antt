use Rattle.std.proofs.Common.{refl}
use Rattle.std.specs.Fmt.{digits}
use Rattle.coap_explain.proofs.examples.logged_lines.Goals as goal

pub returns : goal.returns
unfolding digits
returns c = record { given_up = refl; refused = refl; passed = refl; overloaded = refl; dropped = refl; full = refl; heard = refl }
