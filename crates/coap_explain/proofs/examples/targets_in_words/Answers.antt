use Rattle.std.proofs.Common.{refl}
use Rattle.std.specs.Fmt.{digits}
use Rattle.coap_explain.proofs.examples.targets_in_words.Goals as goal

pub returns : goal.returns
unfolding digits
returns c = record { ipv4 = refl; ipv6 = refl; root = refl; named = refl; bracketed = refl }
