use Rattle.std.proofs.Common.{arith}
use Rattle.coap_model.proofs.CountedBytes.{bytes-kept}
use Rattle.coap_model.proofs.HeldBytes.{within-bound}
use Rattle.coap_model.proofs.laws.bytes_held_are_kept.Goals as goal

pub returns : goal.returns
returns c = record {
  kept = bytes-kept;
  within = λ w history carried. omega (arith, bytes-kept w, within-bound carried.actions w carried.bears);
}
