use Rattle.std.proofs.Common.{◌≡◌, ◌+◌, ◌^◌, ◌-◌, ◌<◌, min}
use Rattle.coap_store.specs.Sizes.{values_size}
use Rattle.coap_store.proofs.size.with_values.Given as goal

abbrev pub invariant-loop-value : goal.invariant-loop-value
invariant-loop-value l = record {
  counted : min (l.fn.bytes + values_size l.values) (2 ^ 64 - 1) ≡ min (l.bytes + values_size l.value-iterator) (2 ^ 64 - 1);
  fits : l.bytes < 2 ^ 64;
}
