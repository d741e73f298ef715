use Rattle.std.proofs.Common.{◌≡◌, ◌+◌, ◌^◌, ◌-◌, ◌<◌, min}
use Rattle.coap_store.specs.Sizes.{options_size}
use Rattle.coap_store.proofs.size.with_options.Given as goal

abbrev pub invariant-loop-option : goal.invariant-loop-option
invariant-loop-option l = record {
  counted : min (l.fn.bytes + options_size l.options) (2 ^ 64 - 1) ≡ min (l.bytes + options_size l.option-iterator) (2 ^ 64 - 1);
  fits : l.bytes < 2 ^ 64;
}
