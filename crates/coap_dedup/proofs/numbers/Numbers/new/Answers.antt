use Rattle.std.proofs.Common.{ap, arith}
use Rattle.std.specs.Map.{lookup}
use Rattle.std.specs.Ordering.{is_eq}
use Rattle.coap_dedup.specs.Indexing.{key_cmp}
use Rattle.coap_dedup.proofs.numbers.Numbers.new.Goals as goal

pub returns-clause-none : goal.returns-clause-none
returns-clause-none c = record {
  by_message = record { origin = 0; is_first = omega arith; numbered = λ key. ap (lookup (λ k. is_eq (key_cmp key k))) c.new.ensures.empty };
  by_source = c.in_ok-new.ensures.none;
}
