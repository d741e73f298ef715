-- Live records stay, and the numbers are those of the remaining records and of the new one.
use Rattle.std.proofs.Common.{◌≡◌, [], ◌∷◌, ◌++◌, length}
use Rattle.coap_dedup.specs.Indexing.{AreNumbersOf}
use Rattle.coap_dedup.specs.Lists.{AreApart, AreInOrder, living}
use Rattle.coap_dedup.proofs.records.release_dead.Given as goal

abbrev pub invariant-dead : goal.invariant-dead
invariant-dead l = record {
  capacity : l.ring.capacity ≡ l.initial.ring.capacity;
  same : living l.lifetime l.new.at l.ring.items ≡ living l.lifetime l.new.at l.initial.ring.items;
  in_order : AreInOrder l.ring.items;
  apart : AreApart l.ring.items;
  numbered : AreNumbersOf l.numbers (l.ring.items ++ l.new ∷ []);
  links : l.numbers.by_source.nexts.capacity ≡ l.initial.numbers.by_source.nexts.capacity;
}

abbrev pub decreases-dead : goal.decreases-dead
decreases-dead l = length l.ring.items
