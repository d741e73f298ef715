-- The indexes of exchanges keep step with their table, as exchanges come, change and go.
use Rattle.std.proofs.Common.{◌≡◌, ℕ, ◌≤◌, ◌∙◌, List, length, Option, sym, subst}
use Rattle.coap_pending.specs.declared.exchange.Exchange.{Exchange}
use Rattle.coap_exchange.specs.declared.index.Index.{Index}
use Rattle.coap_exchange.specs.declared.index.ExchangeKeys.{ExchangeKeys}
use Rattle.coap_exchange.specs.Index.{id_of, opening_of, end_of, queue_of, cache_key_of, target_of, keys_at, AreIndexed, CanRekeyAll, HaveRekeyed, IsSpread}
use Rattle.coap_pending.specs.Table.{Numbered, IsRising, item_at}
use Rattle.endpoint_counts.specs.IndexOf.{IsIndexOf}
use Rattle.endpoint_counts.proofs.Indexing.{Moves, can-pass, has-passed}

pub all-can-pass : (n limit : ℕ) (xs ys : List (Numbered Exchange)) (index : Index) → Moves n xs ys → length ys ≤ limit → AreIndexed xs limit index → CanRekeyAll index n (keys_at index.secret (item_at n xs)) (keys_at index.secret (item_at n ys))
all-can-pass n limit xs ys index moves few is = record {
  ids = can-pass id_of n limit xs ys index.ids moves few is.ids;
  openings = can-pass opening_of n limit xs ys index.openings moves few is.openings;
  ends = can-pass end_of n limit xs ys index.ends moves few is.ends;
  queues = can-pass queue_of n limit xs ys index.queues moves few is.queues;
  cache_keys = can-pass (cache_key_of index.secret) n limit xs ys index.cache_keys moves few is.cache_keys;
  targets = can-pass (target_of index.secret) n limit xs ys index.targets moves few is.targets;
}

pub all-have-passed : (n limit : ℕ) (xs ys : List (Numbered Exchange)) (old new : Index) → Moves n xs ys → AreIndexed xs limit old → HaveRekeyed old new n (keys_at old.secret (item_at n xs)) (keys_at old.secret (item_at n ys)) → IsRising 0 ys → AreIndexed ys limit new
all-have-passed n limit xs ys old new moves is have rising = record {
  rising = rising;
  ids = has-passed id_of n limit xs ys old.ids new.ids moves is.ids have.ids;
  openings = has-passed opening_of n limit xs ys old.openings new.openings moves is.openings have.openings;
  ends = has-passed end_of n limit xs ys old.ends new.ends moves is.ends have.ends;
  queues = has-passed queue_of n limit xs ys old.queues new.queues moves is.queues have.queues;
  cache_keys = subst (λ (s : ℕ). IsIndexOf (cache_key_of s) ys limit new.cache_keys) (sym have.secret) (has-passed (cache_key_of old.secret) n limit xs ys old.cache_keys new.cache_keys moves is.cache_keys have.cache_keys);
  targets = subst (λ (s : ℕ). IsIndexOf (target_of s) ys limit new.targets) (sym have.secret) (has-passed (target_of old.secret) n limit xs ys old.targets new.targets moves is.targets have.targets);
}

-- ---- the same, where what stood under the number and what stands there are known

module _ (n limit : ℕ) (xs ys : List (Numbered Exchange)) (index : Index) (moves : Moves n xs ys) (are : AreIndexed xs limit index) (was is : Option Exchange) (there : item_at n xs ≡ was) (then : item_at n ys ≡ is) where
  pub can-pass-as : length ys ≤ limit → CanRekeyAll index n (keys_at index.secret was) (keys_at index.secret is)
  can-pass-as few = rw (← there, ← then) (all-can-pass n limit xs ys index moves few are)

  pub have-passed-as : (next : Index) → HaveRekeyed index next n (keys_at index.secret was) (keys_at index.secret is) → IsRising 0 ys → AreIndexed ys limit next
  have-passed-as next have rising =
      let passed : HaveRekeyed index next n (keys_at index.secret (item_at n xs)) (keys_at index.secret (item_at n ys)) = rw (there, then) have in
      all-have-passed n limit xs ys index next moves are passed rising

-- ---- the seed

-- what spreads the indexes stays
pub spread-passed : (seed n : ℕ) (old new : Index) (was is : ExchangeKeys) → IsSpread seed old → HaveRekeyed old new n was is → IsSpread seed new
spread-passed seed n old new was is spread have = record {
  digests = have.secret ∙ spread.digests;
  ids = have.ids.seed ∙ spread.ids;
  queues = have.queues.seed ∙ spread.queues;
  cache_keys = have.cache_keys.seed ∙ spread.cache_keys;
  targets = have.targets.seed ∙ spread.targets;
}
