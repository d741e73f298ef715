use Rattle.std.proofs.Common.{◌≡◌, ◌≤◌, min, refl, ap, ◌∙◌, arith}
use Rattle.std.proofs.Math.Nat.{min-eq_left}
use Rattle.coap_limits.specs.Limits.{Limits}
use Rattle.coap_limits.specs.declared.limits.Limit.TheVariants.{CacheBytes}
use Rattle.coap_store.specs.Entries as store
use Rattle.coap_core.specs.Storing.{AreStoreLimits}
use Rattle.coap_core.proofs.state.State.new.Goals as goal

-- the greatest cache is below the most bytes that a store keeps
keeps-all : (limits : Limits) → limits.cache_bytes ≤ 268435456 → (kept : store.Limits) → kept ≡ record { bytes = min limits.cache_bytes 9223372036854775807; entries = limits.cache_entries } → AreStoreLimits limits kept
keeps-all limits le kept is =
    let small : min limits.cache_bytes 9223372036854775807 ≡ limits.cache_bytes = min-eq_left (omega (arith, le)) in
    is ∙ rw small refl

pub invariant_of-result : goal.invariant_of-result
invariant_of-result g c = (
  ap (λ t. t.limit) c.in_ok-under_way.ensures.exchanges,
  ap (λ t. t.limit) c.in_ok-under_way.ensures.waiters,
  ap (λ t. t.per_client) c.in_ok-under_way.ensures.exchanges,
  ap (λ t. t.per_client) c.in_ok-under_way.ensures.waiters,
  keeps-all c.args.setting.limits (c.values.ensures.in_range CacheBytes).1 _ (rw (c.values.ensures.exact, c.values-2.ensures.exact) at c.in_ok-store.ensures.limited),
  ap (λ t. t.seed) c.in_ok-under_way.ensures.exchanges ∙ c.secret.ensures.exact,
  ap (λ t. t.seed) c.in_ok-under_way.ensures.waiters ∙ c.secret.ensures.exact,
)
