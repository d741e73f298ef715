-- Joined tests.
use Rattle.std.proofs.Common.{◌≡◌, ℕ, ◌<◌, ◌≤◌, Bool, true, false, refl, arith}
use Rattle.std.specs.Prelude.{◌&&◌, nat_lt}
use Rattle.std.proofs.lemmas.Bool.{ltb-true, ltb-false, and_parts}

-- if two joined tests fail, one of them failed
pub one_false : {A : Type 0} (a b : Bool) → (a && b) ≡ false → (a ≡ false → A) → (b ≡ false → A) → A
one_false true b e first second = second e
one_false false b e first second = first refl

-- Two numbers are tested against two limits: that of all clients and that of one. The numbers and
-- limits of the history are the same.
module _ {a b k l m n p q : ℕ} (all : a ≡ m) (own : b ≡ n) (limit : k ≡ p) (per_client : l ≡ q) where
  -- if both tests pass, the numbers of the history are below its limits
  pub both-below : (nat_lt a k && nat_lt b l) ≡ true → (m < p) × (n < q)
  both-below e =
      let parts = and_parts (nat_lt a k) (nat_lt b l) e in
      let first : a < k = ltb-true a k parts.0 in
      let second : b < l = ltb-true b l parts.1 in
      (omega (arith, all, limit, first), omega (arith, own, per_client, second))

  -- and if one fails, one of them isn't
  pub not-both : (nat_lt a k && nat_lt b l) ≡ false → m < p → n < q → ⊥
  not-both e less fewer =
      one_false (nat_lt a k) (nat_lt b l) e
      (λ f. let most : k ≤ a = ltb-false a k f in omega (arith, all, limit, most, less))
      (λ f. let most : l ≤ b = ltb-false b l f in omega (arith, own, per_client, most, fewer))
