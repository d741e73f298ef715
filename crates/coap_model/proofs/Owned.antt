-- How many items of a list belong to an endpoint, and how many there are of few endpoints.
use Rattle.std.proofs.Common.{◌≡◌, ℕ, ◌+◌, ◌*◌, ◌<◌, ◌≤◌, List, [], ◌∷◌, ◌++◌, length, map, Bool, true, false, cond, refl, ap, subst, arith}
use Rattle.std.specs.Prelude.{◌||◌, filter}
use Rattle.std.specs.List.{AllByRecursion, list_any}
use Rattle.std.proofs.Math.Nat.{mul-le-mul_right, suc-mul}
use Rattle.coap_endpoint.specs.declared.endpoint.Endpoint.{Endpoint}
use Rattle.coap_endpoint.specs.Endpoint.{same_endpoint}
use Rattle.coap_endpoint.proofs.Equality.{Tells-endpoint}
use Rattle.coap_model.specs.Standing.{one_if, count_if}

-- ---- how many pass a test

module _ {B : Type 0} (test : B → Bool) where
  -- as many as a filter leaves
  pub filtered-count : (xs : List B) → length (filter test xs) ≡ count_if test xs
  filtered-count [] = refl
  filtered-count (x ∷ xs) = go (test x) (filtered-count xs)
    where
      go : (b : Bool) → length (filter test xs) ≡ count_if test xs → length (cond b (x ∷ filter test xs) (filter test xs)) ≡ one_if b + count_if test xs
      go true rest = omega (arith, rest)
      go false rest = omega (arith, rest)

  -- of two lists as many as of each
  pub count_if-append : (xs ys : List B) → count_if test (xs ++ ys) ≡ count_if test xs + count_if test ys
  count_if-append [] ys = omega arith
  count_if-append (x ∷ xs) ys = omega (arith, count_if-append xs ys)

  -- of what a filter leaves no more than before
  pub count_if-filter : (keep : B → Bool) (xs : List B) → count_if test (filter keep xs) ≤ count_if test xs
  count_if-filter keep [] = omega arith
  count_if-filter keep (x ∷ xs) = go (keep x) (count_if-filter keep xs)
    where
      go : (b : Bool) → count_if test (filter keep xs) ≤ count_if test xs → count_if test (cond b (x ∷ filter keep xs) (filter keep xs)) ≤ one_if (test x) + count_if test xs
      go true rest = omega (arith, rest)
      go false rest = omega (arith, rest)

  -- and as many as before if items change in what isn't tested
  pub count_if-map : (f : B → B) → ((x : B) → test (f x) ≡ test x) → (xs : List B) → count_if test (map f xs) ≡ count_if test xs
  count_if-map f same [] = refl
  count_if-map f same (x ∷ xs) = rw (same x, count_if-map f same xs) refl

-- ---- the items of an endpoint

-- the endpoint is one of these
abbrev pub is_among : List Endpoint → Endpoint → Bool
is_among endpoints source = list_any (λ e. same_endpoint e source) endpoints

module _ {B : Type 0} (whose : B → Endpoint) where
  -- how many items are an endpoint's
  abbrev pub owned : Endpoint → List B → ℕ
  owned client xs = count_if (λ x. same_endpoint (whose x) client) xs

  -- no endpoint has more than it may
  abbrev pub AreFew : ℕ → List B → Type 0
  AreFew most xs = (client : Endpoint) → owned client xs ≤ most

  -- nor does one with one more item, if there was room for one of its own
  pub few-more : (most : ℕ) (xs : List B) (x : B) → owned (whose x) xs < most → AreFew most xs → AreFew most (xs ++ x ∷ [])
  few-more most xs x room few client = go (same_endpoint (whose x) client) refl
    where
      sum : owned client (xs ++ x ∷ []) ≡ owned client xs + (one_if (same_endpoint (whose x) client) + 0)
      sum = count_if-append (λ y. same_endpoint (whose y) client) xs (x ∷ [])

      go : (b : Bool) → same_endpoint (whose x) client ≡ b → owned client (xs ++ x ∷ []) ≤ most
      go true e =
          let one : one_if (same_endpoint (whose x) client) ≡ 1 = ap one_if e in
          let own : owned (whose x) xs ≡ owned client xs = ap (λ (c : Endpoint). owned c xs) (Tells-endpoint.only (whose x) client e) in
          omega (arith, sum, one, own, room)
      go false e =
          let none : one_if (same_endpoint (whose x) client) ≡ 0 = ap one_if e in
          omega (arith, sum, none, few client)

  -- nor does one with fewer items
  pub few-left : (most : ℕ) (keep : B → Bool) (xs : List B) → AreFew most xs → AreFew most (filter keep xs)
  few-left most keep xs few client = omega (arith, few client, count_if-filter (λ x. same_endpoint (whose x) client) keep xs)

  -- nor after changes that leave whose an item is
  pub few-changed : (most : ℕ) (f : B → B) → ((x : B) → whose (f x) ≡ whose x) → (xs : List B) → AreFew most xs → AreFew most (map f xs)
  few-changed most f same xs few client = omega (arith, few client, count_if-map (λ x. same_endpoint (whose x) client) f (λ x. ap (λ (e : Endpoint). same_endpoint e client) (same x)) xs)

  -- ---- few endpoints

  -- the items of some endpoints, added up
  abbrev owned_by : List Endpoint → List B → ℕ
  owned_by [] xs = 0
  owned_by (e ∷ endpoints) xs = owned e xs + owned_by endpoints xs

  -- with one more item they have no fewer
  owned_by-more : (endpoints : List Endpoint) (x : B) (xs : List B) → owned_by endpoints xs ≤ owned_by endpoints (x ∷ xs)
  owned_by-more [] x xs = omega arith
  owned_by-more (e ∷ endpoints) x xs = omega (arith, owned_by-more endpoints x xs)

  -- and more, if it is of one of them
  owned_by-one : (endpoints : List Endpoint) (x : B) (xs : List B) → is_among endpoints (whose x) ≡ true → owned_by endpoints xs + 1 ≤ owned_by endpoints (x ∷ xs)
  owned_by-one [] x xs among = absurd cc
  owned_by-one (e ∷ endpoints) x xs among = go (same_endpoint e (whose x)) refl among (owned_by-one endpoints x xs)
    where
      go : (b : Bool) → same_endpoint e (whose x) ≡ b → (b || is_among endpoints (whose x)) ≡ true → (is_among endpoints (whose x) ≡ true → owned_by endpoints xs + 1 ≤ owned_by endpoints (x ∷ xs))
          → owned_by (e ∷ endpoints) xs + 1 ≤ owned_by (e ∷ endpoints) (x ∷ xs)
      go true same either rest =
          let is : same_endpoint (whose x) e ≡ true = subst (λ (c : Endpoint). same_endpoint c e ≡ true) (Tells-endpoint.only e (whose x) same) (Tells-endpoint.itself e) in
          let one : one_if (same_endpoint (whose x) e) ≡ 1 = ap one_if is in
          omega (arith, one, owned_by-more endpoints x xs)
      go false same either rest = omega (arith, rest either)

  -- so items of these endpoints are no more than the endpoints have
  all-owned : (endpoints : List Endpoint) (xs : List B) → AllByRecursion (λ x. is_among endpoints (whose x) ≡ true) xs → length xs ≤ owned_by endpoints xs
  all-owned endpoints [] all = omega arith
  all-owned endpoints (x ∷ xs) all = omega (arith, owned_by-one endpoints x xs all.0, all-owned endpoints xs all.1)

  -- which have no more than they may
  owned_by-few : (most : ℕ) (endpoints : List Endpoint) (xs : List B) → AreFew most xs → owned_by endpoints xs ≤ length endpoints * most
  owned_by-few most [] xs few = omega arith
  owned_by-few most (e ∷ endpoints) xs few = omega (arith, few e, owned_by-few most endpoints xs few, suc-mul (length endpoints) most)

  -- and fewer, if one of them has room for more
  owned_by-fewer : (most : ℕ) (endpoints : List Endpoint) (source : Endpoint) (xs : List B) → AreFew most xs → is_among endpoints source ≡ true → owned source xs < most → owned_by endpoints xs < length endpoints * most
  owned_by-fewer most [] source xs few among room = absurd cc
  owned_by-fewer most (e ∷ endpoints) source xs few among room = go (same_endpoint e source) refl among (owned_by-fewer most endpoints source xs few)
    where
      go : (b : Bool) → same_endpoint e source ≡ b → (b || is_among endpoints source) ≡ true → (is_among endpoints source ≡ true → owned source xs < most → owned_by endpoints xs < length endpoints * most)
          → owned_by (e ∷ endpoints) xs < length (e ∷ endpoints) * most
      go true same either rest =
          let own : owned e xs ≡ owned source xs = ap (λ (c : Endpoint). owned c xs) (Tells-endpoint.only e source same) in
          omega (arith, own, room, owned_by-few most endpoints xs few, suc-mul (length endpoints) most)
      go false same either rest = omega (arith, few e, rest either room, suc-mul (length endpoints) most)

  -- so if so few endpoints may have no more than the shared limit, and one of them has room for
  -- more, the limit isn't reached
  pub room-of-few : (many most shared : ℕ) (endpoints : List Endpoint) (source : Endpoint) (xs : List B) → length endpoints ≤ many → many * most ≤ shared → AllByRecursion (λ x. is_among endpoints (whose x) ≡ true) xs → AreFew most xs → is_among endpoints source ≡ true → owned source xs < most
      → length xs < shared
  room-of-few many most shared endpoints source xs fewer share all few among room =
      omega (arith, all-owned endpoints xs all, owned_by-fewer most endpoints source xs few among room, mul-le-mul_right most fewer, share)
