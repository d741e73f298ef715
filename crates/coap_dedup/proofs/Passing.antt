-- The laws: what is kept is found, what is live isn't given up, and records expire from the front.
use Rattle.std.proofs.Common.{◌≡◌, ℕ, ◌+◌, ◌*◌, ◌-◌, ◌≤◌, Bool, true, false, cond, List, [], ◌∷◌, ◌++◌, length, drop, suc, Some, None, refl, sym, ap, ◌∙◌, arith, append-nil}
use Rattle.std.specs.List.{AllByRecursion}
use Rattle.std.proofs.lemmas.Bool.{both_ways}
use Rattle.std.proofs.lemmas.List.Elements.{filter-append}
use Rattle.std.proofs.lemmas.List.Sums.{sum_by-append, sum_by-cons}
use Rattle.std.proofs.Math.Nat.{mul-le-mul_right}
use Rattle.coap_endpoint.specs.declared.endpoint.Endpoint.{Endpoint}
use Rattle.coap_dedup.specs.declared.record.Record.{Record}
use Rattle.coap_dedup.specs.Keys.{key_of}
use Rattle.coap_dedup.specs.Lists.{is_living, is_of, living, record_of, reply_bytes, bytes_of, AreInOrder, AreUpTo}
use Rattle.coap_dedup.specs.Records.{Records, AreRecords, living_at, with_kept}
use Rattle.coap_dedup.proofs.Aging.{is_living-before, length-living, living-all, living-rest, AreUpTo-living}
use Rattle.coap_dedup.proofs.Apart.{record_of-none, record_of-others, record_of-push}
use Rattle.coap_dedup.proofs.Orders.{same_key-itself}

-- what is live later is what is live later among what is live now
pub living-again : (lifetime now later : ℕ) (rs : List Record) → now ≤ later → living lifetime later (living lifetime now rs) ≡ living lifetime later rs
living-again lifetime now later [] before = refl
living-again lifetime now later (r ∷ rs) before = go (is_living lifetime now r) refl (is_living lifetime later r) refl (living-again lifetime now later rs before)
  where
    go : (a : Bool) → is_living lifetime now r ≡ a → (b : Bool) → is_living lifetime later r ≡ b → living lifetime later (living lifetime now rs) ≡ living lifetime later rs
        → living lifetime later (cond a (r ∷ living lifetime now rs) (living lifetime now rs)) ≡ cond b (r ∷ living lifetime later rs) (living lifetime later rs)
    go true e true f rest = rw (f, rest) refl
    go true e false f rest = rw (f, rest) refl
    go false e false f rest = rest
    go false e true f rest = absurd (both_ways (is_living lifetime now r) e (is_living-before lifetime now later r before f))

-- the live records after a keep
pub living-kept : (r : Record) (t : Records) (now : ℕ) → r.at ≤ now → living_at now (with_kept r t) ≡ living_at now t ++ living t.lifetime now (r ∷ [])
living-kept r t now before =
    filter-append (is_living t.lifetime now) (living_at r.at t) (r ∷ []) ∙ ap (λ rs. rs ++ living t.lifetime now (r ∷ [])) (living-again t.lifetime r.at now t.items before)

-- what is kept is found while it is live
pub kept-found : (r : Record) (t : Records) (now : ℕ) → record_of r.from r.id (living_at r.at t) ≡ None → r.at ≤ now → is_living t.lifetime now r ≡ true → record_of r.from r.id (living_at now (with_kept r t)) ≡ Some r
kept-found r t now new before lives =
    let none : record_of r.from r.id (living_at now t) ≡ None =
    ap (record_of r.from r.id) (sym (living-again t.lifetime r.at now t.items before)) ∙ record_of-none t.lifetime now r.from r.id (living_at r.at t) new in
    let all : living_at now (with_kept r t) ≡ living_at now t ++ r ∷ [] = living-kept r t now before ∙ rw lives refl in
    ap (record_of r.from r.id) all ∙ record_of-push r.from r.id (living_at now t) r none ∙ rw (same_key-itself (key_of r)) refl

-- and other messages are found as before
pub kept-others : (r : Record) (t : Records) (from : Endpoint) (id now : ℕ) → is_of from id r ≡ false → r.at ≤ now → record_of from id (living_at now (with_kept r t)) ≡ record_of from id (living_at now t)
kept-others r t from id now other before = ap (record_of from id) (living-kept r t now before) ∙ go (is_living t.lifetime now r)
  where
    go : (b : Bool) → record_of from id (living_at now t ++ cond b (r ∷ []) []) ≡ record_of from id (living_at now t)
    go true = record_of-others from id (living_at now t) r other
    go false = ap (record_of from id) (append-nil (living_at now t))

-- what is found is of the message that was looked up
pub found-is_of : (from : Endpoint) (id : ℕ) (rs : List Record) (r : Record) → record_of from id rs ≡ Some r → is_of from id r ≡ true
found-is_of from id [] r found = absurd cc
found-is_of from id (s ∷ rs) r found = go (is_of from id s) refl found (found-is_of from id rs r)
  where
    go : (b : Bool) → is_of from id s ≡ b → cond b (Some s) (record_of from id rs) ≡ Some r → (record_of from id rs ≡ Some r → is_of from id r ≡ true) → is_of from id r ≡ true
    go true e is rest = let same : s ≡ r = cc in ap (is_of from id) (sym same) ∙ e
    go false e is rest = rest is

-- as time passes, the oldest records expire
pub living-later : (lifetime now later : ℕ) (rs : List Record) → AreInOrder rs → now ≤ later → living lifetime later rs ≡ drop (length (living lifetime now rs) - length (living lifetime later rs)) (living lifetime now rs)
living-later lifetime now later [] in_order before = refl
living-later lifetime now later (r ∷ rs) in_order before = go (is_living lifetime later r) refl (is_living lifetime now r) refl (living-later lifetime now later rs in_order.1 before)
  where
    go : (b : Bool) → is_living lifetime later r ≡ b → (a : Bool) → is_living lifetime now r ≡ a → living lifetime later rs ≡ drop (length (living lifetime now rs) - length (living lifetime later rs)) (living lifetime now rs)
        → living lifetime later (r ∷ rs) ≡ drop (length (living lifetime now (r ∷ rs)) - length (living lifetime later (r ∷ rs))) (living lifetime now (r ∷ rs))
    go true f a e rest =
        let lived = is_living-before lifetime now later r before f in
        let none : length (r ∷ rs) - length (r ∷ rs) ≡ 0 = omega arith in
        rw (living-all lifetime later r rs in_order f, living-all lifetime now r rs in_order lived, none) refl
    go false f true e rest =
        let all = living-all lifetime now r rs in_order e in
        let others : living lifetime now rs ≡ rs = cut all in
        let few = length-living lifetime later rs in
        let more : length (r ∷ rs) - length (living lifetime later rs) ≡ suc (length rs - length (living lifetime later rs)) = omega arith in
        rw (living-rest lifetime later r rs f, all, more) (rest ∙ ap (λ ss. drop (length ss - length (living lifetime later rs)) ss) others)
      where
        cut : living lifetime now (r ∷ rs) ≡ r ∷ rs → living lifetime now rs ≡ rs
        cut all = let first : r ∷ living lifetime now rs ≡ r ∷ rs = sym (rw e refl) ∙ all in cc
    go false f false e rest = rw (living-rest lifetime later r rs f, living-rest lifetime now r rs e) rest

-- no record was kept after the newest
pub AreUpTo-kept : (r : Record) (t : Records) → AreUpTo r.at t.items → AreUpTo r.at (with_kept r t).items
AreUpTo-kept r t up_to = more (living_at r.at t) (AreUpTo-living t.lifetime r.at r.at t.items up_to)
  where
    more : (rs : List Record) → AreUpTo r.at rs → AreUpTo r.at (rs ++ r ∷ [])
    more [] all = (omega arith, tt)
    more (s ∷ rs) all = (all.0, more rs all.1)

-- the live records take no more bytes than all of them
bytes-living : (lifetime now : ℕ) (rs : List Record) → bytes_of (living lifetime now rs) ≤ bytes_of rs
bytes-living lifetime now [] = omega arith
bytes-living lifetime now (r ∷ rs) = go (is_living lifetime now r) (bytes-living lifetime now rs)
  where
    go : (b : Bool) → bytes_of (living lifetime now rs) ≤ bytes_of rs → bytes_of (cond b (r ∷ living lifetime now rs) (living lifetime now rs)) ≤ bytes_of (r ∷ rs)
    go true rest = omega (arith, sum_by-cons reply_bytes r rs, sum_by-cons reply_bytes r (living lifetime now rs))
    go false rest = omega (arith, sum_by-cons reply_bytes r rs)

-- so a keep adds at most those of its reply
pub bytes-kept : (r : Record) (t : Records) → bytes_of (with_kept r t).items ≤ bytes_of t.items + reply_bytes r
bytes-kept r t = omega (arith, sum_by-append reply_bytes (living_at r.at t) (r ∷ []), sum_by-cons reply_bytes r [], bytes-living t.lifetime r.at t.items)

-- records take at most their number times the longest reply
bytes-length : (most : ℕ) (rs : List Record) → AllByRecursion (λ r. reply_bytes r ≤ most) rs → bytes_of rs ≤ length rs * most
bytes-length most [] all = omega arith
bytes-length most (r ∷ rs) all = omega (arith, sum_by-cons reply_bytes r rs, all.0, bytes-length most rs all.1)

-- records within a limit take at most the limit times the longest reply
pub bytes-bounded : (most : ℕ) (t : Records) → AreRecords t → AllByRecursion (λ r. reply_bytes r ≤ most) t.items → bytes_of t.items ≤ t.limit * most
bytes-bounded most t are all = omega (arith, bytes-length most t.items all, mul-le-mul_right most are.within)
