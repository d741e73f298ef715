-- Which records are of which endpoint, as records come and go.
use Rattle.std.proofs.Common.{◌≡◌, ℕ, ◌+◌, ◌-◌, ◌%◌, ◌^◌, ◌<◌, ◌==◌, ◌&&◌, Bool, true, false, cond, List, [], ◌∷◌, ◌++◌, length, drop, zero, suc, Option, Some, None, IfSome, nat_lt, refl, sym, ap, subst, ◌∙◌, arith, slice_get, slice_set}
use Rattle.std.specs.Option.{option_map, option_map_or, option_or}
use Rattle.std.proofs.lemmas.Bool.{both_ways, lt-ltb}
use Rattle.circular_buffer.specs.Buffer.{Buffer}
use Rattle.coap_endpoint.specs.declared.endpoint.Endpoint.{Endpoint}
use Rattle.coap_endpoint.specs.Endpoint.{same_endpoint}
use Rattle.coap_endpoint.proofs.Equality.{Tells-endpoint}
use Rattle.coap_dedup.specs.declared.record.Record.{Record}
use Rattle.coap_dedup.specs.declared.sources.Share.{Share}
use Rattle.coap_dedup.specs.declared.sources.Sources.{Sources}
use Rattle.coap_dedup.specs.Lists.{is_from, record_of}
use Rattle.coap_dedup.specs.Sources.{AreLinked, AreSourced, IsNext, grown, is_same, last_of, numbers_from, place_of, share_in, share_of, shrunk}
use Rattle.coap_dedup.proofs.Orders.{is_same-same_endpoint}

-- ---- shares

-- what comes last is the last
last_of-push : (m : ℕ) (ms : List ℕ) (n : ℕ) → last_of m (ms ++ n ∷ []) ≡ n
last_of-push m [] n = refl
last_of-push m (k ∷ ms) n = last_of-push k ms n

-- one more number makes a share grow
share-push : (ns : List ℕ) (n : ℕ) → share_of (ns ++ n ∷ []) ≡ Some (grown (share_of ns) n)
share-push [] n = refl
share-push (m ∷ ms) n =
    let count : length ((m ∷ ms) ++ n ∷ []) ≡ length (m ∷ ms) + 1 = more (m ∷ ms) in
    λ i. Some (record { count = count i; first = m; last = last_of-push m ms n i })
  where
    more : (ks : List ℕ) → length (ks ++ n ∷ []) ≡ length ks + 1
    more [] = refl
    more (k ∷ ks) = let rest = more ks in omega arith

-- and one less makes it shrink
share-rest : (n next : ℕ) (ns : List ℕ) → IsNext next ns → shrunk (share_of (n ∷ ns)) next ≡ share_of ns
share-rest n next [] is = refl
share-rest n next (m ∷ ms) is =
    let more : nat_lt 1 (length (n ∷ m ∷ ms)) ≡ true = lt-ltb 1 (length (n ∷ m ∷ ms)) (omega arith) in
    let count : length (n ∷ m ∷ ms) - 1 ≡ length (m ∷ ms) = omega arith in
    rw more (λ i. Some (record { count = count i; first = is i; last = last_of m ms }))

-- without one there is no record of any message from the endpoint
pub unshared : (from : Endpoint) (id n : ℕ) (rs : List Record) → None ≡ share_of (numbers_from n from rs) → record_of from id rs ≡ None
unshared from id n [] none = refl
unshared from id n (r ∷ rs) none = go (is_from from r) none (unshared from id (n + 1) rs)
  where
    go : (b : Bool) → None ≡ share_of (cond b (n % 2 ^ 64 ∷ numbers_from (n + 1) from rs) (numbers_from (n + 1) from rs)) → (None ≡ share_of (numbers_from (n + 1) from rs) → record_of from id rs ≡ None) → cond (b && (r.id == id)) (Some r) (record_of from id rs) ≡ None
    go true e rest = absurd cc
    go false e rest = rest e

-- ---- numbers

-- they don't depend on the first beyond 2^64
pub numbers_from-as : (a b : ℕ) (from : Endpoint) (rs : List Record) → a % 2 ^ 64 ≡ b % 2 ^ 64 → numbers_from a from rs ≡ numbers_from b from rs
numbers_from-as a b from [] same = refl
numbers_from-as a b from (r ∷ rs) same = go (is_from from r) (numbers_from-as (a + 1) (b + 1) from rs (omega arith))
  where
    go : (c : Bool) → numbers_from (a + 1) from rs ≡ numbers_from (b + 1) from rs → cond c (a % 2 ^ 64 ∷ numbers_from (a + 1) from rs) (numbers_from (a + 1) from rs) ≡ cond c (b % 2 ^ 64 ∷ numbers_from (b + 1) from rs) (numbers_from (b + 1) from rs)
    go true rest = rw (same, rest) refl
    go false rest = rest

-- one more record has the next number
pub numbers_from-push : (n : ℕ) (from : Endpoint) (rs : List Record) (x : Record) → numbers_from n from (rs ++ x ∷ []) ≡ cond (is_from from x) (numbers_from n from rs ++ ((n + length rs) % 2 ^ 64) ∷ []) (numbers_from n from rs)
numbers_from-push n from [] x = go (is_from from x)
  where
    go : (b : Bool) → cond b (n % 2 ^ 64 ∷ []) [] ≡ cond b (((n + 0) % 2 ^ 64) ∷ []) []
    go true = ap (λ (m : ℕ). m % 2 ^ 64 ∷ []) (omega arith)
    go false = refl
numbers_from-push n from (r ∷ rs) x = rw (numbers_from-push (n + 1) from rs x) (go (is_from from r) (is_from from x))
  where
    later : (n + 1 + length rs) % 2 ^ 64 ≡ (n + length (r ∷ rs)) % 2 ^ 64
    later = ap (λ (m : ℕ). m % 2 ^ 64) (omega arith)

    go : (b c : Bool) → cond b (n % 2 ^ 64 ∷ cond c (numbers_from (n + 1) from rs ++ ((n + 1 + length rs) % 2 ^ 64) ∷ []) (numbers_from (n + 1) from rs)) (cond c (numbers_from (n + 1) from rs ++ ((n + 1 + length rs) % 2 ^ 64) ∷ []) (numbers_from (n + 1) from rs))
        ≡ cond c (cond b (n % 2 ^ 64 ∷ numbers_from (n + 1) from rs) (numbers_from (n + 1) from rs) ++ ((n + length (r ∷ rs)) % 2 ^ 64) ∷ []) (cond b (n % 2 ^ 64 ∷ numbers_from (n + 1) from rs) (numbers_from (n + 1) from rs))
    go true true = ap (λ (m : ℕ). n % 2 ^ 64 ∷ (numbers_from (n + 1) from rs ++ m ∷ [])) later
    go true false = refl
    go false true = ap (λ (m : ℕ). numbers_from (n + 1) from rs ++ m ∷ []) later
    go false false = refl

-- ---- links

-- they don't depend on the first number beyond 2^64
AreLinked-as : (a b : ℕ) (nexts : List ℕ) (rs : List Record) → a % 2 ^ 64 ≡ b % 2 ^ 64 → AreLinked a nexts rs → AreLinked b nexts rs
AreLinked-as a b nexts [] same are = are
AreLinked-as a b [] (r ∷ rs) same are = absurd are
AreLinked-as a b (next ∷ nexts) (r ∷ rs) same are =
    let later : (a + 1) % 2 ^ 64 ≡ (b + 1) % 2 ^ 64 = omega arith in
    (subst (IsNext next) (numbers_from-as (a + 1) (b + 1) r.from rs later) are.0, AreLinked-as (a + 1) (b + 1) nexts rs later are.1)

-- there is one for each record
pub length-linked : (n : ℕ) (nexts : List ℕ) (rs : List Record) → AreLinked n nexts rs → length nexts ≡ length rs
length-linked n nexts [] are = ap length are
length-linked n [] (r ∷ rs) are = absurd are
length-linked n (next ∷ nexts) (r ∷ rs) are = let rest = length-linked (n + 1) nexts rs are.1 in omega arith

-- the place of the last record of an endpoint
abbrev last_at : Endpoint → List Record → Option ℕ
last_at from [] = None
last_at from (r ∷ rs) = option_or (option_map suc (last_at from rs)) (cond (is_from from r) (Some 0) None)

module _ (from : Endpoint) where
  -- without numbers there is none
  last-none : (n : ℕ) (rs : List Record) → numbers_from n from rs ≡ [] → last_at from rs ≡ None
  last-none n [] none = refl
  last-none n (r ∷ rs) none = go (is_from from r) none (last-none (n + 1) rs)
    where
      go : (b : Bool) → cond b (n % 2 ^ 64 ∷ numbers_from (n + 1) from rs) (numbers_from (n + 1) from rs) ≡ [] → (numbers_from (n + 1) from rs ≡ [] → last_at from rs ≡ None) → option_or (option_map suc (last_at from rs)) (cond b (Some 0) None) ≡ None
      go true e rest = absurd cc
      go false e rest = rw (rest e) refl

  -- and with some, the last of them is its number
  last-some : (n : ℕ) (rs : List Record) (m : ℕ) (ms : List ℕ) → numbers_from n from rs ≡ m ∷ ms → (i : ℕ) × (i < length rs) × (last_at from rs ≡ Some i) × (last_of m ms ≡ (n + i) % 2 ^ 64)
  last-some n [] m ms are = absurd cc
  last-some n (r ∷ rs) m ms are = go (is_from from r) are (numbers_from (n + 1) from rs) refl (last-some (n + 1) rs)
    where
      behind : (b : Bool) (k : ℕ) (ks : List ℕ) → (i : ℕ) × (i < length rs) × (last_at from rs ≡ Some i) × (last_of k ks ≡ (n + 1 + i) % 2 ^ 64)
          → (i : ℕ) × (i < length (r ∷ rs)) × (option_or (option_map suc (last_at from rs)) (cond b (Some 0) None) ≡ Some i) × (last_of k ks ≡ (n + i) % 2 ^ 64)
      behind b k ks (i, within, at, number) =
          let further : n + 1 + i ≡ n + suc i = omega arith in
          (suc i, omega arith, rw at refl, number ∙ ap (λ (l : ℕ). l % 2 ^ 64) further)

      go : (b : Bool) → cond b (n % 2 ^ 64 ∷ numbers_from (n + 1) from rs) (numbers_from (n + 1) from rs) ≡ m ∷ ms → (ks : List ℕ) → numbers_from (n + 1) from rs ≡ ks
          → ((l : ℕ) (ls : List ℕ) → numbers_from (n + 1) from rs ≡ l ∷ ls → (i : ℕ) × (i < length rs) × (last_at from rs ≡ Some i) × (last_of l ls ≡ (n + 1 + i) % 2 ^ 64))
          → (i : ℕ) × (i < length (r ∷ rs)) × (option_or (option_map suc (last_at from rs)) (cond b (Some 0) None) ≡ Some i) × (last_of m ms ≡ (n + i) % 2 ^ 64)
      go true e [] none rest =
          let only : n % 2 ^ 64 ∷ [] ≡ m ∷ ms = ap (λ (l : List ℕ). n % 2 ^ 64 ∷ l) (sym none) ∙ e in
          let first : n % 2 ^ 64 ≡ m = cc in
          let others : ms ≡ [] = cc in
          (zero, omega arith, rw (last-none (n + 1) rs none) refl, ap (last_of m) others ∙ sym first ∙ ap (λ (l : ℕ). l % 2 ^ 64) (omega arith))
      go true e (k ∷ ks) some rest =
          let all : n % 2 ^ 64 ∷ k ∷ ks ≡ m ∷ ms = ap (λ (l : List ℕ). n % 2 ^ 64 ∷ l) (sym some) ∙ e in
          let others : ms ≡ k ∷ ks = cc in
          let (i, within, at, number) = behind true k ks (rest k ks some) in
          (i, within, at, ap (last_of m) others ∙ number)
      go false e ks some rest = behind false m ms (rest m ms e)

-- what is the first of some numbers still is when others come after them
next-push : (next : ℕ) (ms : List ℕ) (m : ℕ) → IsNext next ms → (ms ≡ [] → next ≡ m) → IsNext next (ms ++ m ∷ [])
next-push next [] m is none = none refl
next-push next (k ∷ ms) m is none = is

-- One more record comes, and its number is noted where the last one of its endpoint is.
AreLinked-push : (n : ℕ) (nexts : List ℕ) (rs : List Record) (x : Record) (number : ℕ) → AreLinked n nexts rs → number ≡ (n + length rs) % 2 ^ 64 → AreLinked n (option_map_or (λ i. slice_set nexts i number) (last_at x.from rs) nexts ++ number ∷ []) (rs ++ x ∷ [])
AreLinked-push n nexts [] x number are is = rw are (tt, refl)
AreLinked-push n [] (r ∷ rs) x number are is = absurd are
AreLinked-push n (next ∷ nexts) (r ∷ rs) x number are is = go (last_at x.from rs) refl (AreLinked-push (n + 1) nexts rs x number are.1 later)
  where
    later : number ≡ (n + 1 + length rs) % 2 ^ 64
    later = is ∙ ap (λ (l : ℕ). l % 2 ^ 64) (omega arith)

    -- the first of the numbers after that of r
    heads : (v : ℕ) → ((b : Bool) → is_from r.from x ≡ b → IsNext v (cond b (numbers_from (n + 1) r.from rs ++ ((n + 1 + length rs) % 2 ^ 64) ∷ []) (numbers_from (n + 1) r.from rs))) → IsNext v (numbers_from (n + 1) r.from (rs ++ x ∷ []))
    heads v is_next = subst (IsNext v) (sym (numbers_from-push (n + 1) r.from rs x)) (is_next (is_from r.from x) refl)

    go : (o : Option ℕ) → last_at x.from rs ≡ o → AreLinked (n + 1) (option_map_or (λ i. slice_set nexts i number) o nexts ++ number ∷ []) (rs ++ x ∷ [])
        → AreLinked n (option_map_or (λ i. slice_set (next ∷ nexts) i number) (option_or (option_map suc o) (cond (is_from x.from r) (Some 0) None)) (next ∷ nexts) ++ number ∷ []) ((r ∷ rs) ++ x ∷ [])
    go (Some j) at rest = (heads next kept, rest)
      where
        kept : (b : Bool) → is_from r.from x ≡ b → IsNext next (cond b (numbers_from (n + 1) r.from rs ++ ((n + 1 + length rs) % 2 ^ 64) ∷ []) (numbers_from (n + 1) r.from rs))
        kept true its = next-push next (numbers_from (n + 1) r.from rs) ((n + 1 + length rs) % 2 ^ 64) are.0 (λ none. let gone = last-none x.from (n + 1) rs (ap (λ (e : Endpoint). numbers_from (n + 1) e rs) (Tells-endpoint.only x.from r.from its) ∙ none) in absurd cc)
        kept false its = are.0
    go None at rest = own (is_from x.from r) refl
      where
        none : numbers_from (n + 1) x.from rs ≡ []
        none = empty (numbers_from (n + 1) x.from rs) refl
          where
            empty : (ms : List ℕ) → numbers_from (n + 1) x.from rs ≡ ms → ms ≡ []
            empty [] some = refl
            empty (m ∷ ms) some = let (i, within, there, last) = last-some x.from (n + 1) rs m ms some in absurd cc

        own : (b : Bool) → is_from x.from r ≡ b → AreLinked n (option_map_or (λ i. slice_set (next ∷ nexts) i number) (cond b (Some 0) None) (next ∷ nexts) ++ number ∷ []) ((r ∷ rs) ++ x ∷ [])
        own true its = (heads number new, rest)
          where
            new : (b : Bool) → is_from r.from x ≡ b → IsNext number (cond b (numbers_from (n + 1) r.from rs ++ ((n + 1 + length rs) % 2 ^ 64) ∷ []) (numbers_from (n + 1) r.from rs))
            new b flipped =
                let nothing : numbers_from (n + 1) r.from rs ≡ [] = ap (λ (e : Endpoint). numbers_from (n + 1) e rs) (Tells-endpoint.only r.from x.from its) ∙ none in
                rw nothing (only b)
              where
                only : (c : Bool) → IsNext number (cond c (((n + 1 + length rs) % 2 ^ 64) ∷ []) [])
                only true = later
                only false = tt
        own false other = (heads next kept, rest)
          where
            kept : (b : Bool) → is_from r.from x ≡ b → IsNext next (cond b (numbers_from (n + 1) r.from rs ++ ((n + 1 + length rs) % 2 ^ 64) ∷ []) (numbers_from (n + 1) r.from rs))
            kept true its = absurd (both_ways (is_from x.from r) other (subst (λ (e : Endpoint). same_endpoint r.from e ≡ true) (sym (Tells-endpoint.only x.from r.from its)) (Tells-endpoint.itself r.from)))
            kept false its = are.0

-- so each number among those of an endpoint leads to the next one
pub linked-at : (from : Endpoint) (n : ℕ) (nexts : List ℕ) (rs : List Record) (j m k : ℕ) → AreLinked n nexts rs → slice_get (numbers_from n from rs) j ≡ Some m → slice_get (numbers_from n from rs) (suc j) ≡ Some k → (i : ℕ) × (i < length rs) × (m ≡ (n + i) % 2 ^ 64) × (slice_get nexts i ≡ Some k)
linked-at from n nexts [] j m k are at next = absurd cc
linked-at from n [] (r ∷ rs) j m k are at next = absurd are
linked-at from n (x ∷ nexts) (r ∷ rs) j m k are at next = go (is_from from r) refl j at next (λ l here there. later (linked-at from (n + 1) nexts rs l m k are.1 here there))
  where
    later : (i : ℕ) × (i < length rs) × (m ≡ (n + 1 + i) % 2 ^ 64) × (slice_get nexts i ≡ Some k) → (i : ℕ) × (i < length (r ∷ rs)) × (m ≡ (n + i) % 2 ^ 64) × (slice_get (x ∷ nexts) i ≡ Some k)
    later (i, within, number, leads) =
        let further : n + 1 + i ≡ n + suc i = omega arith in
        (suc i, omega arith, number ∙ ap (λ (p : ℕ). p % 2 ^ 64) further, leads)

    first : (ms : List ℕ) → IsNext x ms → slice_get ms 0 ≡ Some k → x ≡ k
    first [] is e = absurd cc
    first (p ∷ ms) is e = let same : p ≡ k = cc in is ∙ same

    go : (b : Bool) → is_from from r ≡ b → (l : ℕ) → slice_get (cond b (n % 2 ^ 64 ∷ numbers_from (n + 1) from rs) (numbers_from (n + 1) from rs)) l ≡ Some m → slice_get (cond b (n % 2 ^ 64 ∷ numbers_from (n + 1) from rs) (numbers_from (n + 1) from rs)) (suc l) ≡ Some k
        → ((p : ℕ) → slice_get (numbers_from (n + 1) from rs) p ≡ Some m → slice_get (numbers_from (n + 1) from rs) (suc p) ≡ Some k → (i : ℕ) × (i < length (r ∷ rs)) × (m ≡ (n + i) % 2 ^ 64) × (slice_get (x ∷ nexts) i ≡ Some k))
        → (i : ℕ) × (i < length (r ∷ rs)) × (m ≡ (n + i) % 2 ^ 64) × (slice_get (x ∷ nexts) i ≡ Some k)
    go true its zero here there rest =
        let value : n % 2 ^ 64 ≡ m = cc in
        let follows = subst (λ (e : Endpoint). IsNext x (numbers_from (n + 1) e rs)) (Tells-endpoint.only r.from from its) are.0 in
        (zero, omega arith, sym value ∙ ap (λ (p : ℕ). p % 2 ^ 64) (omega arith), ap Some (first (numbers_from (n + 1) from rs) follows there))
    go true its (suc l) here there rest = rest l here there
    go false its l here there rest = rest l here there

-- ---- records come and go

-- one comes
pub AreSourced-push : (first : ℕ) (old new : Sources) (rs : List Record) (x : Record) (number : ℕ) → first < 2 ^ 64 → length rs < 2 ^ 63 → number ≡ (first + length rs) % 2 ^ 64
    → ((e : Endpoint) → share_in new.shares e ≡ cond (is_same x.from e) (Some (grown (share_in old.shares x.from) number)) (share_in old.shares e))
    → new.nexts.items ≡ option_map_or (λ (s : Share). slice_set old.nexts.items (place_of first s.last) number) (share_in old.shares x.from) old.nexts.items ++ number ∷ []
    → AreSourced first old rs → AreSourced first new (rs ++ x ∷ [])
AreSourced-push first old new rs x number fits few is shares nexts are = record {
  shared = λ e. shares e ∙ ap (λ b. cond b (Some (grown (share_in old.shares x.from) number)) (share_in old.shares e)) (is_same-same_endpoint x.from e) ∙ go e (same_endpoint x.from e) refl ∙ ap share_of (sym (numbers_from-push first e rs x));
  linked = subst (λ ns. AreLinked first ns (rs ++ x ∷ [])) (sym (nexts ∙ ap (λ (o : List ℕ). o ++ number ∷ []) (place (numbers_from first x.from rs) refl))) (AreLinked-push first old.nexts.items rs x number are.linked is);
}
  where
    go : (e : Endpoint) (b : Bool) → same_endpoint x.from e ≡ b → cond b (Some (grown (share_in old.shares x.from) number)) (share_in old.shares e) ≡ share_of (cond b (numbers_from first e rs ++ ((first + length rs) % 2 ^ 64) ∷ []) (numbers_from first e rs))
    go e true same =
        let its : share_in old.shares x.from ≡ share_of (numbers_from first e rs) = are.shared x.from ∙ ap (λ (f : Endpoint). share_of (numbers_from first f rs)) (Tells-endpoint.only x.from e same) in
        (λ i. Some (grown (its i) (is i))) ∙ sym (share-push (numbers_from first e rs) ((first + length rs) % 2 ^ 64))
    go e false other = are.shared e

    place : (ns : List ℕ) → numbers_from first x.from rs ≡ ns → option_map_or (λ (s : Share). slice_set old.nexts.items (place_of first s.last) number) (share_in old.shares x.from) old.nexts.items ≡ option_map_or (λ i. slice_set old.nexts.items i number) (last_at x.from rs) old.nexts.items
    place [] none = rw (are.shared x.from, none, last-none x.from first rs none) refl
    place (m ∷ ms) some =
        let (i, within, at, last) = last-some x.from first rs m ms some in
        let here : place_of first (last_of m ms) ≡ i = omega arith in
        rw (are.shared x.from, some, at) (ap (λ (l : ℕ). slice_set old.nexts.items l number) here)

-- the first goes
pub AreSourced-rest : (first : ℕ) (old new : Sources) (r : Record) (rs : List Record)
    → IfSome (slice_get old.nexts.items 0) (λ next. (e : Endpoint) → share_in new.shares e ≡ cond (is_same r.from e) (shrunk (share_in old.shares r.from) next) (share_in old.shares e))
    → new.nexts.items ≡ drop 1 old.nexts.items → AreSourced first old (r ∷ rs) → AreSourced ((first + 1) % 2 ^ 64) new rs
AreSourced-rest first old new r rs shares nexts are = go old.nexts.items shares nexts are.linked
  where
    go : (ns : List ℕ) → IfSome (slice_get ns 0) (λ next. (e : Endpoint) → share_in new.shares e ≡ cond (is_same r.from e) (shrunk (share_in old.shares r.from) next) (share_in old.shares e)) → new.nexts.items ≡ drop 1 ns → AreLinked first ns (r ∷ rs) → AreSourced ((first + 1) % 2 ^ 64) new rs
    go [] takes left links = absurd links
    go (next ∷ ns) takes left links = record {
      shared = λ e. takes e ∙ ap (λ b. cond b (shrunk (share_in old.shares r.from) next) (share_in old.shares e)) (is_same-same_endpoint r.from e) ∙ each e (same_endpoint r.from e) refl (are.shared e) ∙ ap share_of (numbers_from-as (first + 1) ((first + 1) % 2 ^ 64) e rs (omega arith));
      linked = subst (λ ls. AreLinked ((first + 1) % 2 ^ 64) ls rs) (sym left) (AreLinked-as (first + 1) ((first + 1) % 2 ^ 64) ns rs (omega arith) links.1);
    }
      where
        each : (e : Endpoint) (b : Bool) → same_endpoint r.from e ≡ b → share_in old.shares e ≡ share_of (cond b (first % 2 ^ 64 ∷ numbers_from (first + 1) e rs) (numbers_from (first + 1) e rs)) → cond b (shrunk (share_in old.shares r.from) next) (share_in old.shares e) ≡ share_of (numbers_from (first + 1) e rs)
        each e true same is =
            let from : r.from ≡ e = Tells-endpoint.only r.from e same in
            ap (λ (f : Endpoint). shrunk (share_in old.shares f) next) from ∙ ap (λ (o : Option Share). shrunk o next) is
            ∙ share-rest (first % 2 ^ 64) next (numbers_from (first + 1) e rs) (subst (λ (f : Endpoint). IsNext next (numbers_from (first + 1) f rs)) from links.0)
        each e false other is = is

-- the shares and links are those of before
pub AreSourced-same : (first : ℕ) (old new : Sources) (rs : List Record) → ((e : Endpoint) → share_in new.shares e ≡ share_in old.shares e) → new.nexts ≡ old.nexts → AreSourced first old rs → AreSourced first new rs
AreSourced-same first old new rs shares nexts are = record {
  shared = λ e. shares e ∙ are.shared e;
  linked = subst (λ (b : Buffer ℕ). AreLinked first b.items rs) (sym nexts) are.linked;
}
