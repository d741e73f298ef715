-- How many bytes lists of options take: with one more option they aren't shorter.
use Rattle.std.proofs.Common.{◌≡◌, ◌≢◌, ℕ, ◌+◌, ◌-◌, ◌<◌, ◌≤◌, Bool, true, false, cond, eqb, leb, ltb, List, [], ◌∷◌, length, refl, sym, ap, subst, arith}
use Rattle.std.specs.Prelude.{◌||◌, ◌==◌, not, filter}
use Rattle.std.specs.List.{AllByRecursion}
use Rattle.std.proofs.lemmas.Bool.{eqb-true, eqb-false, eq-eqb, leb-true, leb-false, ltb-true, ltb-false, lt-ltb}
use Rattle.coap_message.specs.declared.options.Opt.{Opt}
use Rattle.coap_message.specs.Options.{AreOptions}
use Rattle.coap_message.specs.Spelling.{more_length, options_length}
use Rattle.coap_store.proofs.Picked.{AreOptions-filter}

-- the bytes that extend a sum are at most one more than those that extend both parts
more-sum : (a b : ℕ) → more_length (a + b) ≤ 1 + more_length a + more_length b
more-sum a b = go (ltb (a + b) 13) refl (ltb (a + b) 269) refl (ltb a 13) refl (ltb a 269) (ltb b 13) refl (ltb b 269)
  where
    go : (p : Bool) → ltb (a + b) 13 ≡ p → (q : Bool) → ltb (a + b) 269 ≡ q → (r : Bool) → ltb a 13 ≡ r → (s : Bool) → (t : Bool) → ltb b 13 ≡ t → (u : Bool)
        → cond p 0 (cond q 1 2) ≤ 1 + cond r 0 (cond s 1 2) + cond t 0 (cond u 1 2)
    go true e q f r g s t h u = omega arith
    go false e true f r g s t h u = omega arith
    go false e false f true g s true h u = absurd (omega (arith, ltb-false _ _ f, ltb-true _ _ g, ltb-true _ _ h))
    go false e false f false g true t h u = omega arith
    go false e false f false g false t h u = omega arith
    go false e false f true g s false h true = omega arith
    go false e false f true g s false h false = omega arith

-- options after a lower number take at most one more byte, and those that extend the difference
pub lower-length : (low number : ℕ) (os : List Opt) → low ≤ number → AreOptions number os → options_length low os ≤ 1 + more_length (number - low) + options_length number os
lower-length low number [] le are = omega arith
lower-length low number (o ∷ os) le are =
    let apart : o.number - low ≡ (number - low) + (o.number - number) = omega (arith, are.0) in
    omega (arith, ap more_length apart, more-sum (number - low) (o.number - number))

-- some of them take no more than all
pub filter-length : (keep : Opt → Bool) (low : ℕ) (os : List Opt) → AreOptions low os → options_length low (filter keep os) ≤ options_length low os
filter-length keep low [] are = omega arith
filter-length keep low (o ∷ os) are = go (keep o) (filter-length keep o.number os are.3)
  where
    go : (b : Bool) → options_length o.number (filter keep os) ≤ options_length o.number os → options_length low (cond b (o ∷ filter keep os) (filter keep os)) ≤ options_length low (o ∷ os)
    go true rest = omega (arith, rest)
    go false rest = omega (arith, rest, lower-length low o.number (filter keep os) are.0 (AreOptions-filter keep o.number os are.3))

-- ---- the options of a target, and the others

-- the bytes that options take without their deltas
abbrev pub plain_length : List Opt → ℕ
plain_length [] = 0
plain_length (o ∷ os) = 1 + more_length (length o.value) + length o.value + plain_length os

-- if their numbers are small, they take at most one more byte in all
pub small-numbers : (low : ℕ) (os : List Opt) → AreOptions low os → AllByRecursion (λ o. o.number ≤ 15) os → options_length low os ≤ plain_length os + cond (leb low 2) 1 0
small-numbers low [] are small = omega arith
small-numbers low (o ∷ os) are small = go (ltb (o.number - low) 13) refl (ltb (o.number - low) 269) refl (leb low 2) refl (leb o.number 2) refl (small-numbers o.number os are.3 small.1)
  where
    go : (g : Bool) → ltb (o.number - low) 13 ≡ g → (h : Bool) → ltb (o.number - low) 269 ≡ h → (a : Bool) → leb low 2 ≡ a → (b : Bool) → leb o.number 2 ≡ b → options_length o.number os ≤ plain_length os + cond b 1 0
        → 1 + cond g 0 (cond h 1 2) + more_length (length o.value) + length o.value + options_length o.number os ≤ 1 + more_length (length o.value) + length o.value + plain_length os + cond a 1 0
    go true g h i true e true f rest = omega (arith, rest)
    go true g h i true e false f rest = omega (arith, rest)
    go true g h i false e true f rest = absurd (omega (arith, leb-false _ _ e, leb-true _ _ f, are.0))
    go true g h i false e false f rest = omega (arith, rest)
    go false g true i true e true f rest = absurd (omega (arith, ltb-false _ _ g, leb-true _ _ f))
    go false g true i true e false f rest = omega (arith, rest)
    go false g true i false e b f rest = absurd (omega (arith, ltb-false _ _ g, leb-false _ _ e, small.0))
    go false g false i a e b f rest = absurd (omega (arith, ltb-false _ _ i, small.0))

-- adding a small number takes at most one more byte
more-small : (a b : ℕ) → b ≤ 15 → more_length (a + b) ≤ more_length a + 1
more-small a b small = go (ltb (a + b) 13) refl (ltb (a + b) 269) refl (ltb a 13) refl (ltb a 269)
  where
    go : (p : Bool) → ltb (a + b) 13 ≡ p → (q : Bool) → ltb (a + b) 269 ≡ q → (r : Bool) → ltb a 13 ≡ r → (s : Bool) → cond p 0 (cond q 1 2) ≤ cond r 0 (cond s 1 2) + 1
    go true e q f r g s = omega arith
    go false e true f r g s = omega arith
    go false e false f true g s = absurd (omega (arith, ltb-false _ _ f, ltb-true _ _ g))
    go false e false f false g true = omega arith
    go false e false f false g false = omega arith

-- an option with this number is a part of a target that counts: its host, its path or its query
abbrev pub says_here : ℕ → Bool
says_here number = (number == 3) || ((number == 11) || (number == 15))

-- how many of the numbers of target options are still to come
abbrev ahead : ℕ → ℕ
ahead low = cond (ltb low 3) 1 0 + cond (ltb low 11) 1 0 + cond (ltb low 15) 1 0

-- no more than before
ahead-fewer : (low n : ℕ) → low ≤ n → ahead n ≤ ahead low
ahead-fewer low n le = omega (arith, one 3 (ltb n 3) refl (ltb low 3) refl, one 11 (ltb n 11) refl (ltb low 11) refl, one 15 (ltb n 15) refl (ltb low 15) refl)
  where
    one : (k : ℕ) (a : Bool) → ltb n k ≡ a → (b : Bool) → ltb low k ≡ b → cond a 1 0 ≤ cond b 1 0
    one k true e true f = omega arith
    one k true e false f = absurd (omega (arith, ltb-true _ _ e, ltb-false _ _ f))
    one k false e b f = omega arith

-- an option of a target has one of three numbers
pub data IsOfTarget : ℕ → Type 0 where
  host : IsOfTarget 3
  path : IsOfTarget 11
  query : IsOfTarget 15

pub of-target : (n : ℕ) → says_here n ≡ true → IsOfTarget n
of-target n says = go (eqb n 3) refl (eqb n 11) refl (eqb n 15) refl says
  where
    go : (a : Bool) → eqb n 3 ≡ a → (b : Bool) → eqb n 11 ≡ b → (c : Bool) → eqb n 15 ≡ c → (a || (b || c)) ≡ true → IsOfTarget n
    go true e b f c g s = subst IsOfTarget (sym (eqb-true n 3 e)) host
    go false e true f c g s = subst IsOfTarget (sym (eqb-true n 11 f)) path
    go false e false f true g s = subst IsOfTarget (sym (eqb-true n 15 g)) query
    go false e false f false g s = absurd cc

-- each of these numbers is small
of-target-small : (n : ℕ) → IsOfTarget n → n ≤ 15
of-target-small _ host = omega arith
of-target-small _ path = omega arith
of-target-small _ query = omega arith

pub says-small : (n : ℕ) → says_here n ≡ true → n ≤ 15
says-small n says = of-target-small n (of-target n says)

-- and after it there is one fewer to come
ahead-less : (low n : ℕ) → low < n → IsOfTarget n → ahead n + 1 ≤ ahead low
ahead-less low _ less host = rw (lt-ltb low 3 less, lt-ltb low 11 (omega arith), lt-ltb low 15 (omega arith)) (omega arith)
ahead-less low _ less path = rw (lt-ltb low 11 less, lt-ltb low 15 (omega arith)) (omega arith)
ahead-less low _ less query = rw (lt-ltb low 15 less) (omega arith)

-- a number equals itself
unequal : (n : ℕ) → n ≢ n → n ≤ 15
unequal n other = absurd (other (refl {a = n}))

-- Separately, the options of a target and the others take little more than together.
apart : (behind low : ℕ) (os : List Opt) → behind ≤ low → (behind ≢ low → low ≤ 15) → AreOptions low os
    → options_length behind (filter (λ o. not (says_here o.number)) os) + plain_length (filter (λ o. says_here o.number) os) ≤ options_length low os + cond (eqb behind low) 0 1 + ahead low
apart behind low [] le near are = omega arith
apart behind low (o ∷ os) le near are = go (says_here o.number) refl (eqb behind low) refl (eqb low o.number) refl (λ small. apart behind o.number os (omega (arith, are.0)) (λ other. small) are.3) (apart o.number o.number os (omega arith) (λ other. unequal o.number other) are.3)
  where
    others : List Opt
    others = filter (λ p. not (says_here p.number)) os

    said : List Opt
    said = filter (λ p. says_here p.number) os

    -- another number, if it isn't one of a target option
    moved : (a : Bool) → eqb behind low ≡ a → more_length (o.number - behind) ≤ more_length (o.number - low) + cond a 0 1
    moved true e = let same = eqb-true behind low e in subst (λ (k : ℕ). more_length (o.number - k) ≤ more_length (o.number - low) + 0) (sym same) (omega arith)
    moved false e =
        let close = near (eqb-false behind low e) in
        let sum : o.number - behind ≡ (o.number - low) + (low - behind) = omega (arith, are.0) in
        omega (arith, ap more_length sum, more-small (o.number - low) (low - behind) (omega (arith, close)))

    -- the number of a target option
    passed : IsOfTarget o.number → (a : Bool) → eqb behind low ≡ a → (b : Bool) → eqb low o.number ≡ b → cond (eqb behind o.number) 0 1 + ahead o.number ≤ cond a 0 1 + ahead low
    passed is a e true f = let same = eqb-true low o.number f in subst (λ (n : ℕ). cond (eqb behind n) 0 1 + ahead n ≤ cond a 0 1 + ahead low) same (rw e (omega arith))
    passed is a e false f = omega (arith, ahead-less low o.number (let other = eqb-false low o.number f in omega (arith, are.0, other)) is, most (eqb behind o.number))
      where
        most : (b : Bool) → cond b 0 1 ≤ 1
        most true = omega arith
        most false = omega arith

    go : (s : Bool) → says_here o.number ≡ s → (a : Bool) → eqb behind low ≡ a → (b : Bool) → eqb low o.number ≡ b
        → (o.number ≤ 15 → options_length behind others + plain_length said ≤ options_length o.number os + cond (eqb behind o.number) 0 1 + ahead o.number)
        → options_length o.number others + plain_length said ≤ options_length o.number os + cond (eqb o.number o.number) 0 1 + ahead o.number
        → options_length behind (cond (not s) (o ∷ others) others) + plain_length (cond s (o ∷ said) said) ≤ options_length low (o ∷ os) + cond a 0 1 + ahead low
    go true s a e b f said_rest other_rest =
        let is = of-target o.number s in
        omega (arith, said_rest (of-target-small o.number is), passed is a e b f)
    go false s a e b f said_rest rest =
        let here : ◌≡◌ {A = ℕ} (cond (eqb o.number o.number) 0 1) 0 = ap {B = ℕ} (λ (c : Bool). cond c 0 1) (eq-eqb o.number o.number refl) in
        omega (arith, rest, here, moved a e, ahead-fewer low o.number are.0)

-- so those of a message take at most three more bytes
pub both-apart : (os : List Opt) → AreOptions 0 os → options_length 0 (filter (λ o. not (says_here o.number)) os) + plain_length (filter (λ o. says_here o.number) os) ≤ options_length 0 os + 3
both-apart os are = omega (arith, apart 0 0 os (omega arith) (λ other. unequal 0 other) are)
