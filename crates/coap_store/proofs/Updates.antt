-- Newer options among older ones, kind by kind.
use Rattle.std.proofs.Common.{◌≡◌, ◌≢◌, ◌==◌, ◌||◌, ℕ, ◌<◌, ◌≤◌, Bool, true, false, cond, nat_lt, List, [], ◌∷◌, ◌++◌, refl, sym, ap, ◌∙◌, arith, eq-eqb}
use Rattle.std.proofs.lemmas.Bool.{eqb-true, ltb-true, ltb-false}
use Rattle.std.proofs.lemmas.List.{append-nil}
use Rattle.std.proofs.lemmas.List.Elements.{filter-append}
use Rattle.coap_message.specs.declared.options.Opt.{Opt}
use Rattle.coap_message.specs.Options.{AreOptions}
use Rattle.coap_store.specs.Renewing.{above, below, has_number, of_number, updated}
use Rattle.coap_store.proofs.Picked.{AreOptions-above, AreOptions-weaken}

-- no option below a number has that number or a higher one
of_number-below : (n number : ℕ) (os : List Opt) → number ≤ n → of_number n (below number os) ≡ []
of_number-below n number [] le = refl
of_number-below n number (o ∷ os) le = go (nat_lt o.number number) refl (of_number-below n number os le)
  where
    go : (b : Bool) → nat_lt o.number number ≡ b → of_number n (below number os) ≡ [] → of_number n (cond b (o ∷ below number os) (below number os)) ≡ []
    go true e rest =
        let less = ltb-true o.number number e in
        let other : (o.number == n) ≡ false = grind arith in
        rw other rest
    go false e rest = rest

-- none above a number has that number or a lower one
of_number-above : (n number : ℕ) (os : List Opt) → n ≤ number → of_number n (above number os) ≡ []
of_number-above n number [] le = refl
of_number-above n number (o ∷ os) le = go (nat_lt number o.number) refl (of_number-above n number os le)
  where
    go : (b : Bool) → nat_lt number o.number ≡ b → of_number n (above number os) ≡ [] → of_number n (cond b (o ∷ above number os) (above number os)) ≡ []
    go true e rest =
        let more = ltb-true number o.number e in
        let other : (o.number == n) ≡ false = grind arith in
        rw other rest
    go false e rest = rest

-- those of a lower number are all below it
of_number-all_below : (n number : ℕ) (os : List Opt) → n < number → of_number n (below number os) ≡ of_number n os
of_number-all_below n number [] less = refl
of_number-all_below n number (o ∷ os) less = go (nat_lt o.number number) refl (of_number-all_below n number os less)
  where
    go : (b : Bool) → nat_lt o.number number ≡ b → of_number n (below number os) ≡ of_number n os → of_number n (cond b (o ∷ below number os) (below number os)) ≡ of_number n (o ∷ os)
    go true e rest = ap (λ l. cond (o.number == n) (o ∷ l) l) rest
    go false e rest =
        let high = ltb-false o.number number e in
        let other : (o.number == n) ≡ false = grind arith in
        rest ∙ rw other refl

-- those of a higher number are all above it
of_number-all_above : (n number : ℕ) (os : List Opt) → number < n → of_number n (above number os) ≡ of_number n os
of_number-all_above n number [] less = refl
of_number-all_above n number (o ∷ os) less = go (nat_lt number o.number) refl (of_number-all_above n number os less)
  where
    go : (b : Bool) → nat_lt number o.number ≡ b → of_number n (above number os) ≡ of_number n os → of_number n (cond b (o ∷ above number os) (above number os)) ≡ of_number n (o ∷ os)
    go true e rest = ap (λ l. cond (o.number == n) (o ∷ l) l) rest
    go false e rest =
        let low = ltb-false number o.number e in
        let other : (o.number == n) ≡ false = grind arith in
        rest ∙ rw other refl

-- without an option of a number there are none of it
of_number-none : (n : ℕ) (os : List Opt) → has_number n os ≡ false → of_number n os ≡ []
of_number-none n [] none = refl
of_number-none n (o ∷ os) none = go (o.number == n) none (λ rest. of_number-none n os rest)
  where
    go : (b : Bool) → (b || has_number n os) ≡ false → (has_number n os ≡ false → of_number n os ≡ []) → cond b (o ∷ of_number n os) (of_number n os) ≡ []
    go true e rest = absurd cc
    go false e rest = rest e

-- the least number of options in order
has_number-least : (n least : ℕ) (os : List Opt) → AreOptions least os → has_number n os ≡ true → least ≤ n
has_number-least n least [] are has = absurd cc
has_number-least n least (o ∷ os) are has = go (o.number == n) refl has (λ rest. has_number-least n o.number os are.3 rest)
  where
    go : (b : Bool) → (o.number == n) ≡ b → (b || has_number n os) ≡ true → (has_number n os ≡ true → o.number ≤ n) → least ≤ n
    go true e f rest = omega (arith, are.0, eqb-true o.number n e)
    go false e f rest = omega (arith, are.0, rest f)

-- the options of another number stand on its two sides
of_number-sides : (n number : ℕ) (os : List Opt) → number ≢ n → of_number n (below number os) ++ of_number n (above number os) ≡ of_number n os
of_number-sides n number os other = go (nat_lt n number) refl
  where
    go : (b : Bool) → nat_lt n number ≡ b → of_number n (below number os) ++ of_number n (above number os) ≡ of_number n os
    go true e =
        let less = ltb-true n number e in
        rw (of_number-all_below n number os less, of_number-above n number os (omega arith)) (append-nil (of_number n os))
    go false e =
        let high = ltb-false n number e in
        rw (of_number-below n number os high, of_number-all_above n number os (omega (arith, other))) refl

-- what isn't equal by its test
apart : (m n : ℕ) → (m == n) ≡ false → m ≢ n
apart m n e same = let is = eq-eqb m n same in cc

-- the options of a number after the newer one of that number
kind-same : (n number : ℕ) (newer older : List Opt) → number ≡ n → cond (has_number n newer) (of_number n newer) (of_number n (above number older)) ≡ of_number n newer
kind-same n number newer older same = go (has_number n newer) refl
  where
    go : (b : Bool) → has_number n newer ≡ b → cond b (of_number n newer) (of_number n (above number older)) ≡ of_number n newer
    go true e = refl
    go false e = of_number-above n number older (omega arith) ∙ sym (of_number-none n newer e)

-- and those of another number on both sides of it
kind-other : (n number : ℕ) (newer older : List Opt) → number ≢ n → AreOptions number newer
    → of_number n (below number older) ++ cond (has_number n newer) (of_number n newer) (of_number n (above number older)) ≡ cond (has_number n newer) (of_number n newer) (of_number n older)
kind-other n number newer older other are = go (has_number n newer) refl
  where
    go : (b : Bool) → has_number n newer ≡ b → of_number n (below number older) ++ cond b (of_number n newer) (of_number n (above number older)) ≡ cond b (of_number n newer) (of_number n older)
    go true e = ap (λ l. l ++ of_number n newer) (of_number-below n number older (has_number-least n number newer are e))
    go false e = of_number-sides n number older other

-- a kind of which there is a newer option is that of the newer ones, and any other is that of the older ones
pub of_number-updated : (n before : ℕ) (newer older : List Opt) → AreOptions before newer → of_number n (updated newer older) ≡ cond (has_number n newer) (of_number n newer) (of_number n older)
of_number-updated n before [] older are = refl
of_number-updated n before (x ∷ newer) older are =
    filter-append (λ o. o.number == n) (below x.number older) (x ∷ updated newer (above x.number older))
    ∙ go (x.number == n) refl (of_number-updated n x.number newer (above x.number older) are.3)
  where
    go : (b : Bool) → (x.number == n) ≡ b → of_number n (updated newer (above x.number older)) ≡ cond (has_number n newer) (of_number n newer) (of_number n (above x.number older))
        → of_number n (below x.number older) ++ cond b (x ∷ of_number n (updated newer (above x.number older))) (of_number n (updated newer (above x.number older))) ≡ cond (b || has_number n newer) (cond b (x ∷ of_number n newer) (of_number n newer)) (of_number n older)
    go true e step =
        let is = eqb-true x.number n e in
        rw (of_number-below n x.number older (omega arith)) (ap (λ l. x ∷ l) (step ∙ kind-same n x.number newer older is))
    go false e step = rw step (kind-other n x.number newer older (apart x.number n e) are.3)

-- an option in its place among options in order, in place of those of its kind
joined : (x : Opt) (tail : List Opt) → AreOptions x.number (x ∷ tail) → (least : ℕ) (os : List Opt) → least ≤ x.number → AreOptions least os → AreOptions least (below x.number os ++ x ∷ tail)
joined x tail behind least [] le are = (le, behind.1, behind.2, behind.3)
joined x tail behind least (o ∷ os) le are =
    go (nat_lt o.number x.number) refl (λ less. joined x tail behind o.number os less are.3) (joined x tail behind least os le (AreOptions-weaken least o.number os are.0 are.3))
  where
    go : (b : Bool) → nat_lt o.number x.number ≡ b → (o.number ≤ x.number → AreOptions o.number (below x.number os ++ x ∷ tail)) → AreOptions least (below x.number os ++ x ∷ tail)
        → AreOptions least (cond b (o ∷ below x.number os) (below x.number os) ++ x ∷ tail)
    go true e kept skipped = let less = ltb-true o.number x.number e in (are.0, are.1, are.2, kept (omega arith))
    go false e kept skipped = skipped

-- options in order stay so
pub AreOptions-updated : (before : ℕ) (newer older : List Opt) → AreOptions before newer → AreOptions before older → AreOptions before (updated newer older)
AreOptions-updated before [] older newer_are older_are = older_are
AreOptions-updated before (x ∷ newer) older newer_are older_are =
    let behind : AreOptions x.number (above x.number older) = AreOptions-above (λ o. nat_lt x.number o.number) x.number before older (λ o holds. let more = ltb-true x.number o.number holds in omega arith) older_are in
    joined x (updated newer (above x.number older)) (omega arith, newer_are.1, newer_are.2, AreOptions-updated x.number newer (above x.number older) newer_are.3 behind) before older newer_are.0 older_are
