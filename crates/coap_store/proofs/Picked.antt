-- Options in order of number, and those of them that are picked.
use Rattle.std.proofs.Common.{◌≡◌, ℕ, ◌<◌, ◌≤◌, Bool, true, false, cond, nat_le, nat_lt, List, [], ◌∷◌, ◌++◌, filter, refl, ap, ◌∙◌, arith}
use Rattle.std.proofs.lemmas.Bool.{ltb-true, leb-false, le-leb, le-ltb, lt-ltb}
use Rattle.coap_message.specs.declared.options.Opt.{Opt}
use Rattle.coap_message.specs.Options.{AreOptions, last_number}
use Rattle.coap_store.specs.Renewing.{above, below, from}

-- options in order are so after any lower number
pub AreOptions-weaken : (before least : ℕ) (os : List Opt) → before ≤ least → AreOptions least os → AreOptions before os
AreOptions-weaken before least [] le are = tt
AreOptions-weaken before least (o ∷ os) le are = (omega arith, are.1, are.2, are.3)

-- options that are picked from options in order are in order
pub AreOptions-filter : (test : Opt → Bool) (before : ℕ) (os : List Opt) → AreOptions before os → AreOptions before (filter test os)
AreOptions-filter test before [] are = tt
AreOptions-filter test before (o ∷ os) are = go (test o) (AreOptions-filter test o.number os are.3)
  where
    go : (b : Bool) → AreOptions o.number (filter test os) → AreOptions before (cond b (o ∷ filter test os) (filter test os))
    go true rest = (are.0, are.1, are.2, rest)
    go false rest = AreOptions-weaken before o.number (filter test os) are.0 rest

-- also after any number that is above none of them
pub AreOptions-above : (test : Opt → Bool) (before least : ℕ) (os : List Opt) → ((o : Opt) → test o ≡ true → before ≤ o.number) → AreOptions least os → AreOptions before (filter test os)
AreOptions-above test before least [] holds are = tt
AreOptions-above test before least (o ∷ os) holds are = go (test o) refl (AreOptions-above test before o.number os holds are.3)
  where
    go : (b : Bool) → test o ≡ b → AreOptions before (filter test os) → AreOptions before (cond b (o ∷ filter test os) (filter test os))
    go true e rest = (holds o e, are.1, are.2, AreOptions-filter test o.number os are.3)
    go false e rest = rest

-- the last number of two lists
pub last_number-append : (before : ℕ) (xs ys : List Opt) → last_number before (xs ++ ys) ≡ last_number (last_number before xs) ys
last_number-append before [] ys = refl
last_number-append before (x ∷ xs) ys = last_number-append x.number xs ys

-- the options below a number end below it
pub last-below : (number before : ℕ) (os : List Opt) → before ≤ number → last_number before (below number os) ≤ number
last-below number before [] le = le
last-below number before (o ∷ os) le = go (nat_lt o.number number) refl (last-below number before os le) (λ less. last-below number o.number os less)
  where
    go : (b : Bool) → nat_lt o.number number ≡ b → last_number before (below number os) ≤ number → (o.number ≤ number → last_number o.number (below number os) ≤ number) → last_number before (cond b (o ∷ below number os) (below number os)) ≤ number
    go true e skipped kept = let less = ltb-true o.number number e in kept (omega arith)
    go false e skipped kept = skipped

-- what stands from a number on: all of it, where none is lower
pub from-all : (number least : ℕ) (os : List Opt) → number ≤ least → AreOptions least os → from number os ≡ os
from-all number least [] le are = refl
from-all number least (o ∷ os) le are =
    let holds : nat_le number o.number ≡ true = le-leb number o.number (omega (arith, are.0)) in
    rw (holds, from-all number o.number os (omega (arith, are.0)) are.3) refl

-- and then nothing stands below it
pub below-none : (number least : ℕ) (os : List Opt) → number ≤ least → AreOptions least os → below number os ≡ []
below-none number least [] le are = refl
below-none number least (o ∷ os) le are =
    let fails : nat_lt o.number number ≡ false = le-ltb o.number number (omega (arith, are.0)) in
    rw (fails, below-none number o.number os (omega (arith, are.0)) are.3) refl

-- what stands above a number: all of it, where each is above it
pub above-all : (number least : ℕ) (os : List Opt) → number < least → AreOptions least os → above number os ≡ os
above-all number least [] less are = refl
above-all number least (o ∷ os) less are =
    let holds : nat_lt number o.number ≡ true = lt-ltb number o.number (omega (arith, are.0)) in
    rw (holds, above-all number o.number os (omega (arith, are.0)) are.3) refl

-- what stands above a number stands from it on
pub above-from : (number : ℕ) (os : List Opt) → above number (from number os) ≡ above number os
above-from number [] = refl
above-from number (o ∷ os) = go (nat_le number o.number) refl (above-from number os)
  where
    go : (b : Bool) → nat_le number o.number ≡ b → above number (from number os) ≡ above number os → above number (cond b (o ∷ from number os) (from number os)) ≡ above number (o ∷ os)
    go true e rest = ap (λ l. cond (nat_lt number o.number) (o ∷ l) l) rest
    go false e rest =
        let low = leb-false number o.number e in
        let fails : nat_lt number o.number ≡ false = le-ltb number o.number (omega arith) in
        rest ∙ rw fails refl
