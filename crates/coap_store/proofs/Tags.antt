-- The first ETag of a response.
use Rattle.std.proofs.Common.{◌≡◌, ◌==◌, ℕ, ◌+◌, ◌≤◌, ◌&&◌, Bool, true, false, cond, nat_le, List, [], ◌∷◌, ◌++◌, Option, Some, None, length, find, refl, ap, ◌∙◌, arith, eq-eqb}
use Rattle.std.specs.Option.{option_map}
use Rattle.std.proofs.lemmas.Bool.{and_parts, eqb-true, leb-true}
use Rattle.std.proofs.lemmas.List.Sums.{sum_by_push}
use Rattle.coap_message.specs.declared.options.Opt.{Opt}
use Rattle.coap_option.specs.declared.side.Side.TheVariants.{Response}
use Rattle.coap_option.specs.Places.{PlacedOption, count_of, places_behind}
use Rattle.coap_option.specs.Recognition.{is_recognised}
use Rattle.coap_option.specs.Selection.{is_of}
use Rattle.coap_store.specs.Renewing.{tag_of}

-- the first ETag, if it is recognised
abbrev pub first_tag : List Opt → Option (List ℕ)
first_tag [] = None
first_tag (o ∷ os) = cond (o.number == 4) (cond (is_recognised Response 4 (length o.value) 0) (Some o.value) None) (first_tag os)

-- an option with how many of its number stand before it
abbrev placed : Opt → ℕ → PlacedOption
placed o n = record { option = o; before = n }

-- an ETag after another isn't recognised
second-fails : (n : ℕ) (o : Opt) (before : ℕ) → o.number ≡ 4 → before ≡ n → 1 ≤ n → is_of Response 4 (placed o before) ≡ false
second-fails n o before tag counted more =
    let none : (before == 0) ≡ false = grind arith in
    rw (tag, none) (go (nat_le 1 (length o.value)) (nat_le (length o.value) 8))
  where
    go : (a b : Bool) → (a && b && false) ≡ false
    go true true = refl
    go true false = refl
    go false b = refl

-- so none is found after one
none-behind : (passed os : List Opt) → 1 ≤ count_of 4 passed → find (is_of Response 4) (places_behind passed os) ≡ None
none-behind passed [] more = refl
none-behind passed (o ∷ os) more =
    let push = sum_by_push (λ (x : Opt). cond (x.number == 4) 1 0) passed o in
    let rest = none-behind (passed ++ o ∷ []) os (omega (arith, push)) in
    go (o.number == 4) refl rest
  where
    fails : (b : Bool) → (o.number == 4) ≡ b → is_of Response 4 (placed o (count_of o.number passed)) ≡ false
    fails true e = let tag = eqb-true o.number 4 e in second-fails (count_of 4 passed) o (count_of o.number passed) tag (ap (λ n. count_of n passed) tag) more
    fails false e = rw e refl

    go : (b : Bool) → (o.number == 4) ≡ b → find (is_of Response 4) (places_behind (passed ++ o ∷ []) os) ≡ None → find (is_of Response 4) (places_behind passed (o ∷ os)) ≡ None
    go b e rest = rw (fails b e) rest

-- the first place of an ETag tells whether it is recognised
tests : (o : Opt) (before : ℕ) → o.number ≡ 4 → before ≡ 0 → is_of Response 4 (placed o before) ≡ is_recognised Response 4 (length o.value) 0
tests o before tag zero = rw (tag, zero) refl

-- after options without an ETag the first one is found
found-first : (passed os : List Opt) → count_of 4 passed ≡ 0 → option_map (λ p. p.option.value) (find (is_of Response 4) (places_behind passed os)) ≡ first_tag os
found-first passed [] none = refl
found-first passed (o ∷ os) none =
    go (o.number == 4) refl (sum_by_push (λ (x : Opt). cond (x.number == 4) 1 0) passed o) (λ still. found-first (passed ++ o ∷ []) os still) (λ more. none-behind (passed ++ o ∷ []) os more)
  where
    pick : (r : Bool) → find (is_of Response 4) (places_behind (passed ++ o ∷ []) os) ≡ None
        → option_map (λ p. p.option.value) (cond r (Some (placed o (count_of o.number passed))) (find (is_of Response 4) (places_behind (passed ++ o ∷ []) os))) ≡ cond r (Some o.value) None
    pick true nothing = refl
    pick false nothing = rw nothing refl

    go : (b : Bool) → (o.number == 4) ≡ b → count_of 4 (passed ++ o ∷ []) ≡ count_of 4 passed + cond (o.number == 4) 1 0
        → (count_of 4 (passed ++ o ∷ []) ≡ 0 → option_map (λ p. p.option.value) (find (is_of Response 4) (places_behind (passed ++ o ∷ []) os)) ≡ first_tag os)
        → (1 ≤ count_of 4 (passed ++ o ∷ []) → find (is_of Response 4) (places_behind (passed ++ o ∷ []) os) ≡ None)
        → option_map (λ p. p.option.value) (find (is_of Response 4) (places_behind passed (o ∷ os))) ≡ cond b (cond (is_recognised Response 4 (length o.value) 0) (Some o.value) None) (first_tag os)
    go true e count still more =
        let tag = eqb-true o.number 4 e in
        let one : count_of 4 (passed ++ o ∷ []) ≡ count_of 4 passed + 1 = rw e at count in
        let test = tests o (count_of o.number passed) tag (ap (λ n. count_of n passed) tag ∙ none) in
        rw test (pick (is_recognised Response 4 (length o.value) 0) (more (omega arith)))
    go false e count still more =
        let same : count_of 4 (passed ++ o ∷ []) ≡ count_of 4 passed + 0 = rw e at count in
        rw e (still (omega arith))

-- the tag is that of the first ETag
pub tag_of-first : (os : List Opt) → tag_of os ≡ first_tag os
tag_of-first os = found-first [] os refl

-- a recognised ETag has at most eight bytes
pub tag-short : (n : ℕ) → is_recognised Response 4 n 0 ≡ true → n ≤ 8
tag-short n is = leb-true n 8 (and_parts (nat_le 1 n) (nat_le n 8) (and_parts (nat_le 1 n && nat_le n 8) true is).0).1

-- the first option left is an ETag that is recognised
pub first_tag-yes : (left rest : List Opt) (o : Opt) → left ≡ o ∷ rest → o.number ≡ 4 → is_recognised Response 4 (length o.value) 0 ≡ true → first_tag left ≡ Some o.value
first_tag-yes left rest o next tag is = rw (next, eq-eqb o.number 4 tag, is) refl

-- or one that isn't
pub first_tag-no : (left rest : List Opt) (o : Opt) → left ≡ o ∷ rest → o.number ≡ 4 → is_recognised Response 4 (length o.value) 0 ≡ false → first_tag left ≡ None
first_tag-no left rest o next tag fails = rw (next, eq-eqb o.number 4 tag, fails) refl
