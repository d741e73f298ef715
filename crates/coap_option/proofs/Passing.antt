-- One pass over options in order, which counts the options with the last number.
use Rattle.std.proofs.Common.{◌≡◌, ◌==◌, ℕ, ◌+◌, ◌<◌, ◌≤◌, false, cond, List, [], ◌∷◌, ◌++◌, refl, sym, ap, subst, ◌∙◌, arith, eq-eqb, ⊎_elim}
use Rattle.std.proofs.lemmas.Bool.{cases_eq, ne_eqb}
use Rattle.std.proofs.lemmas.List.Sums.{sum_by-cons, sum_by_push}
use Rattle.coap_message.specs.declared.options.Opt.{Opt}
use Rattle.coap_message.specs.Options.{AreOptions, last_number}
use Rattle.coap_message.proofs.Counting.{last_number-push}
use Rattle.coap_message.proofs.OptionLists.{AreOptions-push}
use Rattle.coap_option.specs.declared.places.Run.{Run}
use Rattle.coap_option.specs.Passing.{before_of, run_behind, places_after}
use Rattle.coap_option.specs.Places.{PlacedOption, count_of, places, places_behind}

-- numbers don't decrease
pub last_number-le : (b : ℕ) (xs : List Opt) → AreOptions b xs → b ≤ last_number b xs
last_number-le b [] are = omega arith
last_number-le b (y ∷ ys) are = omega (arith, are.0, last_number-le y.number ys are.3)

-- no option has a number above the last one
count_of-above : (n b : ℕ) (xs : List Opt) → AreOptions b xs → last_number b xs < n → count_of n xs ≡ 0
count_of-above n b [] are above = refl
count_of-above n b (y ∷ ys) are above =
    let le : y.number ≤ last_number y.number ys = last_number-le y.number ys are.3 in
    let other : (y.number == n) ≡ false = grind arith in
    let rest : count_of n ys ≡ 0 = count_of-above n y.number ys are.3 above in
    rw (sum_by-cons (λ (o : Opt). cond (o.number == n) 1 0) y ys, other, rest) refl

-- the run after the options passed gives how many with the same number precede the next option
before_is : (passed : List Opt) (x : Opt) (run : Run) (before : ℕ) → AreOptions 0 passed → run.number ≡ last_number 0 passed → run.count ≡ count_of run.number passed → last_number 0 passed ≤ x.number → before ≡ cond (x.number == run.number) run.count 0 → before ≡ count_of x.number passed
before_is passed x run before in_order number count le counted =
    ⊎_elim
    (λ same. (rw (eq-eqb x.number run.number same) at counted) ∙ count ∙ ap (λ n. count_of n passed) (sym same))
    (λ other. let above : last_number 0 passed < x.number = omega arith in
    (rw (ne_eqb x.number run.number other) at counted) ∙ sym (count_of-above x.number 0 passed in_order above))
    (cases_eq x.number run.number)

-- an option with this many before it that have the same number
abbrev placed : Opt → ℕ → PlacedOption
placed o n = record { option = o; before = n }

-- the places of the remaining options, as they are counted in the pass
places_behind-after : (passed left : List Opt) (run : Run) → AreOptions 0 passed → AreOptions (last_number 0 passed) left → run.number ≡ last_number 0 passed → run.count ≡ count_of run.number passed
    → places_behind passed left ≡ places_after run left
places_behind-after passed [] run are left number count = refl
places_behind-after passed (o ∷ os) run are left number count =
    let here : before_of run o ≡ count_of o.number passed = before_is passed o run (before_of run o) are number count left.0 refl in
    let more : before_of run o + 1 ≡ count_of o.number (passed ++ o ∷ []) = rw (sum_by_push (λ (x : Opt). cond (x.number == o.number) 1 0) passed o, eq-eqb o.number o.number refl) (ap (λ (n : ℕ). n + 1) here) in
    let last : last_number 0 (passed ++ o ∷ []) ≡ o.number = last_number-push 0 passed o in
    let others = places_behind-after (passed ++ o ∷ []) os (run_behind run o) (AreOptions-push 0 passed o are left.0 left.1 left.2) (subst (λ (n : ℕ). AreOptions n os) (sym last) left.3) (sym last) more in
    ap (λ (n : ℕ). placed o n ∷ places_behind (passed ++ o ∷ []) os) (sym here) ∙ ap (λ (ps : List PlacedOption). record { option = o; before = before_of run o } ∷ ps) others

-- the places of a message's options, as they are counted in the pass
pub places-after : (options : List Opt) → AreOptions 0 options → places options ≡ places_after (record { number = 0; count = 0 }) options
places-after options are = places_behind-after [] options (record { number = 0; count = 0 }) tt are refl refl
