-- The options of a message for which, in their places, a test holds, one after the other.
use Rattle.std.proofs.Common.{Result, Ok, Err, OnErr, ◌≡◌, ℕ, ◌+◌, ◌<◌, ◌≤◌, cond, Bool, true, false, Option, Some, None, option_map, List, [], ◌∷◌, ◌++◌, length, find, filter, map, refl, sym, subst, ap, ◌∙◌, append_assoc, arith, ◌⊎◌, inl, inr}
use Rattle.std.specs.Prelude.{MatchOption}
use Rattle.coap_message.specs.declared.options.Opt.{Opt}
use Rattle.coap_message.specs.Options.{AreOptions, from_number, last_number}
use Rattle.coap_message.proofs.Runs.{from-below, from-here}
use Rattle.std.proofs.lemmas.Bool.{cases_lt}
use Rattle.coap_message.proofs.Counting.{last_number-push}
use Rattle.coap_option.specs.declared.places.Run.{Run}
use Rattle.coap_option.specs.Passing.{HoldsWithin, IsAt, before_of, picked_after, places_after, run_behind}
use Rattle.coap_option.specs.Places.{PlacedOption}
use Rattle.coap_option.specs.Selection.{selected}
use Rattle.coap_option.proofs.Passing.{places-after}

-- An option comes next, and the code's result of the test is `answer`.
module _ (test : PlacedOption → Bool) (left rest : List Opt) (x : Opt) (run : Run) (before : ℕ) (answer : Bool) (next : left ≡ x ∷ rest) (counted : before ≡ before_of run x) (answers : answer ≡ test (record { option = x; before = before })) where
  -- if the test holds, it is the next one picked
  pub picked-yes : answer ≡ true → picked_after test run left ≡ x ∷ picked_after test (record { number = x.number; count = before + 1 }) rest
  picked-yes holds = rw (next, ← counted, ← answers, holds) refl

  -- if the test fails, it is left out
  pub picked-no : answer ≡ false → picked_after test run left ≡ picked_after test (record { number = x.number; count = before + 1 }) rest
  picked-no fails = rw (next, ← counted, ← answers, fails) refl

-- if no option was passed, this is what is selected
pub picked-all : (test : PlacedOption → Bool) (options : List Opt) → AreOptions 0 options → picked_after test (record { number = 0; count = 0 }) options ≡ selected test options
picked-all test options are = ap (λ (ps : List PlacedOption). map (λ p. p.option) (filter test ps)) (sym (places-after options are))

-- options in order are also in order after a lower number
pub AreOptions-from : (a b : ℕ) (xs : List Opt) → a ≤ b → AreOptions b xs → AreOptions a xs
AreOptions-from a b [] le are = tt
AreOptions-from a b (x ∷ xs) le are = (omega (arith, le, are.0), are.1, are.2, are.3)

-- what is picked of options in order is in order
picked-in_order : (test : PlacedOption → Bool) (run : Run) (left : List Opt) → AreOptions run.number left → AreOptions run.number (picked_after test run left)
picked-in_order test run [] are = tt
picked-in_order test run (o ∷ os) are = go (test (record { option = o; before = before_of run o })) (picked-in_order test (run_behind run o) os are.3)
  where
    more : List PlacedOption
    more = places_after (run_behind run o) os

    go : (b : Bool) → AreOptions o.number (map (λ p. p.option) (filter test more)) → AreOptions run.number (map (λ p. p.option) (cond b (record { option = o; before = before_of run o } ∷ filter test more) (filter test more)))
    go true rest = (are.0, are.1, are.2, rest)
    go false rest = AreOptions-from run.number o.number _ are.0 rest

-- so are the options that are selected
pub selected-in_order : (test : PlacedOption → Bool) (options : List Opt) → AreOptions 0 options → AreOptions 0 (selected test options)
selected-in_order test options are = subst (AreOptions 0) (picked-all test options are) (picked-in_order test (record { number = 0; count = 0 }) options are)

-- if nothing is selected, nothing is found
pub found-none : (test : PlacedOption → Bool) (ps : List PlacedOption) → map (λ p. p.option) (filter test ps) ≡ [] → option_map (λ p. p.option) (find test ps) ≡ None
found-none test [] none = refl
found-none test (p ∷ ps) none = go (test p) none (found-none test ps)
  where
    go : (b : Bool) → map (λ q. q.option) (cond b (p ∷ filter test ps) (filter test ps)) ≡ [] → (map (λ q. q.option) (filter test ps) ≡ [] → option_map (λ q. q.option) (find test ps) ≡ None) → option_map (λ q. q.option) (cond b (Some p) (find test ps)) ≡ None
    go true is rest = absurd cc
    go false is rest = rest is

-- otherwise the first that is selected is found
pub found-first : (test : PlacedOption → Bool) (ps : List PlacedOption) (x : Opt) (xs : List Opt) → map (λ p. p.option) (filter test ps) ≡ x ∷ xs → option_map (λ p. p.option) (find test ps) ≡ Some x
found-first test [] x xs some = absurd cc
found-first test (p ∷ ps) x xs some = go (test p) some (found-first test ps x xs)
  where
    go : (b : Bool) → map (λ q. q.option) (cond b (p ∷ filter test ps) (filter test ps)) ≡ x ∷ xs → (map (λ q. q.option) (filter test ps) ≡ x ∷ xs → option_map (λ q. q.option) (find test ps) ≡ Some x) → option_map (λ q. q.option) (cond b (Some p) (find test ps)) ≡ Some x
    go true is rest = let same : p.option ≡ x = cc in ap Some same
    go false is rest = rest is

-- so the next one selected is the one found
pub found-next : {R : Type 0} (seen : R → Opt) (test : PlacedOption → Bool) (ps : List PlacedOption) (left next : List Opt) (r : Option R) → left ≡ map (λ p. p.option) (filter test ps) → MatchOption r ((left ≡ []) × (next ≡ [])) (λ x. left ≡ seen x ∷ next) → option_map seen r ≡ option_map (λ p. p.option) (find test ps)
found-next seen test ps left next None is none = sym (found-none test ps (sym is ∙ none.0))
found-next seen test ps left next (Some x) is some = sym (found-first test ps (seen x) next (sym is ∙ some))

-- an option that is appended to those before it leaves the rest in order
pub added-next : (all list left rest : List Opt) (x : Opt) → left ≡ x ∷ rest → all ≡ list ++ left → AreOptions (last_number 0 list) left → (all ≡ (list ++ x ∷ []) ++ rest) × AreOptions (last_number 0 (list ++ x ∷ [])) rest
added-next all list left rest x next is are =
    let in_order = subst (AreOptions (last_number 0 list)) next are in
    (is ∙ ap (λ l. list ++ l) next ∙ sym (append_assoc list (x ∷ []) rest), subst (λ n. AreOptions n rest) (sym (last_number-push 0 list x)) in_order.3)

-- the values of the selected options
pub values-selected : (ps : List PlacedOption) → map (λ p. p.option.value) ps ≡ map (λ (o : Opt). o.value) (map (λ p. p.option) ps)
values-selected [] = refl
values-selected (p ∷ ps) = ap (λ vs. p.option.value ∷ vs) (values-selected ps)

-- what holds in any case holds in case of an error
pub on_err : {T E P : Type 0} (r : Result T E) → P → OnErr r P
on_err (Ok x) holds = tt
on_err (Err e) holds = holds

-- ---- the numbers of the options for which a test holds

-- no option has been passed
abbrev pub none_passed : Run
none_passed = record { number = 0; count = 0 }

-- what is picked from an option and those after it
abbrev picked_with : (PlacedOption → Bool) → Opt → List Opt → ℕ → List Opt
picked_with test o os before = map (λ p. p.option) (filter test (record { option = o; before = before } ∷ places_after (record { number = o.number; count = before + 1 }) os))

-- if the test fails for the option, it is what is picked from those after it
picked_with-no : (test : PlacedOption → Bool) (o : Opt) (os : List Opt) (before : ℕ) → test (record { option = o; before = before }) ≡ false → picked_with test o os before ≡ picked_after test (record { number = o.number; count = before + 1 }) os
picked_with-no test o os before fails = rw fails refl

module _ (test : PlacedOption → Bool) (least greatest : ℕ) (within : HoldsWithin test least greatest) where
  -- the test fails for numbers outside the range
  outside : (p : PlacedOption) → p.option.number < 65536 → (p.option.number < least) ⊎ (greatest < p.option.number) → test p ≡ false
  outside p small out = go (test p) refl
    where
      go : (b : Bool) → test p ≡ b → test p ≡ false
      go false is = is
      go true is =
          let at = within p small is in
          elim out [ inl below ↦ absurd (omega (arith, at.0)) | inr above ↦ absurd (omega (arith, at.1)) ]

  -- nothing is picked above the greatest number
  pub picked-past : (b : ℕ) (run : Run) (left : List Opt) → AreOptions b left → greatest < b → picked_after test run left ≡ []
  picked-past b run [] are past = refl
  picked-past b run (o ∷ os) are past =
      picked_with-no test o os (before_of run o) (outside (record { option = o; before = before_of run o }) are.1 (inr (omega (arith, are.0)))) ∙ picked-past o.number (run_behind run o) os are.3 (omega (arith, are.0))

  -- nor after an option above it, whether that has been passed or not
  pub picked-ends : (run : Run) (left rest : List Opt) (x : Opt) → left ≡ x ∷ rest → AreOptions run.number left → greatest < x.number → (picked_after test run left ≡ []) × (picked_after test run rest ≡ [])
  picked-ends run left rest x next are past =
      let from = subst (AreOptions run.number) next are in
      (ap (picked_after test run) next ∙ picked-past x.number run (x ∷ rest) (omega arith, from.1, from.2, from.3) past, picked-past x.number run rest from.3 past)

  -- nothing is picked below the least number
  pub picked-from : (b : ℕ) (run : Run) (left : List Opt) → AreOptions b left → (run.number < least) ⊎ (run.count ≡ 0) → picked_after test run left ≡ picked_after test none_passed (from_number least left)
  picked-from b run [] are low = refl
  picked-from b run (o ∷ os) are low = go (λ below. picked-from o.number (run_behind run o) os are.3 (inl below)) (cases_lt o.number least)
    where
      here : least ≤ o.number → before_of run o ≡ before_of none_passed o
      here above = grind arith

      go : (o.number < least → picked_after test (run_behind run o) os ≡ picked_after test none_passed (from_number least os)) → (o.number < least) ⊎ (least ≤ o.number) → picked_after test run (o ∷ os) ≡ picked_after test none_passed (from_number least (o ∷ os))
      go others (inl below) =
          picked_with-no test o os (before_of run o) (outside (record { option = o; before = before_of run o }) are.1 (inl below))
          ∙ others below
          ∙ ap (picked_after test none_passed) (sym (from-below least o os below))
      go others (inr above) = ap (picked_with test o os) (here above) ∙ ap (picked_after test none_passed) (sym (from-here least o os above))

-- an option that is passed over leaves the others in order, and few enough
pub IsAt-ends : (left rest : List Opt) (x : Opt) (run : Run) → left ≡ x ∷ rest → IsAt left run → IsAt rest run
IsAt-ends left rest x run next at =
    let are = subst (AreOptions run.number) next at.in_order in
    record { in_order = AreOptions-from run.number x.number rest are.0 are.3; within = omega (arith, at.within, ap length next) }

-- the value of the option that comes next is added behind those that are there
pub value-added : (all kept : List (List ℕ)) (left rest : List Opt) (o : Opt) → all ≡ kept ++ map (λ q. q.value) left → left ≡ o ∷ rest → all ≡ kept ++ (o.value ∷ []) ++ map (λ q. q.value) rest
value-added all kept left rest o is next = is ∙ ap (λ (l : List Opt). kept ++ map (λ (q : Opt). q.value) l) next ∙ sym (append_assoc kept (o.value ∷ []) (map (λ (q : Opt). q.value) rest))
