-- Counts of turns.
use Rattle.std.proofs.Common.{◌≡◌, ◌+◌, ℕ, Bool, true, false, cond, List, [], ◌∷◌, sym, ap, ◌∙◌, arith}
use Rattle.std.specs.Prelude.{count_by}
use Rattle.std.proofs.lemmas.List.Sums.{sum_by-cons}
use Rattle.coap_stats.specs.Tally.{capped, more, no_tally, tally_of, with_told}
use Rattle.coap_stats.specs.declared.tally.Tally.{Tally}
use Rattle.coap_core.specs.Told.{Told}
use Rattle.coap_core.specs.Watched.{WasTold}

-- one more of a number that is capped
one : (b : Bool) (n : ℕ) → more b (capped n) ≡ capped (cond b 1 0 + n)
one true n = omega arith
one false n = omega arith

-- a count that grows by one with each turn that passes a test is the number of these turns
pub is-number : (count : List Told → ℕ) (test : Told → Bool) → count [] ≡ 0 → ((t : Told) (before : List Told) → count (t ∷ before) ≡ more (test t) (count before))
    → (told : List Told) → count told ≡ capped (count_by test told)
is-number count test none step [] = none
is-number count test none step (t ∷ before) =
    step t before
    ∙ ap (more (test t)) (is-number count test none step before)
    ∙ one (test t) (count_by test before)
    ∙ ap capped (sym (sum_by-cons (λ y. cond (test y) 1 0) t before))

-- what a tally is after it was told of turns
pub told-is : (told : List Told) (tally : Tally) → WasTold (λ (before : Tally) t after. after ≡ with_told t before) no_tally told tally → tally ≡ tally_of told
told-is [] tally was = was
told-is (t ∷ before) tally was = was.2 ∙ ap (with_told t) (told-is before was.0 was.1)
