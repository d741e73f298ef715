-- The bytes before the first that is in a set.
use Rattle.std.proofs.Common.{◌≡◌, ℕ, Bool, true, false, not, List, take, length, take_all, All, subst, sym, refl, arith}
use Rattle.std.specs.List.{position_or_len}
use Rattle.std.proofs.lemmas.List.Elements.{All-weaker}
use Rattle.percent_encoding.specs.declared.ascii_set.AsciiSet.{AsciiSet}
use Rattle.percent_encoding.specs.AsciiSet.{should_percent_encode}
use Rattle.percent_encoding.specs.Percent.{IsKept}
use Rattle.url.proofs.InputLemmas.{Passes, All-take-prefix_len}

-- what has a true negation is false
not_flip : (b : Bool) → not b ≡ true → b ≡ false
not_flip true e = sym e
not_flip false e = refl

-- the set keeps them
pub kept_take : (set : AsciiSet) (xs : List ℕ) (n : ℕ) → n ≡ position_or_len (should_percent_encode set) xs → All (IsKept set) (take n xs)
kept_take set xs n is =
    subst (λ k. All (IsKept set) (take k xs)) (sym is)
    (All-weaker (Passes (λ b. not (should_percent_encode set b))) (IsKept set) (λ b e. not_flip (should_percent_encode set b) e) (take (position_or_len (should_percent_encode set) xs) xs) (All-take-prefix_len (λ b. not (should_percent_encode set b)) xs))

-- and all of them, if there is no first
pub kept_whole : (set : AsciiSet) (xs : List ℕ) → position_or_len (should_percent_encode set) xs ≡ length xs → All (IsKept set) xs
kept_whole set xs is = subst (All (IsKept set)) (take_all (length xs) xs (omega arith)) (kept_take set xs (length xs) (sym is))
