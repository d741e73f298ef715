-- What is left of a list after its first items are dropped, one after the other.
use Rattle.std.proofs.Common.{◌≡◌, ℕ, ◌+◌, Bor, List, [], ◌∷◌, Option, Some, None, drop, ap, sym, ◌∙◌}
use Rattle.std.specs.Prelude.{MatchOption}
use Rattle.std.proofs.lemmas.List.{drop-drop}

-- the rest after the next item, if `k` items were dropped before
pub drop-next : (k : ℕ) (xs left next : List (List ℕ)) (r : Option (Bor (List ℕ))) → left ≡ drop k xs → MatchOption r ((left ≡ []) × (next ≡ [])) (λ s. left ≡ s.now ∷ next) → next ≡ drop (k + 1) xs
drop-next k xs left next None so_far got = got.1 ∙ sym (ap (drop 1) got.0) ∙ ap (drop 1) so_far ∙ drop-drop 1 k xs
drop-next k xs left next (Some s) so_far got = sym (ap (drop 1) got) ∙ ap (drop 1) so_far ∙ drop-drop 1 k xs
