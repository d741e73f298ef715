-- A loop that changes the elements of a list one by one.
use Rattle.std.proofs.Common.{◌≡◌, ℕ, ◌+◌, ◌<◌, ◌++◌, List, drop, get_or, length, map, slice_set, take, ap, ◌∙◌}
use Rattle.std.proofs.lemmas.List.{get_or_default}
use Rattle.std.proofs.lemmas.List.Edits.{map_over_more}

-- after the next element was changed too, one more is as it is to be
pub stepped : {X : Type 0} (f : X → X) (old now : List X) (i : ℕ) (d new : X) → i < length old → i < length now → now ≡ map f (take i old) ++ drop i old → new ≡ f (get_or now i d)
    → slice_set now i new ≡ map f (take (i + 1) old) ++ drop (i + 1) old
stepped f old now i d new within there so_far is = ap (slice_set now i) is ∙ map_over_more f old now i (get_or now i d) within so_far (get_or_default now i d (get_or now i d) there)
