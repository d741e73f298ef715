-- Pairs of which one is put in or taken out at a place, behind others that stay.
use Rattle.std.proofs.Common.{◌≡◌, ℕ, suc, ◌+◌, ◌<◌, ◌≤◌, List, ◌∷◌, ◌++◌, length, take, drop, ap, sym, ◌∙◌, arith, append_assoc, drop-drop, drop_at, length-append, length-drop, length-take-le, take-take}
use Rattle.std.specs.List.{insert, remove}
use Rattle.std.proofs.lemmas.List.{drop-append-le, drop-take}
use Rattle.ordered_index.specs.Ordered.{Pair, OrderedIndex}
use borrow.Rule.Slice.PartMut.{put_mid}

-- one more behind others is one more of those behind them
pub insert-behind : (s p : ℕ) (xs : List Pair) (y : Pair) → s + p ≤ length xs → drop s (insert xs (s + p) y) ≡ insert (drop s xs) p y
insert-behind s p xs y le =
    let long : length (take (s + p) xs) ≡ s + p = length-take-le (s + p) xs le in
    drop-append-le s (take (s + p) xs) (y ∷ drop (s + p) xs) (omega arith)
    ∙ ap (λ l. l ++ y ∷ drop (s + p) xs) (drop-take s p xs)
    ∙ ap (λ l. take p (drop s xs) ++ y ∷ l) (sym (drop-drop p s xs))

-- and one less behind others is one less of them
pub remove-behind : (s p : ℕ) (xs : List Pair) → s + p < length xs → drop s (remove xs (s + p)) ≡ remove (drop s xs) p
remove-behind s p xs lt =
    let long : length (take (s + p) xs) ≡ s + p = length-take-le (s + p) xs (omega arith) in
    let next : s + suc p ≡ suc (s + p) = omega arith in
    drop-append-le s (take (s + p) xs) (drop (suc (s + p)) xs) (omega arith)
    ∙ ap (λ l. l ++ drop (suc (s + p)) xs) (drop-take s p xs)
    ∙ ap (λ l. take p (drop s xs) ++ l) (ap (λ n. drop n xs) (sym next) ∙ sym (drop-drop (suc p) s xs))

-- one is taken out where those before it move up, and it goes before them
pub shifted-up : (s p k m : ℕ) (xs ys : List Pair) → k ≡ suc p → m ≡ p → s + p < length xs → ys ≡ drop m (take k (drop s xs)) ++ take m (take k (drop s xs)) → drop (s + 1) (put_mid s k xs ys) ≡ remove (drop s xs) p
shifted-up s p k m xs ys e f lt is =
    let zs : List Pair = drop s xs in
    let long : suc p ≤ length zs = omega (arith, length-drop s xs) in
    let front : List Pair = drop p (take (suc p) zs) in
    let at : length (take s xs ++ front) ≡ s + 1 = omega (arith, length-append (take s xs) front, length-take-le s xs (omega arith), length-drop p (take (suc p) zs), length-take-le (suc p) zs long) in
    let same : ys ≡ front ++ take p zs = is ∙ (λ i. drop (f i) (take (e i) zs) ++ take (f i) (take (e i) zs)) ∙ ap (λ l. front ++ l) (take-take p (suc p) zs (omega arith)) in
    let group : take s xs ++ ((front ++ take p zs) ++ drop (suc p) zs) ≡ (take s xs ++ front) ++ (take p zs ++ drop (suc p) zs) = simp append_assoc in
    (λ i. drop (s + 1) (take s xs ++ (same i ++ drop (e i) zs))) ∙ ap (drop (s + 1)) group ∙ drop_at (take s xs ++ front) (take p zs ++ drop (suc p) zs) (s + 1) at

-- a buffer of these pairs
abbrev pub buffer_of : List Pair → ℕ → OrderedIndex
buffer_of xs limit = record { pairs = xs; limit = limit; seed = 0 }

-- the pairs of a buffer become others, and its limit stays
pub other-pairs : (f : List Pair → List Pair) (xs ys : List Pair) (limit : ℕ) (old : OrderedIndex) → xs ≡ f ys → buffer_of ys limit ≡ old → buffer_of xs limit ≡ record old { pairs = f old.pairs }
other-pairs f xs ys limit old e view = ap (λ (l : List Pair). buffer_of l limit) e ∙ ap (λ (r : OrderedIndex). record r { pairs = f r.pairs }) view
