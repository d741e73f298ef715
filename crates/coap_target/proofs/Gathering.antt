-- The entries of a list, read one after the other.
use Rattle.std.proofs.Common.{◌≡◌, ◌∙◌, ◌+◌, ◌<◌, ◌≤◌, ℕ, List, [], ◌∷◌, ◌++◌, drop, get_or, length, map, Option, Some, None, option_map, Ok, Err, ok_or, refl, sym, ap}
use Rattle.std.proofs.Math.ListN.{drop_of_length-le}
use Rattle.std.proofs.lemmas.List.{append_assoc, append-nil, drop_more}
use Rattle.coap_target.specs.RouteTexts.{all_of}

-- what was read, and what is read after it
abbrev pub with_rest : {T : Type 0} → List T → Option (List T) → Option (List T)
with_rest parts rest = option_map (λ xs. parts ++ xs) rest

-- mapping twice is mapping by the composition
pub map-map : {A B C : Type 0} (f : B → C) (g : A → B) (xs : List A) → map f (map g xs) ≡ map (λ x. f (g x)) xs
map-map f g [] = refl
map-map f g (x ∷ xs) = ap (λ ys. f (g x) ∷ ys) (map-map f g xs)

-- the value that was read, if one was
pub read-some : {T E : Type 0} (e : E) (o : Option T) (x : T) → ok_or o e ≡ Ok x → o ≡ Some x
read-some e None x is = absurd cc
read-some e (Some y) x is = let same : y ≡ x = cc in ap Some same

-- one entry more was read before the rest
with_rest-more : {T : Type 0} (parts : List T) (x : T) (rest : Option (List T)) → with_rest parts (option_map (λ xs. x ∷ xs) rest) ≡ with_rest (parts ++ x ∷ []) rest
with_rest-more parts x None = refl
with_rest-more parts x (Some xs) = ap Some (sym (append_assoc parts (x ∷ []) xs))

-- if an entry can't be read, neither can all of them
failed : {T E : Type 0} (e : E) (parts : List T) (o : Option T) (rest : List (Option T)) (err : E) → ok_or o e ≡ Err err → ok_or (with_rest parts (all_of (o ∷ rest))) e ≡ Err err
failed e parts None rest err is = let same : e ≡ err = cc in ap Err same
failed e parts (Some x) rest err is = absurd cc

-- a loop that reads entries arrives at the one at `i`
module _ {S T E : Type 0} (part : S → Option T) (e : E) (entries : List S) (parts : List T) (i : ℕ) (so_far : all_of (map part entries) ≡ with_rest parts (all_of (map part (drop i entries)))) where
  -- there is none left
  pub all_read : length entries ≤ i → ok_or (all_of (map part entries)) e ≡ Ok parts
  all_read past = ap (λ all. ok_or all e) (so_far ∙ ap (λ l. with_rest parts (all_of (map part l))) (drop_of_length-le entries past) ∙ ap Some (append-nil parts))

  module _ (entry : S) (within : i < length entries) (item : entry ≡ get_or entries i entry) where
    -- it is the first of those that are left
    next : all_of (map part entries) ≡ with_rest parts (all_of (part entry ∷ map part (drop (i + 1) entries)))
    next = so_far ∙ ap (λ l. with_rest parts (all_of (map part l))) (drop_more entries i entry within ∙ ap (λ x. x ∷ drop (i + 1) entries) (sym item))

    -- it was read
    pub one_read : (x : T) → ok_or (part entry) e ≡ Ok x → all_of (map part entries) ≡ with_rest (parts ++ x ∷ []) (all_of (map part (drop (i + 1) entries)))
    one_read x is = next ∙ ap (λ o. with_rest parts (all_of (o ∷ map part (drop (i + 1) entries)))) (read-some e (part entry) x is) ∙ with_rest-more parts x (all_of (map part (drop (i + 1) entries)))

    -- it can't be read
    pub not_read : (err : E) → ok_or (part entry) e ≡ Err err → ok_or (all_of (map part entries)) e ≡ Err err
    not_read err is = ap (λ all. ok_or all e) next ∙ failed e parts (part entry) (map part (drop (i + 1) entries)) err is
