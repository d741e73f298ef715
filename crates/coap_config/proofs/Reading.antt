-- Lists that are read entry by entry.
use Rattle.std.proofs.Common.{◌≡◌, List, [], ◌∷◌, ◌++◌, Result, Ok, Err, refl, sym, ap, append_assoc}
use Rattle.coap_config.specs.Tree.{and_rest, with_front}

-- what is read after two fronts is read after both together
pub with_front-more : {A E : Type 0} (front : List A) (x : A) (rest : Result (List A) E) → with_front front (and_rest (Ok x) rest) ≡ with_front (front ++ x ∷ []) rest
with_front-more front x (Ok xs) = ap Ok (sym (append_assoc front (x ∷ []) xs))
with_front-more front x (Err e) = refl

-- an entry that was read, after those that were read before it
pub one-more : {A E : Type 0} (front all : List A) (said : Result A E) (x : A) (rest : Result (List A) E) → said ≡ Ok x → all ≡ front ++ x ∷ [] → with_front front (and_rest said rest) ≡ with_front all rest
one-more front all said x rest is more = rw (is, more) (with_front-more front x rest)
