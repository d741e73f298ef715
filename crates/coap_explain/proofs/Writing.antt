-- What is written piece by piece.
use Rattle.std.proofs.Common.{◌≡◌, ℕ, List, [], ◌∷◌, ◌++◌, Option, Some, None, Bool, true, false, refl, sym, subst, ap, ◌∙◌}
use Rattle.std.proofs.lemmas.List.{append_assoc}
use Rattle.std.proofs.lemmas.List.Concat.{flat_map-cons}
use Rattle.std.specs.Io.KnownBytes.{Appends}
use Rattle.std.specs.List.{flat_map}
use Rattle.coap_message.specs.declared.options.Opt.{Opt}
use Rattle.std.specs.Prelude.{OnOk, Result, Ok, Err, if◌then◌else◌}
use Rattle.coap_explain.specs.Targets.{escaped, parts_text, plain_in_parts}
use Rattle.coap_explain.specs.Words.{option_text}

-- bytes after bytes
pub appends-more : (a b c : Option (List ℕ)) (xs ys : List ℕ) → Appends a b xs → Appends b c ys → Appends a c (xs ++ ys)
appends-more None b c xs ys h k = tt
appends-more (Some a) None c xs ys h k = absurd h
appends-more (Some a) (Some b) None xs ys h k = absurd k
appends-more (Some a) (Some b) (Some c) xs ys h k = k ∙ ap (λ bs. bs ++ ys) h ∙ append_assoc a xs ys

-- what is said of one option more, and of the rest
pub options-more :
    (a b c : Option (List ℕ)) (done all : List ℕ) (left rest : List Opt) (o : Opt)
    → left ≡ o ∷ rest
    → Appends a b done
    → Appends b c (option_text o)
    → done ++ flat_map option_text left ≡ all
    → (said : List ℕ) × Appends a c said × (said ++ flat_map option_text rest ≡ all)
options-more a b c done all left rest o first before here is = (
  done ++ option_text o,
  appends-more a b c done (option_text o) before here,
  append_assoc done (option_text o) (flat_map option_text rest)
      ∙ ap (λ bs. done ++ bs) (sym (flat_map-cons option_text o rest) ∙ ap (flat_map option_text) (sym first))
      ∙ is,
)

-- the same, if the last were added
pub appends-last : {T E : Type 0} (r : Result T E) (a b c : Option (List ℕ)) (xs ys zs : List ℕ)
    → Appends a b xs → OnOk r (Appends b c ys) → xs ++ ys ≡ zs → OnOk r (Appends a c zs)
appends-last (Ok v) a b c xs ys zs first next is =
    subst (λ bs. Appends a c bs) is (appends-more a b c xs ys first next)
appends-last (Err e) a b c xs ys zs first next is = tt

-- one part more behind a mark, and the rest behind another
pub parts-more :
    (a b c d : Option (List ℕ)) (mark next : ℕ) (done all : List ℕ) (left rest : List (List ℕ)) (part : List ℕ)
    → left ≡ part ∷ rest
    → Appends a b done
    → Appends b c (mark ∷ [])
    → Appends c d (escaped plain_in_parts part)
    → done ++ parts_text mark next left ≡ all
    → (said : List ℕ) × Appends a d said × (said ++ parts_text next next rest ≡ all)
parts-more a b c d mark next done all left rest part first before marked here is = (
  (done ++ (mark ∷ [])) ++ escaped plain_in_parts part,
  appends-more a c d (done ++ (mark ∷ [])) (escaped plain_in_parts part) (appends-more a b c done (mark ∷ []) before marked) here,
  rw (append_assoc, append_assoc)
      (ap (λ bs. done ++ bs) (sym (append_assoc (mark ∷ []) (escaped plain_in_parts part) (parts_text next next rest)))
      ∙ ap (λ ps. done ++ parts_text mark next ps) (sym first) ∙ is),
)

-- the head of a line, what came, what was done, and the end of the line
pub line-made :
    (o o₁ o₂ o₃ o₄ a b c d e t s m k w y n : List ℕ)
    → o₁ ≡ o ++ a ++ b ++ c ++ d ++ e ++ t
    → o₂ ≡ o₁ ++ s ++ m ++ k
    → o₃ ≡ o₂ ++ w ++ y
    → o₄ ≡ o₃ ++ n
    → o₄ ≡ o ++ (a ++ b ++ c ++ d ++ e ++ t ++ s ++ m ++ k ++ w ++ y ++ n)
line-made o o₁ o₂ o₃ o₄ a b c d e t s m k w y n first second third last = rw (last, third, second, first) (simp append_assoc)

-- a choice of two texts
pub if-so : (b : Bool) (x y : List ℕ) → b ≡ true → x ≡ (if b then x else y)
if-so true x y so = refl
if-so false x y so = absurd cc
