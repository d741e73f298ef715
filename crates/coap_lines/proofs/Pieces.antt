-- Pieces of a line: what a reader has at hand and what is taken of it.
use Rattle.std.proofs.Common.{◌≡◌, ℕ, ◌≤◌, false, List, [], ◌∷◌, ◌++◌, length, take, drop, Option, Some, None, Result, Ok, refl, sym, ap, subst, ◌∙◌, arith, append_assoc, take-append-drop}
use Rattle.std.specs.Borrow.{Bor}
use Rattle.std.specs.Global.{Vec}
use Rattle.std.specs.Io.{StartsWith}
use Rattle.std.specs.Io.BufRead.{DropsConsumable, FillKeeps}
use Rattle.std.specs.Io.KnownBytes.{Consumes, Keeps}
use Rattle.std.specs.Option.{IfSome}
use Rattle.std.proofs.lemmas.List.{length-take, take-take}
use Rattle.std.proofs.lemmas.List.Folds.{list_any-append}
use Rattle.coap_lines.specs.declared.reading.cutting.Piece.{Piece}
use Rattle.coap_lines.specs.declared.reading.cutting.Piece.TheVariants.{Feed, Last, Open}
use Rattle.coap_lines.specs.Pieces.{IsPiece, taken}
use Rattle.coap_lines.specs.Texts.{has}

-- a line feed that isn't kept comes after all that was held
taken-after : (piece : Piece) (held bytes : List ℕ) → taken piece (held ++ bytes) ≡ held ++ taken piece bytes
taken-after Feed held bytes = append_assoc held bytes (10 ∷ [])
taken-after Open held bytes = refl
taken-after Last held bytes = refl

-- what was taken before, and what was taken then
taken-both : (old mid new : Option (List ℕ)) (first second : List ℕ) → Consumes old mid first → Consumes mid new second → Consumes old new (first ++ second)
taken-both None mid new first second before then = tt
taken-both (Some xs) None new first second before then = absurd before
taken-both (Some xs) (Some ys) None first second before then = absurd then
taken-both (Some xs) (Some ys) (Some zs) first second before then = before ∙ ap (λ l. first ++ l) then ∙ sym (append_assoc first second zs)

-- a piece adds no line feed to what is held
pub piece-none : (most : ℕ) (input left : Option (List ℕ)) (old new : Vec ℕ) (piece : Piece) → IsPiece most input left old new piece → has 10 old.items ≡ false → has 10 new.items ≡ false
piece-none most input left old new piece is none = rw (is.added, list_any-append, none, is.none) refl

-- what was taken for the line so far
pub piece-taken : (most : ℕ) (start input left : Option (List ℕ)) (old new : Vec ℕ) (piece kind : Piece) → piece ≡ kind → Consumes start input old.items → IsPiece most input left old new piece → Consumes start left (taken kind new.items)
piece-taken most start input left old new piece kind same before is =
    let all : Consumes start left (taken piece new.items) = rw (is.added, taken-after) (taken-both start input left _ _ before is.took) in
    subst (λ k. Consumes start left (taken k new.items)) same all

-- a part may be taken of what is shown
within : (limit : Option ℕ) (shown n : ℕ) → IfSome limit (λ most. shown ≤ most) → n ≤ shown → IfSome limit (λ most. n ≤ most)
within None shown n may few = tt
within (Some most) shown n may few = omega arith

-- the first bytes of what is at hand are taken
front-taken : (old mid new : Option (List ℕ)) (limit : Option ℕ) (chunk : List ℕ) (n : ℕ) → IfSome old (λ xs. StartsWith xs chunk) → Keeps old mid → IfSome old (λ _. IfSome limit (λ most. length chunk ≤ most)) → DropsConsumable mid new limit n → n ≤ length chunk → Consumes old new (take n chunk)
front-taken None mid new limit chunk n starts keeps may drops few = tt
front-taken (Some xs) None new limit chunk n starts keeps may drops few = absurd keeps
front-taken (Some xs) (Some ys) new limit chunk n starts keeps may drops few =
    let left : new ≡ Some (drop n xs) = drops (within limit (length chunk) n may few) ∙ ap (λ l. Some (drop n l)) keeps in
    let front : take n xs ≡ take n chunk = sym (take-take n (length chunk) xs few) ∙ ap (take n) starts in
    rw left (sym (take-append-drop n xs) ∙ ap (λ l. l ++ drop n xs) front)

-- the first bytes of a part of what was shown are taken
pub part-taken : {E : Type 0} (old mid new : Option (List ℕ)) (limit : Option ℕ) (shown : Result (Bor (List ℕ)) E) (chunk : Bor (List ℕ)) (most n : ℕ) → shown ≡ Ok chunk → IfSome old (λ xs. StartsWith xs chunk.now) → FillKeeps old mid limit shown → DropsConsumable mid new limit n → n ≤ length (take most chunk.now) → Consumes old new (take n (take most chunk.now))
part-taken old mid new limit shown chunk most n is starts keeps drops few =
    let count = length-take most chunk.now in
    let kept = rw is at keeps in
    rw (take-take n most chunk.now (grind arith)) (front-taken old mid new limit chunk.now n starts kept.0 kept.1 drops (grind arith))
