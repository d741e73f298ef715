-- Options from a number on, the values of those of one number, and runs of them that are spelled as pieces are.
use Rattle.std.proofs.Common.{◌≡◌, ◌==◌, ℕ, ◌+◌, ◌/◌, ◌%◌, ◌<◌, ◌≤◌, false, ltb, Some, None, List, [], ◌∷◌, ◌++◌, length, map, refl, sym, ap, subst, ◌∙◌, append_assoc, arith, eq-eqb, inl, inr}
use Rattle.std.specs.List.{AllByRecursion}
use Rattle.std.proofs.lemmas.Bool.{cases_lt, lt-ltb, le-ltb, ne_eqb}
use Rattle.std.proofs.lemmas.List.{append-nil, length-append, take_at, drop_at}
use Rattle.coap_message.specs.declared.options.Opt.{Opt}
use Rattle.coap_message.specs.Options.{AreOptions, from_number, last_number, option_of, values_of}
use Rattle.coap_message.specs.Pieces.{length_spelling, pieces_of, pieces_spelling, SpellPieces}
use Rattle.coap_message.specs.Reading.{option_at, option_cut}
use Rattle.coap_message.specs.ShortRun.{ShortRun, ShortPiece}
use Rattle.coap_message.specs.SpelledOptions.{options_of, SpellOptions}
use Rattle.coap_message.proofs.OneOption.{option_short}
use Rattle.coap_message.proofs.OptionSpellings.{next_none, next_some}
use Rattle.coap_message.proofs.PieceSpellings.{Appended, appended, none_spelled, pieces_of-spelling, spelling-spells}

-- ---- from a number on

-- an option that is below is passed over
pub from-below : (n : ℕ) (o : Opt) (os : List Opt) → o.number < n → from_number n (o ∷ os) ≡ from_number n os
from-below n o os below = rw (lt-ltb o.number n below) refl

-- one that isn't is the first
pub from-here : (n : ℕ) (o : Opt) (os : List Opt) → n ≤ o.number → from_number n (o ∷ os) ≡ o ∷ os
from-here n o os above = rw (le-ltb o.number n above) refl

-- from 0 on there are all
pub from-zero : (os : List Opt) → from_number 0 os ≡ os
from-zero [] = refl
from-zero (o ∷ os) = from-here 0 o os (omega arith)

-- options are in order from there on
pub from-in_order : (n b : ℕ) (os : List Opt) → AreOptions b os → AreOptions 0 (from_number n os)
from-in_order n b [] are = tt
from-in_order n b (o ∷ os) are =
    elim (cases_lt o.number n) [
      | inl below ↦ subst (AreOptions 0) (sym (from-below n o os below)) (from-in_order n o.number os are.3)
      | inr above ↦ subst (AreOptions 0) (sym (from-here n o os above)) (omega arith, are.1, are.2, are.3)
    ]

-- and no more than all
pub from-few : (n : ℕ) (os : List Opt) → length (from_number n os) ≤ length os
from-few n [] = omega arith
from-few n (o ∷ os) =
    elim (cases_lt o.number n) [
      | inl below ↦ omega (arith, ap length (from-below n o os below), from-few n os)
      | inr above ↦ omega (arith, ap length (from-here n o os above))
    ]

-- numbers don't go down
last_number-le : (b : ℕ) (os : List Opt) → AreOptions b os → b ≤ last_number b os
last_number-le b [] are = omega arith
last_number-le b (o ∷ os) are = omega (arith, are.0, last_number-le o.number os are.3)

-- above the last number there is none
pub from-none : (n b : ℕ) (os : List Opt) → AreOptions b os → last_number b os < n → from_number n os ≡ []
from-none n b [] are above = refl
from-none n b (o ∷ os) are above =
    let below : o.number < n = omega (arith, last_number-le o.number os are.3) in
    from-below n o os below ∙ from-none n o.number os are.3 above

-- The next option that is read.
module _ (n before : ℕ) (bytes : List ℕ) (o : Opt) (rest : List ℕ) (s : SpellOptions before bytes) (e : option_at before bytes ≡ Some (o, rest)) where
  -- what stands after it spells options too
  pub next-spells : SpellOptions o.number rest
  next-spells = (next_some before bytes o rest s e).1

  -- it is passed over, where it is below
  pub next-below : o.number < n → from_number n (options_of o.number rest) ≡ from_number n (options_of before bytes)
  next-below below = sym (ap (from_number n) (next_some before bytes o rest s e).0 ∙ from-below n o (options_of o.number rest) below)

  -- or else it is the first
  pub next-from : n ≤ o.number → options_of before bytes ≡ from_number n (options_of before bytes)
  next-from above =
      let here = (next_some before bytes o rest s e).0 in
      here ∙ sym (ap (from_number n) here ∙ from-here n o (options_of o.number rest) above)

-- where no option is read, there is none from there on
pub next-ends : (n before : ℕ) (bytes : List ℕ) → SpellOptions before bytes → option_at before bytes ≡ None → options_of before bytes ≡ from_number n (options_of before bytes)
next-ends n before bytes s e = let none = next_none before bytes s e in none ∙ sym (ap (from_number n) none)

-- ---- values

-- options above a number have none of its values
pub values-above : (n b : ℕ) (os : List Opt) → AreOptions b os → n < b → values_of n os ≡ []
values-above n b [] are above = refl
values-above n b (o ∷ os) are above =
    let other : (o.number == n) ≡ false = ne_eqb o.number n (λ e. omega (arith, are.0)) in
    rw other (values-above n o.number os are.3 (omega (arith, are.0)))

-- an option of the number
values-here : (n : ℕ) (o : Opt) (os : List Opt) → o.number ≡ n → values_of n (o ∷ os) ≡ o.value ∷ values_of n os
values-here n o os is = rw (eq-eqb o.number n is) refl

-- an option of another
pub values-other : (n : ℕ) (o : Opt) (os : List Opt) → o.number < n → values_of n (o ∷ os) ≡ values_of n os
values-other n o os below = let other : (o.number == n) ≡ false = ne_eqb o.number n (λ e. omega arith) in rw other refl

-- values of the number in front
values-pieces : (n : ℕ) (ps : List (List ℕ)) (os : List Opt) → values_of n (map (option_of n) ps ++ os) ≡ ps ++ values_of n os
values-pieces n [] os = refl
values-pieces n (p ∷ ps) os = values-here n (option_of n p) (map (option_of n) ps ++ os) refl ∙ ap (λ (vs : List (List ℕ)). p ∷ vs) (values-pieces n ps os)

-- ---- runs

-- a short length is one byte
short-length : (n : ℕ) → n < 255 → length_spelling n ≡ n ∷ []
short-length n short =
    let none : n / 255 ≡ 0 = omega arith in
    let all : n % 255 ≡ n = omega arith in
    rw (none, all) refl

-- an option of the number before, whose value is short, is read where the value stands after its length
short-option : (n : ℕ) (p rest : List ℕ) → n < 65536 → length p < 13 → option_at n (length p ∷ (p ++ rest)) ≡ Some (option_of n p, rest)
short-option n p rest small short =
    let cut : option_at n (length p ∷ (p ++ rest)) ≡ option_cut n 0 (length p) (p ++ rest) = option_short n (length p) (p ++ rest) 0 (length p) (omega arith) (omega arith) (omega arith) short in
    let same : n + 0 ≡ n = omega arith in
    let fits : ltb 65535 n ≡ false = le-ltb _ _ (omega arith) in
    let long : ltb (length (p ++ rest)) (length p) ≡ false = le-ltb _ _ (omega (arith, length-append p rest)) in
    cut ∙ rw (same, fits, long, take_at p rest (length p) refl, drop_at p rest (length p) refl) refl

-- a run of them is read as options of the number
run-read : (n : ℕ) (ps : List (List ℕ)) (rest : List ℕ) → n < 65536 → AllByRecursion (λ p. length p < 13) ps → SpellOptions n (pieces_spelling ps ++ rest)
    → (options_of n (pieces_spelling ps ++ rest) ≡ map (option_of n) ps ++ options_of n rest) × SpellOptions n rest
run-read n [] rest small short s = (refl, s)
run-read n (p ∷ ps) rest small short s =
    let behind : List ℕ = pieces_spelling ps ++ rest in
    let bytes_are : pieces_spelling (p ∷ ps) ++ rest ≡ length p ∷ (p ++ behind) =
    ap (λ (l : List ℕ). (l ++ (p ++ pieces_spelling ps)) ++ rest) (short-length (length p) (omega (arith, short.0))) ∙ ap (λ (l : List ℕ). length p ∷ l) (append_assoc p (pieces_spelling ps) rest) in
    let spelled : SpellOptions n (length p ∷ (p ++ behind)) = subst (SpellOptions n) bytes_are s in
    let first = next_some n (length p ∷ (p ++ behind)) (option_of n p) behind spelled (short-option n p behind small short.0) in
    let others = run-read n ps rest small short.1 first.1 in
    (ap (options_of n) bytes_are ∙ first.0 ∙ ap (λ (os : List Opt). option_of n p ∷ os) others.0, others.1)

-- the same of the bytes of a run
pub run-options : (n : ℕ) (bytes front rest : List ℕ) → n < 65536 → ShortRun bytes front rest → SpellOptions n bytes → (values_of n (options_of n bytes) ≡ pieces_of front ++ values_of n (options_of n rest)) × SpellOptions n rest
run-options n bytes front rest small run s =
    let parts : bytes ≡ pieces_spelling (pieces_of front) ++ rest = run.parts ∙ ap (λ (l : List ℕ). l ++ rest) run.spelled.bytes_are in
    let read = run-read n (pieces_of front) rest small run.short (subst (SpellOptions n) parts s) in
    (ap (λ (l : List ℕ). values_of n (options_of n l)) parts ∙ ap (values_of n) read.0 ∙ values-pieces n (pieces_of front) (options_of n rest), read.1)

-- what was passed is a run
pub record IsRun (bytes rest : List ℕ) : Type 0 where
  pub front : List ℕ
  pub run : ShortRun bytes front rest

-- at first nothing is
pub IsRun-none : (bytes : List ℕ) → IsRun bytes bytes
IsRun-none bytes = record { front = []; run = record { parts = refl; spelled = none_spelled; short = subst (AllByRecursion (λ p. length p < 13)) (sym (pieces_of-spelling [])) tt } }

-- what holds of two lists holds of both
All-both : (xs ys : List (List ℕ)) → AllByRecursion (λ p. length p < 13) xs → AllByRecursion (λ p. length p < 13) ys → AllByRecursion (λ p. length p < 13) (xs ++ ys)
All-both [] ys all more = more
All-both (x ∷ xs) ys all more = (all.0, All-both xs ys all.1 more)

-- then one value more
pub IsRun-step : (bytes rest behind : List ℕ) → ShortPiece rest behind → IsRun bytes rest → IsRun bytes behind
IsRun-step bytes rest behind one is =
    let spelled : pieces_spelling (one.piece ∷ []) ≡ length one.piece ∷ one.piece = ap (λ (l : List ℕ). l ++ (one.piece ++ [])) (short-length (length one.piece) (omega (arith, one.short))) ∙ ap (λ (l : List ℕ). length one.piece ∷ l) (append-nil one.piece) in
    let alone : pieces_of (length one.piece ∷ one.piece) ≡ one.piece ∷ [] = ap pieces_of (sym spelled) ∙ pieces_of-spelling (one.piece ∷ []) in
    let more : Appended is.front (length one.piece ∷ one.piece) = appended is.front (length one.piece ∷ one.piece) is.run.spelled (subst SpellPieces spelled (spelling-spells (one.piece ∷ []))) in
    record {
      front = is.front ++ (length one.piece ∷ one.piece);
      run = record {
        parts = is.run.parts ∙ ap (λ (l : List ℕ). is.front ++ l) one.parts ∙ sym (append_assoc is.front (length one.piece ∷ one.piece) behind);
        spelled = more.spelled;
        short = subst (AllByRecursion (λ p. length p < 13)) (sym more.read) (All-both (pieces_of is.front) (pieces_of (length one.piece ∷ one.piece)) is.run.short (subst (AllByRecursion (λ p. length p < 13)) (sym alone) (one.short, tt)));
      };
    }

-- ---- values that are added to a list

-- the list and the values that are left make up the list with all values
abbrev pub IsAdded : ℕ → List (List ℕ) → List (List ℕ) → ℕ → List ℕ → Type 0
IsAdded n all list before bytes = all ≡ list ++ values_of n (options_of before bytes)

-- all are added, where no option is left
pub added-all : (n before : ℕ) (all list : List (List ℕ)) (bytes : List ℕ) → SpellOptions before bytes → option_at before bytes ≡ None → IsAdded n all list before bytes → list ≡ all
added-all n before all list bytes s e is = sym (is ∙ ap (λ (os : List Opt). list ++ values_of n os) (next_none before bytes s e) ∙ append-nil list)

-- The next option that is read.
module _ (n before : ℕ) (all list : List (List ℕ)) (bytes : List ℕ) (o : Opt) (rest : List ℕ) (s : SpellOptions before bytes) (e : option_at before bytes ≡ Some (o, rest)) (is : IsAdded n all list before bytes) where
  -- it is above the number, and so are all after it
  pub added-above : n < o.number → list ≡ all
  added-above above =
      let first = next_some before bytes o rest s e in
      let none : values_of n (options_of before bytes) ≡ [] = ap (values_of n) first.0 ∙ values-above n o.number (o ∷ options_of o.number rest) (omega arith, (subst (AreOptions before) first.0 s.in_order).1, (subst (AreOptions before) first.0 s.in_order).2, first.1.in_order) above in
      sym (is ∙ ap (λ (vs : List (List ℕ)). list ++ vs) none ∙ append-nil list)

  -- it is below
  pub added-below : o.number < n → IsAdded n all list o.number rest
  added-below below =
      let first = next_some before bytes o rest s e in
      is ∙ ap (λ (vs : List (List ℕ)). list ++ vs) (ap (values_of n) first.0 ∙ values-other n o (options_of o.number rest) below)

  -- it is of the number: its value is added, and the run after it
  pub added-run : (front behind : List ℕ) (pushed longer : List (List ℕ)) → o.number ≡ n → ShortRun rest front behind → pushed ≡ list ++ o.value ∷ [] → longer ≡ pushed ++ pieces_of front → IsAdded n all longer o.number behind × SpellOptions o.number behind
  added-run front behind pushed longer at run one more =
      let first = next_some before bytes o rest s e in
      let small = (subst (AreOptions before) first.0 s.in_order).1 in
      let others = run-options o.number rest front behind small run first.1 in
      let left : values_of n (options_of o.number rest) ≡ pieces_of front ++ values_of n (options_of o.number behind) = subst (λ (k : ℕ). values_of k (options_of o.number rest) ≡ pieces_of front ++ values_of k (options_of o.number behind)) at others.0 in
      let here : values_of n (options_of before bytes) ≡ o.value ∷ (pieces_of front ++ values_of n (options_of o.number behind)) = ap (values_of n) first.0 ∙ values-here n o (options_of o.number rest) at ∙ ap (λ (vs : List (List ℕ)). o.value ∷ vs) left in (
        is ∙ ap (λ (vs : List (List ℕ)). list ++ vs) here
            ∙ sym (append_assoc list (o.value ∷ []) (pieces_of front ++ values_of n (options_of o.number behind)))
            ∙ ap (λ (vs : List (List ℕ)). vs ++ (pieces_of front ++ values_of n (options_of o.number behind))) (sym one)
            ∙ sym (append_assoc pushed (pieces_of front) (values_of n (options_of o.number behind)))
            ∙ ap (λ (vs : List (List ℕ)). vs ++ values_of n (options_of o.number behind)) (sym more),
        others.1,
      )
