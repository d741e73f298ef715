-- When reading is refused, and with which refusal.
use Rattle.std.proofs.Common.{◌≡◌, ℕ, ◌/◌, ◌%◌, ◌<◌, ◌≤◌, Bool, true, false, cond, eqb, List, [], ◌∷◌, length, Option, Some, None, Result, Ok, Err, refl, sym, subst, ◌∙◌, arith}
use Rattle.std.specs.Prelude.{IsOk, ◌≢◌, ◌↔◌, MatchResult, IfOk}
use Rattle.std.proofs.lemmas.Bool.{eqb-true, ne_eqb, eq-eqb, false≢true}
use Rattle.coap_message.specs.declared.error.DecodeError.{DecodeError}
use Rattle.coap_message.specs.declared.error.DecodeError.TheVariants as errors
use Rattle.coap_message.specs.declared.message.Head.{Head}
use Rattle.coap_message.specs.Message.{Message}
use Rattle.coap_message.specs.Uint.{IsBytes}
use Rattle.coap_message.specs.Spelling.{Spells, SpellsNone, IsVersionOne}
use Rattle.coap_message.specs.Reading.{Body, body_behind, head_from, with_header, read_message, Decodes}
use Rattle.coap_message.proofs.WholeMessages.{read_is, read_again}

-- ---- the refusals of the definition

-- what is read, by whether the version is 1
abbrev read_of : Bool → Result Message DecodeError → Result Message DecodeError
read_of version found = cond version found (Err errors.Version)

-- with a header a message is not too short
found_is : (version : Bool) (head : Head) (found : Option Body) → read_of version (with_header head found) ≡ Err errors.Short → ⊥
found_is true head None e = cc
found_is true head (Some body) e = cc
found_is false head found e = cc

-- what stands after a header is no fault of the version
not_version : (head : Head) (found : Option Body) → with_header head found ≡ Err errors.Version → ⊥
not_version head None e = cc
not_version head (Some body) e = cc

-- what is too short has fewer than four bytes
short_is : (bytes : List ℕ) → read_message bytes ≡ Err errors.Short → length bytes < 4
unfolding read_message
short_is [] e = omega arith
short_is (a ∷ []) e = omega arith
short_is (a ∷ b ∷ []) e = omega arith
short_is (a ∷ b ∷ c ∷ []) e = omega arith
short_is (a ∷ b ∷ c ∷ d ∷ rest) e = absurd (found_is (eqb (a / 64) 1) _ _ e)

-- and fewer than four bytes are too short
pub is_short : (bytes : List ℕ) → length bytes < 4 → read_message bytes ≡ Err errors.Short
unfolding read_message
is_short [] lt = refl
is_short (a ∷ []) lt = refl
is_short (a ∷ b ∷ []) lt = refl
is_short (a ∷ b ∷ c ∷ []) lt = refl
is_short (a ∷ b ∷ c ∷ d ∷ rest) lt = absurd (omega arith)

-- a fault of the version has a header that says so
pub version_is : (bytes : List ℕ) → read_message bytes ≡ Err errors.Version → (4 ≤ length bytes) × (IsVersionOne bytes → ⊥)
unfolding read_message
version_is [] e = absurd cc
version_is (a ∷ []) e = absurd cc
version_is (a ∷ b ∷ []) e = absurd cc
version_is (a ∷ b ∷ c ∷ []) e = absurd cc
version_is (a ∷ b ∷ c ∷ d ∷ rest) e = (omega arith, λ one. at_test (eqb (a / 64) 1) (eq-eqb (a / 64) 1 one) e)
  where
    at_test : (t : Bool) → t ≡ true → read_of t (with_header (head_from a b c d) (body_behind b (a % 16) rest)) ≡ Err errors.Version → ⊥
    at_test true is h = not_version (head_from a b c d) (body_behind b (a % 16) rest) h
    at_test false is h = cc

-- and a header that says so is one
is_version : (bytes : List ℕ) → 4 ≤ length bytes → (IsVersionOne bytes → ⊥) → read_message bytes ≡ Err errors.Version
unfolding read_message
is_version [] le other = absurd (omega arith)
is_version (a ∷ []) le other = absurd (omega arith)
is_version (a ∷ b ∷ []) le other = absurd (omega arith)
is_version (a ∷ b ∷ c ∷ []) le other = absurd (omega arith)
is_version (a ∷ b ∷ c ∷ d ∷ rest) le other = rw (ne_eqb (a / 64) 1 other) refl

-- a fault of the format has a header of version 1
format_is : (bytes : List ℕ) → read_message bytes ≡ Err errors.Format → (4 ≤ length bytes) × IsVersionOne bytes
unfolding read_message
format_is [] e = absurd cc
format_is (a ∷ []) e = absurd cc
format_is (a ∷ b ∷ []) e = absurd cc
format_is (a ∷ b ∷ c ∷ []) e = absurd cc
format_is (a ∷ b ∷ c ∷ d ∷ rest) e = (omega arith, at_test (eqb (a / 64) 1) refl e)
  where
    at_test : (t : Bool) → eqb (a / 64) 1 ≡ t → read_of t (with_header (head_from a b c d) (body_behind b (a % 16) rest)) ≡ Err errors.Format → a / 64 ≡ 1
    at_test true is h = eqb-true _ _ is
    at_test false is h = absurd cc

-- a header, and what was read after it, want no memory
not_memory : (head : Head) (found : Option Body) → with_header head found ≡ Err errors.OutOfMemory → ⊥
not_memory head None e = cc
not_memory head (Some body) e = cc

-- reading wants no memory
pub never_memory : (bytes : List ℕ) → read_message bytes ≡ Err errors.OutOfMemory → ⊥
unfolding read_message
never_memory [] e = cc
never_memory (a ∷ []) e = cc
never_memory (a ∷ b ∷ []) e = cc
never_memory (a ∷ b ∷ c ∷ []) e = cc
never_memory (a ∷ b ∷ c ∷ d ∷ rest) e = at_test (eqb (a / 64) 1) e
  where
    at_test : (t : Bool) → read_of t (with_header (head_from a b c d) (body_behind b (a % 16) rest)) ≡ Err errors.OutOfMemory → ⊥
    at_test true h = not_memory (head_from a b c d) (body_behind b (a % 16) rest) h
    at_test false h = cc

-- exactly where no message is spelled
pub format_only : (bytes : List ℕ) → IsBytes bytes → (read_message bytes ≡ Err errors.Format) ↔ ((4 ≤ length bytes) × IsVersionOne bytes × SpellsNone bytes)
format_only bytes fits = (λ e. (let f = format_is bytes e in (f.0, f.1, λ m s. let again = sym e ∙ read_again bytes m s in cc)), λ p. at_format (read_message bytes) refl p)
  where
    at_format : (r : Result Message DecodeError) → read_message bytes ≡ r → (4 ≤ length bytes) × IsVersionOne bytes × SpellsNone bytes → r ≡ Err errors.Format
    at_format (Ok m) k p = absurd (p.2 m (read_is bytes m fits k))
    at_format (Err errors.Short) k p = absurd (let lt = short_is bytes k in omega (arith, p.0))
    at_format (Err errors.Version) k p = absurd ((version_is bytes k).1 p.1)
    at_format (Err errors.Format) k p = refl
    at_format (Err errors.OutOfMemory) k p = absurd (never_memory bytes k)

-- too short exactly below four bytes
pub short_only : (bytes : List ℕ) → (read_message bytes ≡ Err errors.Short) ↔ (length bytes < 4)
short_only bytes = (short_is bytes, is_short bytes)

-- a fault of the version exactly where the header says so
pub version_only : (bytes : List ℕ) → (read_message bytes ≡ Err errors.Version) ↔ ((4 ≤ length bytes) × (IsVersionOne bytes → ⊥))
version_only bytes = (version_is bytes, λ p. is_version bytes p.0 p.1)

-- ---- and those of a decoder

-- what is read is some message
is_ok : (r : Result Message DecodeError) → IsOk r → (m : Message) × (r ≡ Ok m)
is_ok (Ok m) h = (m, refl)
is_ok (Err e) h = absurd (false≢true h)

-- what a decoder gives is spelled so
pub decodes_spelled : (result : Result Message DecodeError) (bytes : List ℕ) → IsBytes bytes → Decodes result (read_message bytes) → IfOk result (λ m. Spells bytes m)
decodes_spelled (Ok m) bytes fits h = read_is bytes m fits h
decodes_spelled (Err e) bytes fits h = tt

-- of what spells a message a decoder gives it, or memory is missing
pub decodes_all : (result : Result Message DecodeError) (bytes : List ℕ) → Decodes result (read_message bytes) → (m : Message) → Spells bytes m → MatchResult result (λ found. found ≡ m) (λ e. e ≡ errors.OutOfMemory)
decodes_all (Ok found) bytes h m s = let again = sym h ∙ read_again bytes m s in cc
decodes_all (Err errors.OutOfMemory) bytes h m s = refl
decodes_all (Err errors.Short) bytes h m s = absurd (let again = sym h ∙ read_again bytes m s in cc)
decodes_all (Err errors.Version) bytes h m s = absurd (let again = sym h ∙ read_again bytes m s in cc)
decodes_all (Err errors.Format) bytes h m s = absurd (let again = sym h ∙ read_again bytes m s in cc)

-- a decoder refuses exactly as reading does, but where it wants memory
pub decodes_refused : (result : Result Message DecodeError) (read : Result Message DecodeError) (refused : DecodeError) → refused ≢ errors.OutOfMemory → Decodes result read → (result ≡ Err refused) ↔ (read ≡ Err refused)
decodes_refused result read refused other h =
    (λ e. there refused other (subst (λ (r : Result Message DecodeError). Decodes r read) e h), λ e. back result refused (subst (Decodes result) e h))
  where
    there : (f : DecodeError) → f ≢ errors.OutOfMemory → Decodes (Err f) read → read ≡ Err f
    there errors.Short o k = k
    there errors.Version o k = k
    there errors.Format o k = k
    there errors.OutOfMemory o k = absurd (o refl)

    back : (r : Result Message DecodeError) (f : DecodeError) → Decodes r (Err f) → r ≡ Err f
    back (Ok m) f k = absurd cc
    back (Err errors.OutOfMemory) f k = absurd (false≢true k)
    back (Err errors.Short) f k = let same : ◌≡◌ {A = Result Message DecodeError} (Err f) (Err errors.Short) = k in cc
    back (Err errors.Version) f k = let same : ◌≡◌ {A = Result Message DecodeError} (Err f) (Err errors.Version) = k in cc
    back (Err errors.Format) f k = let same : ◌≡◌ {A = Result Message DecodeError} (Err f) (Err errors.Format) = k in cc

-- what could be read needed memory alone
pub decodes_memory : (result : Result Message DecodeError) (bytes : List ℕ) → IsBytes bytes → Decodes result (read_message bytes) → result ≡ Err errors.OutOfMemory → (m : Message) × Spells bytes m
decodes_memory result bytes fits h e =
    let m = is_ok (read_message bytes) (subst (λ (r : Result Message DecodeError). Decodes r (read_message bytes)) e h) in
    (m.0, read_is bytes m.0 fits m.1)
