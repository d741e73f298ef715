-- Pieces as the bytes that spell them.
use Rattle.std.proofs.Common.{◌≡◌, ◌==◌, ℕ, zero, suc, ◌+◌, ◌*◌, ◌/◌, ◌%◌, ◌^◌, ◌<◌, ◌≤◌, Bool, true, false, cond, Option, Some, None, List, [], ◌∷◌, ◌++◌, length, take, drop, refl, sym, ap, subst, ◌∙◌, append_assoc, arith}
use Rattle.std.specs.Prelude.{replicate, option_map, IfSome}
use Rattle.std.specs.Option.{option_map_or}
use Rattle.std.specs.Cmp.Lexicographic.{pointwise}
use Rattle.std.proofs.lemmas.Bool.{ne_eqb}
use Rattle.std.proofs.lemmas.List.{append-nil, length-append, length-replicate, take_at, drop_at}
use Rattle.std.proofs.lemmas.Option.{same_Some}
use Rattle.coap_message.proofs.OneForm.{same_form}
use Rattle.coap_message.specs.Pieces.{length_spelling, length_at, pieces_spelling, pieces_within, pieces_of, SpellPieces, same_pieces, same_pieces-Decides}

-- ---- lengths

-- bytes 255, and one below, are a length
length_at-many : (k r : ℕ) (rest : List ℕ) → r < 255 → length_at (replicate k 255 ++ (r ∷ rest)) ≡ Some (255 * k + r, rest)
length_at-many zero r rest lt = let none : r ≡ 255 * 0 + r = omega arith in rw (ne_eqb r 255 (λ e. omega arith)) (ap (λ (n : ℕ). Some (n, rest)) none)
length_at-many (suc k) r rest lt =
    let more = length_at-many k r rest lt in
    let sum : 255 + (255 * k + r) ≡ 255 * suc k + r = omega arith in
    ap (option_map (λ (found : ℕ × List ℕ). (255 + found.0, found.1))) more ∙ ap (λ (n : ℕ). Some (n, rest)) sum

-- a length is read again
pub length_again : (n : ℕ) (rest : List ℕ) → length_at (length_spelling n ++ rest) ≡ Some (n, rest)
length_again n rest =
    let sum : 255 * (n / 255) + n % 255 ≡ n = omega arith in
    ap length_at (append_assoc (replicate (n / 255) 255) (n % 255 ∷ []) rest) ∙ length_at-many (n / 255) (n % 255) rest (omega arith) ∙ ap (λ (m : ℕ). Some (m, rest)) sum

-- and takes a byte at least
length-takes : (n : ℕ) → 0 < length (length_spelling n)
length-takes n = omega (arith, length-append (replicate (n / 255) 255) (n % 255 ∷ []))

-- ---- pieces

-- pieces are read from their spelling, however many may be
within-spelling : (most : ℕ) (ps : List (List ℕ)) → length (pieces_spelling ps) ≤ most → pieces_within most (pieces_spelling ps) ≡ ps
unfolding pieces_within
within-spelling zero [] le = refl
within-spelling zero (p ∷ ps) le = absurd (omega (arith, length-takes (length p), length-append (length_spelling (length p)) (p ++ pieces_spelling ps)))
within-spelling (suc most) [] le = refl
within-spelling (suc most) (p ∷ ps) le =
    let here = take_at p (pieces_spelling ps) (length p) refl in
    let others = drop_at p (pieces_spelling ps) (length p) refl in
    let rest = within-spelling most ps (omega (arith, length-takes (length p), length-append (length_spelling (length p)) (p ++ pieces_spelling ps), length-append p (pieces_spelling ps))) in
    ap (λ (found : Option (ℕ × List ℕ)). option_map_or (λ f. take f.0 f.1 ∷ pieces_within most (drop f.0 f.1)) found []) (length_again (length p) (p ++ pieces_spelling ps))
    ∙ rw (here, others, rest) refl

-- pieces are read from their spelling
pub pieces_of-spelling : (ps : List (List ℕ)) → pieces_of (pieces_spelling ps) ≡ ps
pieces_of-spelling ps = within-spelling (length (pieces_spelling ps)) ps (omega arith)

-- a spelling spells pieces
pub spelling-spells : (ps : List (List ℕ)) → SpellPieces (pieces_spelling ps)
spelling-spells ps = record { bytes_are = ap pieces_spelling (sym (pieces_of-spelling ps)) }

-- ---- from the front

-- what stands after a length
pub record First (bytes : List ℕ) (len : ℕ) (rest : List ℕ) : Type 0 where
  pub within : len ≤ length rest
  pub pieces : pieces_of bytes ≡ take len rest ∷ pieces_of (drop len rest)
  pub spelled : SpellPieces (drop len rest)

-- the length that is read is that of the first piece, which stands after it
first_of : (bytes : List ℕ) (ps : List (List ℕ)) (len : ℕ) (rest : List ℕ) → ps ≡ pieces_of bytes → bytes ≡ pieces_spelling ps → length_at bytes ≡ Some (len, rest) → First bytes len rest
first_of bytes [] len rest same b e = let other : ◌≡◌ {A = Option (ℕ × List ℕ)} None (Some (len, rest)) = ap length_at (sym b) ∙ e in absurd cc
first_of bytes (p ∷ ps) len rest same b e =
    let parts : (length p, p ++ pieces_spelling ps) ≡ (len, rest) = same_Some _ _ (sym (length_again (length p) (p ++ pieces_spelling ps)) ∙ ap length_at (sym b) ∙ e) in
    let here = take_at p (pieces_spelling ps) (length p) refl in
    let others = drop_at p (pieces_spelling ps) (length p) refl in
    subst (λ (x : ℕ × List ℕ). First bytes x.0 x.1) parts (record {
      within = omega (arith, length-append p (pieces_spelling ps));
      pieces = sym same ∙ rw (here, others, pieces_of-spelling ps) refl;
      spelled = subst SpellPieces (sym others) (spelling-spells ps);
    })

-- the same of the bytes of a list
pub first_piece : (bytes : List ℕ) (len : ℕ) (rest : List ℕ) → SpellPieces bytes → length_at bytes ≡ Some (len, rest) → First bytes len rest
first_piece bytes len rest s e = first_of bytes (pieces_of bytes) len rest refl s.bytes_are e

-- where no length stands, no piece is read, however many may be
none_within : (most : ℕ) (bytes : List ℕ) → length_at bytes ≡ None → pieces_within most bytes ≡ []
unfolding pieces_within
none_within zero bytes e = refl
none_within (suc most) bytes e = rw e refl

-- and so there is none
pub no_piece : (bytes : List ℕ) → length_at bytes ≡ None → pieces_of bytes ≡ []
no_piece bytes e = none_within (length bytes) bytes e

-- ---- at the end

-- the spelling with one piece more
spelling-push : (ps : List (List ℕ)) (p : List ℕ) → pieces_spelling (ps ++ p ∷ []) ≡ pieces_spelling ps ++ (length_spelling (length p) ++ p)
spelling-push [] p = ap (λ (l : List ℕ). length_spelling (length p) ++ l) (append-nil p)
spelling-push (q ∷ ps) p =
    ap (λ (l : List ℕ). length_spelling (length q) ++ (q ++ l)) (spelling-push ps p)
    ∙ ap (λ (l : List ℕ). length_spelling (length q) ++ l) (sym (append_assoc q (pieces_spelling ps) (length_spelling (length p) ++ p)))
    ∙ sym (append_assoc (length_spelling (length q)) (q ++ pieces_spelling ps) (length_spelling (length p) ++ p))

-- the bytes with one piece more
pub record Pushed (bytes p : List ℕ) : Type 0 where
  pub read : pieces_of (bytes ++ (length_spelling (length p) ++ p)) ≡ pieces_of bytes ++ p ∷ []
  pub spelled : SpellPieces (bytes ++ (length_spelling (length p) ++ p))

-- a piece is added after the others
pub pushed : (bytes p : List ℕ) → SpellPieces bytes → Pushed bytes p
pushed bytes p s =
    let ps = pieces_of bytes in
    let more : pieces_spelling (ps ++ p ∷ []) ≡ bytes ++ (length_spelling (length p) ++ p) = spelling-push ps p ∙ ap (λ (l : List ℕ). l ++ (length_spelling (length p) ++ p)) (sym s.bytes_are) in
    record { read = ap pieces_of (sym more) ∙ pieces_of-spelling (ps ++ p ∷ []); spelled = subst SpellPieces more (spelling-spells (ps ++ p ∷ [])) }

-- pieces in two parts are spelled one part after the other
pub pieces_spelling-append : (ps qs : List (List ℕ)) → pieces_spelling (ps ++ qs) ≡ pieces_spelling ps ++ pieces_spelling qs
pieces_spelling-append [] qs = refl
pieces_spelling-append (p ∷ ps) qs =
    ap (λ (l : List ℕ). length_spelling (length p) ++ (p ++ l)) (pieces_spelling-append ps qs)
    ∙ ap (λ (l : List ℕ). length_spelling (length p) ++ l) (sym (append_assoc p (pieces_spelling ps) (pieces_spelling qs)))
    ∙ sym (append_assoc (length_spelling (length p)) (p ++ pieces_spelling ps) (pieces_spelling qs))

-- the bytes with more pieces
pub record Appended (bytes more : List ℕ) : Type 0 where
  pub read : pieces_of (bytes ++ more) ≡ pieces_of bytes ++ pieces_of more
  pub spelled : SpellPieces (bytes ++ more)

-- pieces are added after the others
pub appended : (bytes more : List ℕ) → SpellPieces bytes → SpellPieces more → Appended bytes more
appended bytes more s t =
    let all : pieces_spelling (pieces_of bytes ++ pieces_of more) ≡ bytes ++ more = pieces_spelling-append (pieces_of bytes) (pieces_of more) ∙ ap (λ (l : List ℕ). l ++ pieces_spelling (pieces_of more)) (sym s.bytes_are) ∙ ap (λ (l : List ℕ). bytes ++ l) (sym t.bytes_are) in
    record { read = ap pieces_of (sym all) ∙ pieces_of-spelling (pieces_of bytes ++ pieces_of more); spelled = subst SpellPieces all (spelling-spells (pieces_of bytes ++ pieces_of more)) }

-- no bytes spell no pieces
pub none_spelled : SpellPieces []
none_spelled = spelling-spells []

-- ---- equality, and how many

-- bytes are the same exactly where the pieces are
pub same_bytes : (r : Bool) (a b : List ℕ) → SpellPieces a → SpellPieces b → r ≡ pointwise ◌==◌ a b → r ≡ same_pieces (pieces_of a) (pieces_of b)
same_bytes r a b s t e = same_form pieces_of pieces_spelling same_pieces same_pieces-Decides r a b s.bytes_are t.bytes_are e

-- each piece takes a byte at least
few : (ps : List (List ℕ)) → length ps ≤ length (pieces_spelling ps)
few [] = omega arith
few (p ∷ ps) = omega (arith, few ps, length-takes (length p), length-append (length_spelling (length p)) (p ++ pieces_spelling ps), length-append p (pieces_spelling ps))

-- so there are no more pieces than bytes
pub few_pieces : (bytes : List ℕ) → SpellPieces bytes → length (pieces_of bytes) ≤ length bytes
few_pieces bytes s = omega (arith, few (pieces_of bytes), ap length s.bytes_are)

-- the first length is that of bytes after it
fit_of : (bytes : List ℕ) → SpellPieces bytes → (found : Option (ℕ × List ℕ)) → length_at bytes ≡ found → IfSome found (λ f. f.0 ≤ length f.1)
fit_of bytes s None e = tt
fit_of bytes s (Some f) e = (first_piece bytes f.0 f.1 s e).within

-- a length that stands here is that of bytes after it
pub lengths_fit : (bytes : List ℕ) → SpellPieces bytes → IfSome (length_at bytes) (λ f. f.0 ≤ length f.1)
lengths_fit bytes s = fit_of bytes s (length_at bytes) refl

-- pieces in front of which no length stands are none
none_of : (ps : List (List ℕ)) → length_at (pieces_spelling ps) ≡ None → ps ≡ []
none_of [] e = refl
none_of (p ∷ ps) e = let other : ◌≡◌ {A = Option (ℕ × List ℕ)} (Some (length p, p ++ pieces_spelling ps)) None = sym (length_again (length p) (p ++ pieces_spelling ps)) ∙ e in absurd cc

-- where no length stands, nothing does
pub lengths_stand : (bytes : List ℕ) → SpellPieces bytes → length_at bytes ≡ None → bytes ≡ []
lengths_stand bytes s e = s.bytes_are ∙ ap pieces_spelling (none_of (pieces_of bytes) (sym (ap length_at s.bytes_are) ∙ e))

-- ---- reading a length, byte by byte

-- what stands after a length is shorter
behind-le : (bytes : List ℕ) (f : ℕ × List ℕ) → length_at bytes ≡ Some f → length f.1 ≤ length bytes
behind-le [] f e = absurd cc
behind-le (b ∷ bytes) f e = go (behind-le bytes) (b == 255) (length_at bytes) refl e
  where
    go : ((g : ℕ × List ℕ) → length_at bytes ≡ Some g → length g.1 ≤ length bytes) → (more : Bool) (found : Option (ℕ × List ℕ)) → length_at bytes ≡ found → cond more (option_map (λ g. (255 + g.0, g.1)) found) (Some (b, bytes)) ≡ Some f → length f.1 ≤ length (b ∷ bytes)
    go again true None at h = absurd cc
    go again true (Some g) at h = let rest = again g at in let same : g.1 ≡ f.1 = cc in omega (arith, rest, ap length same)
    go again false found at h = let same : bytes ≡ f.1 = cc in omega (arith, ap length same)

-- a length that is read byte by byte fits its number, since as many bytes stand after it
pub length-fits : (bytes behind : List ℕ) (len : ℕ) → length bytes < 2 ^ 64 → (length_at bytes ≡ None → bytes ≡ []) → IfSome (length_at bytes) (λ f. f.0 ≤ length f.1) → length behind < length bytes
    → option_map (λ (f : ℕ × List ℕ). (len + f.0, f.1)) (length_at (255 ∷ behind)) ≡ length_at bytes → len + 255 < 2 ^ 64
length-fits bytes behind len few stands fit shorter e = go (length_at behind) refl
  where
    go : (found : Option (ℕ × List ℕ)) → length_at behind ≡ found → len + 255 < 2 ^ 64
    go None at =
        let none : length_at bytes ≡ None = sym e ∙ ap (λ (o : Option (ℕ × List ℕ)). option_map (λ (f : ℕ × List ℕ). (len + f.0, f.1)) (option_map (λ (f : ℕ × List ℕ). (255 + f.0, f.1)) o)) at in
        absurd (omega (arith, ap length (stands none)))
    go (Some g) at =
        let some : length_at bytes ≡ Some (len + (255 + g.0), g.1) = sym e ∙ ap (λ (o : Option (ℕ × List ℕ)). option_map (λ (f : ℕ × List ℕ). (len + f.0, f.1)) (option_map (λ (f : ℕ × List ℕ). (255 + f.0, f.1)) o)) at in
        let le = subst (λ (o : Option (ℕ × List ℕ)). IfSome o (λ f. f.0 ≤ length f.1)) some fit in
        omega (arith, le, behind-le behind g at)

-- ---- how many bytes they take

-- a piece takes its bytes and those of its length
pub pieces-length : (p : List ℕ) (ps : List (List ℕ)) → length (pieces_spelling (p ∷ ps)) ≡ length p / 255 + 1 + length p + length (pieces_spelling ps)
pieces-length p ps =
    omega (arith, length-append (length_spelling (length p)) (p ++ pieces_spelling ps), length-append p (pieces_spelling ps), length-append (replicate (length p / 255) 255) (length p % 255 ∷ []), length-replicate {A = ℕ} (length p / 255) 255)
