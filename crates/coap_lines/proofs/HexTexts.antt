-- The bytes of a datagram as a text, and what is read.
use Rattle.std.proofs.Common.{◌≡◌, ℕ, ◌/◌, ◌<◌, ◌≤◌, Bool, true, false, List, [], ◌∷◌, ◌++◌, length, take, ◌∙◌, codes, Option, Some, None, Result, Ok, Err, refl, sym, ap, arith, cond, inl, inr, leb, le-leb, ◌≢◌, ◌==◌}
use Rattle.std.specs.Option.{unwrap_or}
use Rattle.std.specs.Str.{bytes_eq}
use Rattle.std.proofs.lemmas.Bool.{leb-true, lt-leb, and_parts, false≢true, ne_eqb}
use Rattle.std.proofs.lemmas.List.{append-nil, drop_all, take_all}
use Rattle.std.specs.List.{list_all, list_any}
use Rattle.std.proofs.lemmas.List.Sums.{list_all-from_AllPass}
use Rattle.std.proofs.lemmas.Option.{none-some}
use Rattle.std.proofs.lemmas.Slice.Eq.{bytes_eq-Decides}
use Rattle.hex.specs.declared.error.FromHexError.{FromHexError}
use Rattle.hex.proofs.HexLemmas.{decode_of-ok}
use Rattle.hex.specs.Hex.{decode_of, is_hex_digit}
use Rattle.coap_message.specs.Datagram.{written_over}
use Rattle.coap_lines.specs.Datagrams.{IsHex, bytes_at_front, bytes_read, decoded, digits_read}
use Rattle.coap_lines.specs.Answers.{Finds}

-- a hyphen encodes no bytes
pub hyphen-read : (text : List ℕ) → bytes_eq text (codes "-") ≡ true → bytes_read text ≡ Some []
unfolding bytes_read
hyphen-read text hyphen = rw hyphen refl

-- a text of fewer than two bytes that isn't a hyphen can't be read
pub short-none : (text : List ℕ) → bytes_eq text (codes "-") ≡ false → length text < 2 → bytes_read text ≡ None
unfolding bytes_read
short-none text other short = rw (other, lt-leb 2 (length text) short) refl

-- a longer one encodes what it decodes to
long-read : (text : List ℕ) → bytes_eq text (codes "-") ≡ false → 2 ≤ length text → bytes_read text ≡ digits_read text
unfolding bytes_read
long-read text other long = rw (other, le-leb 2 (length text) long) refl

-- what is written over all of a list replaces it
whole : (old new : List ℕ) → length new ≡ length old → written_over old new ≡ new
whole old new same =
    ap (λ (l : List ℕ). take (length old) (new ++ l)) (drop_all (length new) old (omega (arith, same)))
    ∙ ap (take (length old)) (append-nil new) ∙ take_all (length old) new (omega (arith, same))

-- so the front of what was written over all places is that of what was written
pub front-read : (text old new : List ℕ) (r : Option (Unit {0})) → bytes_eq text (codes "-") ≡ false → 2 ≤ length text → length new ≡ length old → Finds (bytes_at_front (length text / 2)) (digits_read text) r new → Finds (λ u bytes. bytes) (bytes_read text) r (take (length text / 2) (written_over old new))
front-read text old new None other long same found = long-read text other long ∙ found
front-read text old new (Some u) other long same found =
    long-read text other long ∙ found ∙ ap (λ (l : List ℕ). Some (take (length text / 2) l)) (sym (whole old new same))

-- a decoding that gave bytes succeeded
decoded-is : (r : Result (List ℕ) FromHexError) (bytes : List ℕ) → decoded r ≡ Some bytes → r ≡ Ok bytes
decoded-is (Ok some) bytes is = ap Ok (ap (λ (o : Option (List ℕ)). unwrap_or {T = List ℕ} o []) is)
decoded-is (Err e) bytes is = absurd (none-some bytes is)

-- the bytes that were read are those that the text encodes
pub bytes_read-is : (text bytes : List ℕ) → bytes_read text ≡ Some bytes → IsHex text bytes
unfolding bytes_read
bytes_read-is text bytes found = go (bytes_eq text (codes "-")) refl (leb 2 (length text)) refl found
  where
    go : (h : Bool) → bytes_eq text (codes "-") ≡ h → (d : Bool) → leb 2 (length text) ≡ d → cond h (Some []) (cond d (digits_read text) None) ≡ Some bytes → IsHex text bytes
    go true hyphen d long is = inl ((bytes_eq-Decides text (codes "-")).0 hyphen, sym (ap (λ (o : Option (List ℕ)). unwrap_or {T = List ℕ} o []) is))
    go false hyphen false long is = absurd (none-some bytes is)
    go false hyphen true long is = inr (leb-true 2 (length text) long, decoded-is (decode_of text) bytes is)

-- the bytes that a text encodes are read
pub bytes_read-written : (text bytes : List ℕ) → IsHex text bytes → bytes_read text ≡ Some bytes
bytes_read-written text bytes (inl none) = rw (none.1) (hyphen-read text ((bytes_eq-Decides text (codes "-")).1 none.0))
bytes_read-written text bytes (inr some) =
    long-read text (not_hyphen (bytes_eq text (codes "-")) refl) some.0 ∙ ap decoded some.1
  where
    not_hyphen : (h : Bool) → bytes_eq text (codes "-") ≡ h → bytes_eq text (codes "-") ≡ false
    not_hyphen false is = is
    not_hyphen true is = let short = ap length ((bytes_eq-Decides text (codes "-")).0 is) in absurd (omega (arith, short, some.0))

-- the text of bytes contains neither a byte that isn't a digit nor, unless it is a hyphen, that one
pub has-hex : (byte : ℕ) → is_hex_digit byte ≡ false → (45 == byte) ≡ false → (text bytes : List ℕ) → IsHex text bytes → list_any (λ b. b == byte) text ≡ false
has-hex byte other apart text bytes (inl none) = rw (none.0, apart) refl
has-hex byte other apart text bytes (inr some) = go text (list_all-from_AllPass is_hex_digit text (decode_of-ok text bytes some.1).1)
  where
    go : (text : List ℕ) → list_all is_hex_digit text ≡ true → list_any (λ b. b == byte) text ≡ false
    go [] all = refl
    go (b ∷ text) all =
        let parts = and_parts (is_hex_digit b) (list_all is_hex_digit text) all in
        let differs : b ≢ byte = λ same. false≢true (sym other ∙ rw same at parts.0) in
        rw (ne_eqb b byte differs, go text parts.1) refl
