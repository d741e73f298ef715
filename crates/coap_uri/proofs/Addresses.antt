-- IPv4 addresses as text: what is read is what the grammar allows.
use Rattle.std.proofs.Common.{◌≡◌, ◌==◌, ℕ, true, false, List, [], ◌∷◌, ◌++◌, length, Option, Some, None, refl, ap, append-nil, ne_eqb, arith, lit≤, ◌<◌, Result, Ok, Err, ⊎_elim}
use Rattle.std.specs.List.{list_all}
use Rattle.std.specs.Str.{IsUtf8}
use Rattle.std.proofs.lemmas.Bool.{cases_Bool}
use Rattle.std.proofs.lemmas.Bool.Decides.{nat_tests}
use Rattle.std.proofs.lemmas.Option.{none-some}
use Rattle.std.specs.Net.Grammar.{IsDotted}
use Rattle.std.specs.Net.Reader.{Read, whole_value, read_ipv4}
use Rattle.std.proofs.NetLemmas.Ipv4.{read_ipv4_sound, read_ipv4_complete}
use Rattle.url.specs.declared.error.ParseError.{ParseError}
use Rattle.url.specs.Parser.{parse_url}
use Rattle.url.specs.Parts.{Parts}
use Rattle.coap_uri.specs.Address.{ipv4_of, is_address_byte, ipv6_read, ipv6_between, bracketed_uri}
use Rattle.coap_uri.specs.Uri.{url_or_bad}
use Rattle.coap_uri.proofs.Texts.{passing-utf8}

-- what the grammar allows is read
pub ipv4_of-dotted : (text octets : List ℕ) → IsDotted text octets → ipv4_of text ≡ Some octets
unfolding ipv4_of
ipv4_of-dotted text octets dotted = ap whole_value (rw append-nil at (read_ipv4_complete text octets [] dotted (lit≤ tt)))

-- a reading that consumes the whole text
whole-some : (front rest octets some : List ℕ) → (text : List ℕ) → text ≡ front ++ rest → IsDotted front octets → whole_value (Some (octets, rest)) ≡ Some some → IsDotted text some
whole-some front [] octets some text split dotted whole =
    let same : octets ≡ some = cc in
    rw (split, append-nil, ← same) dotted
whole-some front (b ∷ rest) octets some text split dotted whole =
    let left : (length (b ∷ rest) == 0) ≡ false = ne_eqb (length (b ∷ rest)) 0 (omega arith) in
    absurd (none-some _ (rw left at whole))

-- what is read is allowed by the grammar
pub dotted-ipv4_of : (text octets : List ℕ) → ipv4_of text ≡ Some octets → IsDotted text octets
unfolding ipv4_of
dotted-ipv4_of text octets whole = go (read_ipv4 text) refl whole
  where
    go : (read : Read (List ℕ)) → read_ipv4 text ≡ read → whole_value read ≡ Some octets → IsDotted text octets
    go None is found = absurd (none-some _ found)
    go (Some p) is found =
        let (front, split, dotted) = read_ipv4_sound text p.0 p.1 is in
        whole-some front p.1 p.0 octets text split dotted found

-- what the grammar doesn't allow is not read
pub ipv4_of-none : (text : List ℕ) → ((octets : List ℕ) → IsDotted text octets → ⊥) → ipv4_of text ≡ None
ipv4_of-none text never = go (ipv4_of text) refl
  where
    go : (o : Option (List ℕ)) → ipv4_of text ≡ o → ipv4_of text ≡ None
    go None is = is
    go (Some octets) is = absurd (never octets (dotted-ipv4_of text octets is))

-- a byte that may occur in an address is ASCII
address_byte-ascii : (b : ℕ) → is_address_byte b ≡ true → b < 128
address_byte-ascii b is = grind (arith, nat_tests)

-- bytes that aren't UTF-8 are not an address
pub ipv6_between-not_text : (bytes : List ℕ) → (IsUtf8 bytes → ⊥) → ipv6_between bytes ≡ None
unfolding ipv6_between
ipv6_between-not_text bytes never =
    ⊎_elim
    (λ yes. absurd (never (passing-utf8 is_address_byte address_byte-ascii bytes yes)))
    (λ no. rw no refl)
    (cases_Bool (list_all is_address_byte bytes))

-- bytes that may not all occur in an address are not one
pub ipv6_between-other : (bytes : List ℕ) → list_all is_address_byte bytes ≡ false → ipv6_between bytes ≡ None
unfolding ipv6_between
ipv6_between-other bytes other = rw other refl

-- it doesn't matter why `url` rejects a text
ipv6_read-url_or_bad : (r : Result Parts ParseError) → ipv6_read (url_or_bad r) ≡ ipv6_read r
ipv6_read-url_or_bad (Ok url) = refl
ipv6_read-url_or_bad (Err e) = refl

-- bytes that may all occur in an address are one if `url` reads one
pub ipv6_between-read : (bytes : List ℕ) → list_all is_address_byte bytes ≡ true → ipv6_between bytes ≡ ipv6_read (url_or_bad (parse_url None (bracketed_uri bytes)))
unfolding ipv6_between
ipv6_between-read bytes all = rw (all, ipv6_read-url_or_bad) refl
