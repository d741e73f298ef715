-- Options that are picked, written one after the other.
use Rattle.std.proofs.Common.{◌≡◌, ℕ, ◌+◌, ◌≤◌, Bool, true, List, [], ◌∷◌, ◌++◌, length, filter, refl, sym, ap, ◌∙◌, append_assoc, append-nil, arith}
use Rattle.std.proofs.lemmas.List.{length-append}
use Rattle.coap_message.specs.declared.options.Opt.{Opt}
use Rattle.coap_message.specs.Datagram.{Datagram, holding}
use Rattle.coap_message.specs.Options.{AreOptions, last_number}
use Rattle.coap_message.specs.Spelling.{option_spelling, options_spelling}

-- the option that comes next is the next one of those that are picked
pub picked : (is_picked : Opt → Bool) (left rest : List Opt) (o : Opt) → left ≡ o ∷ rest → is_picked o ≡ true → filter is_picked left ≡ o ∷ filter is_picked rest
picked is_picked left rest o next is = rw (next, is) refl

-- what was written, and what remains to be written, so that all comes behind what was held at the
-- start
abbrev pub IsWrittenUpTo : Datagram → Datagram → ℕ → ℕ → List Opt → ℕ → List Opt → Type 0
IsWrittenUpTo start out most last left before all = record {
  room : out.room ≡ start.room;
  longer : length start.bytes ≤ length out.bytes;
  within : length out.bytes ≤ most;
  in_order : AreOptions last left;
  written : out.bytes ++ options_spelling last left ≡ start.bytes ++ options_spelling before all;
  behind : last_number last left ≡ last_number before all;
}

-- one more was written
pub written-next : (start out new : Datagram) (room last before : ℕ) (left rest all : List Opt) (o : Opt) → left ≡ o ∷ rest → IsWrittenUpTo start out room last left before all
    → (new ≡ holding out (out.bytes ++ option_spelling last o)) × (length out.bytes + length (option_spelling last o) ≤ room)
    → IsWrittenUpTo start new room o.number rest before all
written-next start out new room last before left rest all o next i put =
    let in_order : AreOptions last (o ∷ rest) = rw next at i.in_order in
    rw put.0 (record {
      room = i.room;
      longer = omega (arith, i.longer, length-append out.bytes (option_spelling last o));
      within = omega (arith, put.1, length-append out.bytes (option_spelling last o));
      in_order = in_order.3;
      written = append_assoc out.bytes (option_spelling last o) (options_spelling o.number rest) ∙ (rw next at i.written);
      behind = rw next at i.behind;
    })

-- all were written
pub written-all : (start out : Datagram) (room last before : ℕ) (left all : List Opt) → left ≡ [] → IsWrittenUpTo start out room last left before all → (out ≡ holding start (start.bytes ++ options_spelling before all)) × (length start.bytes + length (options_spelling before all) ≤ room)
written-all start out room last before left all none i =
    let written : out.bytes ++ [] ≡ start.bytes ++ options_spelling before all = rw none at i.written in
    let bytes : out.bytes ≡ start.bytes ++ options_spelling before all = sym (append-nil out.bytes) ∙ written in
    (λ j. record { room = i.room j; bytes = bytes j }, omega (arith, i.within, ap length bytes, length-append start.bytes (options_spelling before all)))
