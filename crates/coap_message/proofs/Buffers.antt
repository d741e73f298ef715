-- What a buffer holds once bytes were added to what it held.
use Rattle.std.proofs.Common.{◌≡◌, ℕ, ◌+◌, ◌-◌, ◌≤◌, List, ◌++◌, length, take, drop, refl, sym, ap, ◌∙◌, arith}
use Rattle.std.specs.Prelude.{min}
use Rattle.std.specs.Global.{Vec}
use Rattle.std.specs.Vec.{with_items}
use Rattle.std.proofs.lemmas.List.{length-append, length-take, length-take-le, length-drop, take_min, with_items_is}
use Rattle.std.proofs.lemmas.Slice.{take-put_mid}
use Rattle.std.proofs.Math.Seq.{take-append-add}
use borrow.Rule.Slice.PartMut.{put_mid}
use Rattle.coap_message.specs.Datagram.{Datagram}

-- as much of `more` as there is room for after `held`
take-room : (held more : List ℕ) (room : ℕ) → length held ≤ room → take room (held ++ more) ≡ held ++ take (min (length more) (room - length held)) more
take-room held more room le =
    let split : room ≡ length held + (room - length held) = omega arith in
    let turned : min (room - length held) (length more) ≡ min (length more) (room - length held) = omega arith in
    ap (λ (n : ℕ). take n (held ++ more)) split ∙ take-append-add held more (room - length held)
    ∙ ap (λ (l : List ℕ). held ++ l) (sym (take_min (room - length held) more) ∙ ap (λ (n : ℕ). take n more) turned)

-- a write in the midst leaves as many places
length-put_mid : (a k : ℕ) (xs ys : List ℕ) → a + k ≤ length xs → length ys ≡ k → length (put_mid a k xs ys) ≡ length xs
length-put_mid a k xs ys le len =
    omega (arith, len, length-append (take a xs) (ys ++ drop k (drop a xs)), length-append ys (drop k (drop a xs)), length-take a xs, length-drop k (drop a xs), length-drop a xs)

-- the first places after a write are what was held and as much more as there is room for
held_after : (places more written : List ℕ) (held count width : ℕ) → held ≤ length places → count ≡ min (length more) (length places - held) → width ≡ count → written ≡ take count more
    → take (held + count) (put_mid held width places written) ≡ take (length places) (take held places ++ more)
held_after places more written held count width le count_is width_is written_is =
    let front : length (take held places) ≡ held = length-take-le held places le in
    let written_len : length written ≡ count = rw written_is (omega (arith, length-take count more)) in
    let room = take-room (take held places) more (length places) (omega arith) in
    take-put_mid held width places written (held + count) (omega arith) le ∙ rw (written_is, count_is) (sym (room ∙ rw front refl))

-- a buffer of which `held` places count, after a write of `count` bytes of `more` after them
pub written_behind : (places : Vec ℕ) (more written seen : List ℕ) (held count width len : ℕ) → seen ≡ places.items → places.len ≡ length seen → held ≤ length seen → len ≡ length seen
    → count ≡ min (length more) (len - held) → width ≡ count → written ≡ take count more
    → ◌≡◌ {A = Datagram} (record { room = length (with_items places (put_mid held width seen written)).items; bytes = take (held + count) (with_items places (put_mid held width seen written)).items })
    (record { room = length places.items; bytes = take (length places.items) (take held places.items ++ more) })
written_behind places more written seen held count width len seen_is places_len le len_is count_is width_is written_is =
    let count_at : count ≡ min (length more) (length seen - held) = rw (← len_is) count_is in
    let written_len : length written ≡ width = rw written_is (omega (arith, length-take count more)) in
    let same_len = length-put_mid held width seen written (omega arith) written_len in
    let items = with_items_is places (put_mid held width seen written) (same_len ∙ sym places_len) in
    rw (items, ← seen_is) (same same_len (held_after seen more written held count width le count_at width_is written_is))
  where
    same : {r r' : ℕ} {b b' : List ℕ} → r ≡ r' → b ≡ b' → ◌≡◌ {A = Datagram} (record { room = r; bytes = b }) (record { room = r'; bytes = b' })
    same p q = cc
