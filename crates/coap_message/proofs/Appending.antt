-- One write after another.
use Rattle.std.proofs.Common.{◌≡◌, ℕ, ◌+◌, ◌-◌, ◌*◌, ◌≤◌, List, ◌∷◌, ◌++◌, length, take, Result, Ok, Err, refl, sym, ap, ◌∙◌, append_assoc, arith}
use Rattle.std.proofs.lemmas.List.{length-append, length-take, take-append-le}
use Rattle.coap_message.specs.declared.error.Full.{Full}
use Rattle.coap_message.specs.declared.options.Opt.{Opt}
use Rattle.coap_message.specs.Spelling.{bits_of, more_of, option_spelling}
use Rattle.coap_message.specs.Datagram.{Datagram, holding, Appends}

-- a beginning is one with more after it
front_of_more : (old new xs ys : List ℕ) → new ≡ take (length new) (old ++ xs) → new ≡ take (length new) (old ++ (xs ++ ys))
front_of_more old new xs ys is =
    let within : length new ≤ length (old ++ xs) = omega (arith, ap length is, length-take (length new) (old ++ xs)) in
    is ∙ sym (take-append-le (length new) (old ++ xs) ys within) ∙ ap (λ (l : List ℕ). take (length new) l) (append_assoc old xs ys)

-- a write that fails fails with more after it
pub Appends-full : (old new : Datagram) (room : ℕ) (xs ys : List ℕ) (e f : Full) → Appends old new room xs (Err e) → Appends old new room (xs ++ ys) (Err f)
Appends-full old new room xs ys e f a = (a.0, omega (arith, a.1, length-append xs ys), (a.2.0, front_of_more old.bytes new.bytes xs ys a.2.1))

-- and after one that didn't fail
pub Appends-behind : (old mid new : Datagram) (room : ℕ) (xs ys : List ℕ) (u : Unit {0}) (r : Result (Unit {0}) Full) → Appends old mid room xs (Ok u) → Appends mid new room ys r → Appends old new room (xs ++ ys) r
Appends-behind old mid new room xs ys u (Ok v) a b =
    let held : length mid.bytes ≡ length old.bytes + length xs = rw a.0 (length-append old.bytes xs) in
    (b.0 ∙ rw a.0 (ap (holding old) (append_assoc old.bytes xs ys)), omega (arith, held, b.1, length-append xs ys))
Appends-behind old mid new room xs ys u (Err e) a b =
    let held : length mid.bytes ≡ length old.bytes + length xs = rw a.0 (length-append old.bytes xs) in
    let together : mid.bytes ++ ys ≡ old.bytes ++ (xs ++ ys) = rw a.0 (append_assoc old.bytes xs ys) in
    (b.0 ∙ rw a.0 refl, omega (arith, held, b.1, length-append xs ys), (omega (arith, held, b.2.0), b.2.1 ∙ ap (λ (l : List ℕ). take (length new.bytes) l) together))

-- what is written bit by bit fails as a whole where a part of it fails
pub Appends-part : (old out new : Datagram) (room : ℕ) (part rest whole : List ℕ) (e f : Full) → out.room ≡ old.room → length old.bytes ≤ length out.bytes → out.bytes ++ (part ++ rest) ≡ old.bytes ++ whole → Appends out new room part (Err e) → Appends old new room whole (Err f)
Appends-part old out new room part rest whole e f same longer written a =
    let front : new.bytes ≡ take (length new.bytes) (out.bytes ++ (part ++ rest)) = front_of_more out.bytes new.bytes part rest a.2.1 in
    (a.0 ∙ same, omega (arith, a.1, ap length written, length-append out.bytes (part ++ rest), length-append part rest, length-append old.bytes whole), (omega (arith, longer, a.2.0), front ∙ ap (λ (l : List ℕ). take (length new.bytes) l) written))

-- ---- an option, part by part

-- a byte of bits and the four parts after it are the spelling of the option
pub option_written : (before : ℕ) (o : Opt) (delta len delta_bits length_bits : ℕ) → delta ≡ o.number - before → len ≡ length o.value → delta_bits ≡ bits_of delta → length_bits ≡ bits_of len
    → (16 * delta_bits + length_bits) ∷ (more_of delta ++ (more_of len ++ o.value)) ≡ option_spelling before o
unfolding option_spelling
option_written before o delta len delta_bits length_bits d l db lb = rw (db, lb, d, l) refl
