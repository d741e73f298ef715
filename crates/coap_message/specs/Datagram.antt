-- A datagram: the bytes that it holds, and the number of bytes that it has room for.
use Rattle.std.specs.Prelude.{◌≡◌, ℕ, ◌+◌, ◌<◌, ◌≤◌, List, ◌++◌, length, take, drop, Result, Ok, Err}
use Rattle.coap_message.specs.declared.error.Full.{Full}

pub record Datagram : Type 0 where
  pub room : ℕ
  pub bytes : List ℕ

-- the datagram with its bytes replaced by these
abbrev pub holding : Datagram → List ℕ → Datagram
holding d bytes = record { room = d.room; bytes = bytes }

-- bytes, with others written over them from the first on, as far as they go
abbrev pub written_over : List ℕ → List ℕ → List ℕ
written_over old new = take (length old) (new ++ drop (length new) old)

-- what was held is followed by a prefix of the bytes, or by nothing
abbrev pub AddsFront : List ℕ → List ℕ → List ℕ → Type 0
AddsFront old new bytes = (length old ≤ length new) × (new ≡ take (length new) (old ++ bytes))

-- The bytes are appended to what is held. Otherwise more than `room` bytes would be held, and a
-- prefix of the bytes may have been written.
abbrev pub Appends : Datagram → Datagram → ℕ → List ℕ → Result (Unit {0}) Full → Type 0
Appends old new room bytes (Ok u) =
    (new ≡ holding old (old.bytes ++ bytes)) × (length old.bytes + length bytes ≤ room)
Appends old new room bytes (Err e) =
    (new.room ≡ old.room)
    × (room < length old.bytes + length bytes)
    × AddsFront old.bytes new.bytes bytes

-- whether it succeeded, without the value that it returned
abbrev pub unit_of : {A E : Type 0} → Result A E → Result (Unit {0}) E
unit_of (Ok x) = Ok tt
unit_of (Err e) = Err e
