-- Texts that are written into a buffer that was allocated before.
use Rattle.std.specs.Prelude.{◌≡◌, ℕ, ◌+◌, ◌*◌, ◌≤◌, List, ◌++◌, vec_len, vec_capacity}
use Rattle.std.specs.Global.{Vec}

-- a buffer has room for `count` bytes after those that it holds
abbrev pub HasRoom : Vec ℕ → ℕ → Type 0
HasRoom buffer count = vec_len buffer + count ≤ vec_capacity buffer

-- a text of at most `most` bytes was appended to what a buffer held, and no capacity was lost
abbrev pub Adds : Vec ℕ → Vec ℕ → List ℕ → ℕ → Type 0
Adds old new text most = (new.items ≡ old.items ++ text)
    × (vec_len new ≤ vec_len old + most) × (vec_capacity old ≤ vec_capacity new)

-- The greatest length of the line of a datagram of `count` bytes: 20 digits of a moment, 47 bytes
-- of an endpoint, two digits for each byte, or a hyphen if there are none, two spaces and a line
-- feed.
abbrev pub longest_line : ℕ → ℕ
longest_line count = 71 + 2 * count

-- The greatest length of the line of a turn whose datagram has `count` bytes: 20 digits of a
-- moment, 5 of a draw, 47 bytes of an endpoint, two digits for each byte, or a hyphen if there are
-- none, three spaces and a line feed. The line of a tick isn't longer than that of no bytes.
abbrev pub longest_turn : ℕ → ℕ
longest_turn count = 77 + 2 * count
