-- Moments at which a message is sent, latest first, and Message IDs with the moments at which they
-- are given out.
use Rattle.std.specs.Prelude.{ℕ, List, [], ◌∷◌}
use Rattle.coap_pending.specs.Ids.{Given}

-- each sending comes when it is due, with the shortest timeout, and with the longest
abbrev pub shortest_four : List ℕ
shortest_four = 14000 ∷ 6000 ∷ 2000 ∷ 0 ∷ []

abbrev pub shortest : List ℕ
shortest = 30000 ∷ shortest_four

abbrev pub longest : List ℕ
longest = 45000 ∷ 21000 ∷ 9000 ∷ 3000 ∷ 0 ∷ []

-- a sixth one
abbrev pub six : List ℕ
six = 62000 ∷ shortest

-- an id at a moment
abbrev pub given : ℕ → ℕ → Given
given at id = record { at = at; id = id }
