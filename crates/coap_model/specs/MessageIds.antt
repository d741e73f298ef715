-- The Message IDs that a history gave out (RFC 7252, 4.4).
use Rattle.std.specs.Prelude.{◌≡◌, ℕ, ◌+◌, ◌<◌, ◌≤◌, List}
use Rattle.coap_model.specs.History.{Action, Position, IsPositionOf, Gives}

-- this id was given out at a position
abbrev pub GivesId : ℕ → Position → Type 0
GivesId id p = Gives id p.action.observation

-- Message IDs aren't reused within 247 seconds: two positions that gave out the same id less than
-- that apart are the same position (RFC 7252, 4.4).
abbrev pub IdsDiffer : List Action → Type 0
IdsDiffer history =
    (p q : Position) (id : ℕ)
    → IsPositionOf history p
    → IsPositionOf history q
    → GivesId id p
    → GivesId id q
    → p.action.observation.now ≤ q.action.observation.now
    → q.action.observation.now < p.action.observation.now + 247000
    → p ≡ q
