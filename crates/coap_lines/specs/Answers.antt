-- What a call returns that looks for something and puts its bytes into a buffer.
use Rattle.std.specs.Prelude.{◌≡◌, List, ℕ, Option, Some, None}

-- It returns what is expected, with the bytes that are in the buffer then, or nothing if nothing is
-- expected.
abbrev pub Finds : {A B : Type 0} → (A → List ℕ → B) → Option B → Option A → List ℕ → Type 0
Finds seen expected (Some answer) bytes = expected ≡ Some (seen answer bytes)
Finds seen expected None bytes = expected ≡ None
