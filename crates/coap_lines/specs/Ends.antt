-- What lines are read from and written to.
use Rattle.std.specs.Prelude.{ℕ, Bool, List, [], ◌∷◌, Result}
use Rattle.coap_lines.specs.Failing.{is_failure}

-- a reader, and whether it failed when it was last asked
pub record Input (R : Type 0) : Type 0 where
  pub reader : R
  pub failed : Bool

-- a writer, and whether it failed when it was last asked
pub record Output (W : Type 0) : Type 0 where
  pub writer : W
  pub failed : Bool

-- Whether a writer has failed once it was to take these bytes: it has exactly if that gave an
-- error. No bytes are no question to it, so that it stays as it was.
abbrev pub failed_by : {A E : Type 0} → List ℕ → Bool → Result A E → Bool
failed_by [] before result = before
failed_by (b ∷ bytes) before result = is_failure result
