-- What a call returns, if it can run out of memory.
use Rattle.std.specs.Prelude.{◌≡◌, ◌⊎◌, Result, Ok, Err, MatchResult}

-- the result is the expected one, as seen by `see`, or there was no memory for it
abbrev pub Says : {T V E : Type 0} → (T → V) → E → Result T E → Result V E → Type 0
Says see no_memory result expected =
    MatchResult result (λ x. expected ≡ Ok (see x)) (λ e. (e ≡ no_memory) ⊎ (expected ≡ Err e))

-- the result is the expected one, or there was no memory for it
abbrev pub Answers : {T E : Type 0} → E → Result T E → Result T E → Type 0
Answers no_memory result expected = Says (λ x. x) no_memory result expected
