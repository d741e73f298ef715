-- Whether what was last asked of a reader or a writer failed.
use Rattle.std.specs.Prelude.{◌≡◌, ◌+◌, ◌-◌, ◌^◌, ◌==◌, min, Bool, false, true, Result, Ok, Err}
use Rattle.coap_lines.specs.declared.failing.Failing.{Failing}

-- whether this is what a failure gives
abbrev pub is_failure : {A E : Type 0} → Result A E → Bool
is_failure (Ok a) = false
is_failure (Err e) = true

-- One more interruption in a row is counted. Of 2^64 - 1 of them, the last is a failure.
abbrev pub IsInterrupted : Failing → Failing → Type 0
IsInterrupted old new = (new.interrupted ≡ min (old.interrupted + 1) (2 ^ 64 - 1))
    × (new.last ≡ (new.interrupted == 2 ^ 64 - 1))
