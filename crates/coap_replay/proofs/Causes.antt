-- Faults of the reader and of the writer, and what holds after a line that was read.
use Rattle.std.proofs.Common.{◌≡◌, ℕ, Bool, false, true, Result, Ok, Err, refl, subst, sym}
use Rattle.std.proofs.lemmas.Bool.{false≢true}
use Rattle.coap_replay.specs.declared.error.ReplayError.{ReplayError}
use Rattle.coap_replay.specs.declared.error.ReplayError.TheVariants.{BadEvent, OutOfMemory, Read, Write}
use Rattle.coap_replay.specs.declared.replays.Asked.{Asked}
use Rattle.coap_replay.specs.Replays.{FailsBy, HasCause, IfMore, is_read_fault, is_write_fault}

-- where only the reader was asked, only the reader failed
pub cause-read : (e : ReplayError) (reader writer : Bool) → HasCause {A = Asked} reader false (Err e) → HasCause {A = ℕ} reader writer (Err e)
cause-read (BadEvent line) reader writer cause = tt
cause-read (OutOfMemory line) reader writer cause = tt
cause-read Read reader writer cause = cause
cause-read Write reader writer cause = absurd (false≢true cause)

-- where only the writer was asked, only the writer failed
pub cause-written : (e : ReplayError) (reader writer : Bool) → HasCause {A = Unit {0}} false writer (Err e) → HasCause {A = ℕ} reader writer (Err e)
cause-written (BadEvent line) reader writer cause = tt
cause-written (OutOfMemory line) reader writer cause = tt
cause-written Read reader writer cause = absurd (false≢true cause)
cause-written Write reader writer cause = cause

-- what holds after this line
pub as-more : (P : Type 0) (a b : Asked) → a ≡ b → IfMore (Ok a) P → IfMore (Ok b) P
as-more P a b is holds = subst (λ (x : Asked). IfMore (Ok x) P) is holds

-- where only the reader was asked, the writer isn't at fault
pub unwritten : (e : ReplayError) (reader : Bool) → HasCause {A = Asked} reader false (Err e) → is_write_fault {A = ℕ} (Err e) ≡ false
unwritten (BadEvent line) reader cause = refl
unwritten (OutOfMemory line) reader cause = refl
unwritten Read reader cause = refl
unwritten Write reader cause = absurd (false≢true cause)

-- where only the writer was asked, the reader isn't at fault
pub unread : (e : ReplayError) (writer : Bool) → HasCause {A = Unit {0}} false writer (Err e) → is_read_fault {A = ℕ} (Err e) ≡ false
unread (BadEvent line) writer cause = refl
unread (OutOfMemory line) writer cause = refl
unread Read writer cause = absurd (false≢true cause)
unread Write writer cause = refl

-- if the reader failed, the fault is its own
pub reader-failed : (r : Result ℕ ReplayError) → FailsBy (is_read_fault r) false true → r ≡ Err Read
reader-failed (Ok count) fails = absurd (false≢true (sym (fails refl)))
reader-failed (Err (BadEvent line)) fails = absurd (false≢true (sym (fails refl)))
reader-failed (Err (OutOfMemory line)) fails = absurd (false≢true (sym (fails refl)))
reader-failed (Err Read) fails = refl
reader-failed (Err Write) fails = absurd (false≢true (sym (fails refl)))

-- if the writer failed, the fault is its own
pub writer-failed : (r : Result ℕ ReplayError) → FailsBy (is_write_fault r) false true → r ≡ Err Write
writer-failed (Ok count) fails = absurd (false≢true (sym (fails refl)))
writer-failed (Err (BadEvent line)) fails = absurd (false≢true (sym (fails refl)))
writer-failed (Err (OutOfMemory line)) fails = absurd (false≢true (sym (fails refl)))
writer-failed (Err Read) fails = absurd (false≢true (sym (fails refl)))
writer-failed (Err Write) fails = refl
