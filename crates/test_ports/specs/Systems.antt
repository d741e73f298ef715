-- A system in memory: what is left of its script, and which calls it was asked for, in order.
use Rattle.std.specs.Prelude.{◌≡◌, ◌⊎◌, ◌^◌, ⊤, ℕ, min, take, drop, length, Bool, false, List, [], ◌∷◌, ◌++◌, Option, Some, None, Result, Ok, Err}
use Rattle.std.specs.declared.io.ErrorKind.{ErrorKind}
use Rattle.std.specs.declared.io.ErrorKind.TheVariants.{WouldBlock, OutOfMemory}
use Rattle.std.specs.declared.net.socket_addr.SocketAddr.{SocketAddr}
use Rattle.test_ports.specs.declared.systems.Call.{Call}
use Rattle.test_ports.specs.declared.systems.Call.TheVariants as call

pub record System : Type 0 where
  pub reads : List (Result (List ℕ × SocketAddr) ErrorKind)
  pub arrivals : List Bool
  pub sends : List (Result ⊤ ErrorKind)
  pub moments : List ℕ
  pub draws : List ℕ
  pub calls : List Call

-- the first of a list, or this if the list is empty
abbrev pub first_or : {A : Type 0} → A → List A → A
first_or other [] = other
first_or other (x ∷ xs) = x

abbrev pub first_of : {A : Type 0} → List A → Option A
first_of [] = None
first_of (x ∷ xs) = Some x

abbrev pub noted : System → Call → System
noted s c = record s { calls = s.calls ++ c ∷ [] }

-- It answered this and was left in this state, or there was no memory to note the call, and nothing
-- changed.
abbrev pub Answers : {T : Type 0} → System → T → System → T → T → System → Type 0
Answers s answer after lost r t = ((r ≡ answer) × (t ≡ after)) ⊎ ((r ≡ lost) × (t ≡ s))

-- it can always be made to wait, or not to
abbrev pub Sets : System → Bool → Result ⊤ ErrorKind → System → Type 0
Sets s waits = Answers s (Ok tt) (noted s (call.Sets waits)) (Err OutOfMemory)

-- a datagram is cut to the room
abbrev pub cut_to : ℕ → Result (List ℕ × SocketAddr) ErrorKind
    → Result (List ℕ × SocketAddr) ErrorKind
cut_to room (Ok d) = Ok (take room d.0, d.1)
cut_to room (Err k) = Err k

-- the next read of the script; nothing is there after the last
abbrev pub Receives : System → ℕ → Result (List ℕ × SocketAddr) ErrorKind → System → Type 0
Receives s room = Answers s (cut_to room (first_or (Err WouldBlock) s.reads))
    (noted (record s { reads = drop 1 s.reads }) (call.Receives room)) (Err OutOfMemory)

-- nothing comes after the last arrival of the script
abbrev pub Awaits : System → ℕ → Result Bool ErrorKind → System → Type 0
Awaits s millis = Answers s (Ok (first_or false s.arrivals))
    (noted (record s { arrivals = drop 1 s.arrivals }) (call.Awaits millis)) (Err OutOfMemory)

-- all bytes go
abbrev pub whole : List ℕ → Result ⊤ ErrorKind → Result ℕ ErrorKind
whole bytes (Ok u) = Ok (length bytes)
whole bytes (Err k) = Err k

-- the next send of the script; all bytes go after the last
abbrev pub Sends : System → List ℕ → SocketAddr → Result ℕ ErrorKind → System → Type 0
Sends s bytes to = Answers s (whole bytes (first_or (Ok tt) s.sends))
    (noted (record s { sends = drop 1 s.sends }) (call.Sends bytes to)) (Err OutOfMemory)

-- a moment is at most 2^62
abbrev pub at_most : Option ℕ → Option ℕ
at_most None = None
at_most (Some now) = Some (min now (2 ^ 62))

-- the clock can't be read after the last moment of the script
abbrev pub Shows : System → Option ℕ → System → Type 0
Shows s = Answers s (at_most (first_of s.moments))
    (noted (record s { moments = drop 1 s.moments }) call.Shows) None

-- 0 after the last draw of the script
abbrev pub Draws : System → ℕ → System → Type 0
Draws s = Answers s (first_or 0 s.draws)
    (noted (record s { draws = drop 1 s.draws }) call.Draws) 0
