-- What the program does for its plan, and how it ends.
use Rattle.std.specs.Prelude.{◌≡◌, ◌⊎◌, ℕ, min, Bool, List, [], Option, Result, Ok, Err}
use Rattle.std.specs.Io.KnownBytes.{Appends}
use Rattle.std.specs.Option.{unwrap_or}
use Rattle.coap_model.specs.Runs.{Turn}
use Rattle.coap_model.specs.State.{State, counts}
use Rattle.coap_model.specs.declared.report.Counts.{Counts}
use Rattle.coap_port.specs.Driven as port
use Rattle.coap_port.specs.declared.error.DriveError.{DriveError}
use Rattle.coap_port.specs.declared.stats.Stats.{Stats}
use Rattle.coap_endpoint.specs.declared.endpoint.Endpoint.{Endpoint}
use Rattle.coap_replay.specs.declared.error.ReplayError.{ReplayError}
use Rattle.coap_core.specs.Told.{Told}
use Rattle.coap_replay.specs.Watched as replay
use Rattle.coap_proxyd.specs.declared.fault.Fault.{Fault}
use Rattle.coap_proxyd.specs.declared.fault.Fault.TheVariants.{OutOfMemory}
use Rattle.coap_proxyd.specs.declared.planning.Plan.{Plan}
use Rattle.coap_proxyd.specs.Faults.{drive_fault, replay_fault}
use Rattle.coap_replay.specs.Replays.{IsReplayed}

-- the number of turns in a plan: 2^63 - 1 if it has none, and never more
abbrev pub turns_of : Plan → ℕ
turns_of plan = min (unwrap_or plan.turns 9223372036854775807) 9223372036854775807

-- ---- over an input

-- how the program ends after a replay
abbrev pub ended_as : Result ℕ ReplayError → Result (Unit {0}) Fault
ended_as (Ok count) = Ok tt
ended_as (Err e) = Err (replay_fault e)

-- a replay by that proxy, of at most `turns` turns; or memory ran out before it, and nothing was
-- written
abbrev pub IsServed : ℕ → State → Option (List ℕ) → Option (List ℕ) → Option (List ℕ)
    → Result (Unit {0}) Fault → Type 0
IsServed turns proxy input old new result = ((result ≡ Err OutOfMemory) × Appends old new [])
    ⊎ ((after : State) × (left : Option (List ℕ)) × (replayed : Result ℕ ReplayError)
    × IsReplayed proxy after turns input left old new replayed × (result ≡ ended_as replayed))

-- a watcher was told of turns of that proxy, in order, from its first one on, by a replay that
-- ended somehow
abbrev pub IsTold : {V : Type 0} → (V → Told → V → Type 0) → State → V → V → Type 0
IsTold sees proxy a b = (after : State) × (replayed : Result ℕ ReplayError)
    × replay.EndsTold sees proxy a after b replayed

-- ---- over a port

-- how the program ends after a loop over a port
abbrev pub driven_as : Result Stats DriveError → Result (Unit {0}) Fault
driven_as (Ok stats) = Ok tt
driven_as (Err e) = Err (drive_fault e)

-- that proxy is driven over the port for `turns` turns; or there was no memory for the proxy, and
-- nothing was done
abbrev pub IsServedOver : {P : Type 0} → (P → ℕ → Turn → P → Type 0)
    → (P → Endpoint → List ℕ → Bool → P → Type 0) → (P → ℕ) → (P → ℕ) → ℕ → State → P → P
    → Result (Unit {0}) Fault → Type 0
IsServedOver gives takes clock failures turns proxy p q result =
    ((result ≡ Err OutOfMemory) × (q ≡ p))
    ⊎ ((after : State) × (driven : Result Stats DriveError)
    × port.Ends gives takes clock failures turns proxy p after q driven
    × (result ≡ driven_as driven))

-- ---- over a port, with a watcher

-- how it ends, with how much the proxy holds then
abbrev pub counted_as : State → Result Stats DriveError → Result Counts Fault
counted_as after (Ok stats) = Ok (counts after)
counted_as after (Err e) = Err (drive_fault e)

-- the same, and the watcher was told each turn; or nothing was done, and it was told nothing
abbrev pub IsWatchedOver : {P W : Type 0} → (P → ℕ → Turn → P → Type 0)
    → (P → Endpoint → List ℕ → Bool → P → Type 0) → (W → Told → W → Type 0) → (P → ℕ) → (P → ℕ)
    → ℕ → State → P → W → P → W → Result Counts Fault → Type 0
IsWatchedOver gives takes sees clock failures turns proxy p a q b result =
    ((result ≡ Err OutOfMemory) × (q ≡ p) × (b ≡ a))
    ⊎ ((after : State) × (driven : Result Stats DriveError)
    × port.EndsWatched gives takes sees clock failures turns proxy p a after q b driven
    × (result ≡ counted_as after driven))
