-- What the values mean that the system gives, and how long a port waits.
use Rattle.std.specs.Prelude.{ℕ, ◌-◌, ◌+◌, ◌/◌, ◌%◌, ◌^◌, ◌||◌, min, max, nat_le, nat_lt, Bool, not, Option, Some, None, Result, Ok, Err, if◌then◌else◌}
use Rattle.std.specs.IoError.{error_kind}
use Rattle.std.specs.Time.{instant_nanos}
use Rattle.std.specs.declared.io.Error.{Error}
use Rattle.std.specs.declared.time.Instant.{Instant}
use Rattle.coap_endpoint.specs.declared.endpoint.Endpoint.{Endpoint}
use Rattle.coap_port.specs.declared.error.PortFault.{PortFault}
use Rattle.coap_udp.specs.Failing.{is_transient}

-- a draw is at most 1,000 ms
abbrev pub draw_of : ℕ → ℕ
draw_of number = number % 1001

-- the whole milliseconds between two instants, at most 2^62
abbrev pub millis_between : Instant → Instant → ℕ
millis_between start now = min ((instant_nanos now - instant_nanos start) / 1000000) (2 ^ 62)

-- what the clock shows, but never a moment before the last one
abbrev pub moment_after : ℕ → Option ℕ → ℕ
moment_after last None = last
moment_after last (Some now) = max now last

-- a transient error is no datagram, and any other ends the port
abbrev pub turn_of_read : Result Endpoint Error → Result (Option Endpoint) PortFault
turn_of_read (Ok from) = Ok (Some from)
turn_of_read (Err e) = if is_transient (error_kind e) then Ok None else Err (record {})

-- For a wait of at least eight milliseconds the read itself waits.
abbrev pub read_waits : ℕ → Bool
read_waits wait = nat_le 8 wait

-- For how long a port waits after a read that gave nothing. A read that waits takes at least four
-- milliseconds. With a wait of one there is no other if anything was handed over since the last
-- read: then something more may be due already.
abbrev pub rest_of : ℕ → Bool → ℕ
rest_of wait handed =
    if read_waits wait then wait - 4 else (if nat_lt 1 wait || not handed then wait else 0)
