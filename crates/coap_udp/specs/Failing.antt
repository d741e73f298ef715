-- Which errors of a socket are transient.
use Rattle.std.specs.Prelude.{Bool, true, false}
use Rattle.std.specs.declared.io.ErrorKind.{ErrorKind}
use Rattle.std.specs.declared.io.ErrorKind.TheVariants.{WouldBlock, TimedOut, Interrupted, ConnectionRefused, ConnectionReset, ConnectionAborted, HostUnreachable, NetworkUnreachable, NetworkDown, OutOfMemory}

-- A read that failed with this error says nothing about the next one: nothing came in time, it was
-- interrupted, an earlier datagram found no listener or no route, or the system ran out of memory.
abbrev pub is_transient : ErrorKind → Bool
is_transient WouldBlock = true
is_transient TimedOut = true
is_transient Interrupted = true
is_transient ConnectionRefused = true
is_transient ConnectionReset = true
is_transient ConnectionAborted = true
is_transient HostUnreachable = true
is_transient NetworkUnreachable = true
is_transient NetworkDown = true
is_transient OutOfMemory = true
is_transient _ = false
