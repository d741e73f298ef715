-- What is known about a port over a socket.
use Rattle.std.specs.Prelude.{◌≡◌, ◌≤◌, ◌+◌, ◌^◌, ◌==◌, ⊤, ℕ, List, [], Bool, true, false, Option, Result, Ok, Err}
use Rattle.std.specs.IoError.{error_kind}
use Rattle.std.specs.declared.io.Error.{Error}
use Rattle.std.specs.declared.io.ErrorKind.{ErrorKind}
use Rattle.std.specs.declared.net.socket_addr.SocketAddr.{SocketAddr}
use Rattle.coap_model.specs.Events.{Event, tick}
use Rattle.coap_model.specs.Runs.{Turn}
use Rattle.coap_endpoint.specs.declared.endpoint.Endpoint.{Endpoint}
use Rattle.coap_endpoint.specs.declared.endpoint.Ip.{Ip}
use Rattle.coap_endpoint.specs.declared.endpoint.Ip.TheVariants.{V4, V6}
use Rattle.coap_udp.specs.Systems.{IsEvent, IsFrom, IsTo, ReadsBy, SendsWhole, ends}
use Rattle.coap_udp.specs.Values.{draw_of, moment_after, read_waits, rest_of}

-- its socket, clock and generator, whether the calls of the socket wait, whether its socket is an
-- IPv6 socket, whether anything was handed over since its last read, its last moment in
-- milliseconds, and how often it failed
pub record Udp (S : Type 0) : Type 0 where
  pub system : S
  pub waiting : Bool
  pub is_ipv6 : Bool
  pub handed : Bool
  pub last : ℕ
  pub failures : ℕ

abbrev pub is_of_ipv6 : Ip → Bool
is_of_ipv6 (V4 octets) = false
is_of_ipv6 (V6 octets) = true

-- a new port
abbrev pub port_over : {S : Type 0} → S → Bool → Udp S
port_over system is_ipv6 = record {
  system = system;
  waiting = true;
  is_ipv6 = is_ipv6;
  handed = false;
  last = 0;
  failures = 0;
}

-- the port at a local address
abbrev pub new_port : {S : Type 0} → S → Endpoint → Udp S
new_port system local = port_over system (is_of_ipv6 local.ip)

-- what a buffer holds after a read, and the source that the read gives
abbrev pub IsRead : Result (List ℕ × SocketAddr) ErrorKind → Result Endpoint Error → List ℕ
    → Type 0
IsRead (Ok d) (Ok from) bytes = IsFrom d.1 from × (bytes ≡ d.0)
IsRead (Ok d) (Err e) bytes = ⊥
IsRead (Err k) (Ok from) bytes = ⊥
IsRead (Err k) (Err e) bytes = (error_kind e ≡ k) × (bytes ≡ [])

module _ {S : Type 0} (sets : S → Bool → Result ⊤ ErrorKind → S → Type 0)
    (receives : S → ℕ → Result (List ℕ × SocketAddr) ErrorKind → S → Type 0)
    (awaits : S → ℕ → Result Bool ErrorKind → S → Type 0) where
  -- what a read into this much room does that was asked to wait this many milliseconds: what it
  -- reads, its system, and whether its socket waits from then on
  abbrev pub ReadsFor : ℕ → Udp S → ℕ → Result (List ℕ × SocketAddr) ErrorKind → S → Bool → Type 0
  ReadsFor room p wait r t now = ReadsBy sets receives awaits p.system p.waiting (read_waits wait)
      room (rest_of wait p.handed) r t now

  abbrev pub ReadsInto : ℕ → Udp S → ℕ → Result Endpoint Error → List ℕ → Udp S → Type 0
  ReadsInto room p wait result bytes q = (r : Result (List ℕ × SocketAddr) ErrorKind)
      × ReadsFor room p wait r q.system q.waiting × IsRead r result bytes

  -- it ended, by a read into this much room that failed for good
  pub record EndsBy (room : ℕ) (p : Udp S) (wait : ℕ) (q : Udp S) : Type 0 where
    pub read : Result (List ℕ × SocketAddr) ErrorKind
    pub reads : ReadsFor room p wait read q.system q.waiting
    pub ends : ends read ≡ true
    pub left : q
        ≡ record p { system = q.system; waiting = q.waiting; failures = p.failures + 1 }

  -- the state after a read: whether its socket waits; nothing was handed over since
  abbrev pub after_read : Udp S → S → Bool → Udp S
  after_read p system waiting =
      record p { system = system; waiting = waiting; handed = false }

  -- a read for a buffer with this room led to this event
  pub record Arrives (room : ℕ) (p : Udp S) (wait : ℕ) (event : Event) (q : Udp S) : Type 0 where
    pub read : Result (List ℕ × SocketAddr) ErrorKind
    pub reads : ReadsFor room p wait read q.system q.waiting
    pub given : IsEvent read event
    pub left : q ≡ after_read p q.system q.waiting

-- the moment is still the last one, and the draw is drawn now
abbrev pub IsDrawn : {S : Type 0} → (S → ℕ → S → Type 0) → Udp S → ℕ → ℕ → Udp S → Type 0
IsDrawn draws p now draw q = (number : ℕ) × draws p.system number q.system
    × (now ≡ p.last) × (draw ≡ draw_of number) × (q ≡ record p { system = q.system })

module _ {S : Type 0} (shows : S → Option ℕ → S → Type 0) (draws : S → ℕ → S → Type 0) where
  -- the moment is what the clock shows now, and the draw is drawn now
  abbrev pub IsTimed : Udp S → ℕ → ℕ → Udp S → Type 0
  IsTimed p now draw q = (shown : Option ℕ) × (number : ℕ) × (m : S)
      × shows p.system shown m × draws m number q.system
      × (now ≡ moment_after p.last shown) × (draw ≡ draw_of number)
      × (q ≡ record p { system = q.system; last = now })

module _ {S : Type 0} (sets : S → Bool → Result ⊤ ErrorKind → S → Type 0)
    (receives : S → ℕ → Result (List ℕ × SocketAddr) ErrorKind → S → Type 0)
    (awaits : S → ℕ → Result Bool ErrorKind → S → Type 0)
    (shows : S → Option ℕ → S → Type 0) (draws : S → ℕ → S → Type 0) where
  -- without a wait (`true`) a tick at the last moment; otherwise what was read, and then the
  -- moment and the draw
  abbrev pub GivesBy : Bool → ℕ → Udp S → ℕ → Turn → Udp S → Type 0
  GivesBy true room p wait t q = (t.event ≡ tick) × IsDrawn draws p t.now t.draw q
  GivesBy false room p wait t q = (m : Udp S)
      × Arrives sets receives awaits room p wait t.event m × IsTimed shows draws m t.now t.draw q

  -- What is known about a turn of a socket, for a buffer with this room.
  pub record Gives (room : ℕ) (p : Udp S) (wait : ℕ) (t : Turn) (q : Udp S) : Type 0 where
    pub onward : p.last ≤ t.now
    pub moment : t.now ≤ 2 ^ 62
    pub draw : t.draw ≤ 1000
    pub ticks : wait ≡ 0 → t.event ≡ tick
    pub by : GivesBy (wait == 0) room p wait t q
    pub left : q ≡ record p {
      system = q.system;
      waiting = q.waiting;
      handed = q.handed;
      last = t.now;
    }

-- what was handed to the socket: these bytes, for the address of the endpoint
abbrev pub Takes : {S : Type 0} → (S → Bool → Result ⊤ ErrorKind → S → Type 0)
    → (S → List ℕ → SocketAddr → Result ℕ ErrorKind → S → Type 0) → Udp S → Endpoint → List ℕ
    → Bool → Udp S → Type 0
Takes sets sends p to bytes went q = (a : SocketAddr) × IsTo p.is_ipv6 to a
    × SendsWhole sets sends p.system p.waiting bytes a went q.system q.waiting
    × (q ≡ record p { system = q.system; waiting = q.waiting; handed = true })
