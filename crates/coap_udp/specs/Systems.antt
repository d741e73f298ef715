-- What a port does with a socket, a clock and a generator.
use Rattle.std.specs.Prelude.{◌≡◌, ◌==◌, ◌&&◌, nat_lt, not, ⊤, ℕ, take, length, List, Bool, true, false, Result, Ok, Err}
use Rattle.std.specs.Bool.{beq}
use Rattle.std.specs.IoError.{error_kind}
use Rattle.std.specs.Net.Socket.{socket_ip, socket_port}
use Rattle.std.specs.declared.io.Error.{Error}
use Rattle.std.specs.declared.io.ErrorKind.{ErrorKind}
use Rattle.std.specs.declared.io.ErrorKind.TheVariants.{WouldBlock}
use Rattle.std.specs.declared.net.socket_addr.SocketAddr.{SocketAddr}
use Rattle.coap_endpoint.specs.declared.endpoint.Endpoint.{Endpoint}
use Rattle.coap_model.specs.Events.{Event, arrival, tick}
use Rattle.coap_udp.specs.Addresses.{IsAddress, IsEndpoint}
use Rattle.coap_udp.specs.Failing.{is_transient}

-- what is known of an answer of the system: the kind of an error, and not its text
abbrev pub kind_of : {T : Type 0} → Result T Error → Result T ErrorKind
kind_of (Ok x) = Ok x
kind_of (Err e) = Err (error_kind e)

-- what was read into a buffer that holds these bytes now
abbrev pub read_of : Result (ℕ × SocketAddr) Error → List ℕ → Result (List ℕ × SocketAddr) ErrorKind
read_of (Ok r) bytes = Ok (take r.0 bytes, r.1)
read_of (Err e) bytes = Err (error_kind e)

abbrev pub is_would_block : ErrorKind → Bool
is_would_block WouldBlock = true
is_would_block _ = false

-- nothing was there, or there was no room
abbrev pub would_block : {T : Type 0} → Result T Error → Bool
would_block (Ok x) = false
would_block (Err e) = is_would_block (error_kind e)

abbrev pub blocks : {T : Type 0} → Result T ErrorKind → Bool
blocks (Ok x) = false
blocks (Err k) = is_would_block k

module _ {S : Type 0} (receives : S → ℕ → Result (List ℕ × SocketAddr) ErrorKind → S → Type 0)
    (awaits : S → ℕ → Result Bool ErrorKind → S → Type 0) where
  -- after a wait in which one came it reads once more
  abbrev pub ReadsAgain : S → ℕ → Result Bool ErrorKind → Result (List ℕ × SocketAddr) ErrorKind
      → Result (List ℕ × SocketAddr) ErrorKind → S → Type 0
  ReadsAgain s room (Ok true) first r t = receives s room r t
  ReadsAgain s room (Ok false) first r t = (r ≡ first) × (t ≡ s)
  ReadsAgain s room (Err k) first r t = (r ≡ Err k) × (t ≡ s)

  -- where nothing was there (`true`) it waits; otherwise what it has read is what it reads
  abbrev pub ReadsOn : Bool → Result (List ℕ × SocketAddr) ErrorKind → S → ℕ → ℕ
      → Result (List ℕ × SocketAddr) ErrorKind → S → Type 0
  ReadsOn true first s room rest r t =
      (w : Result Bool ErrorKind) × (m : S) × awaits s rest w m × ReadsAgain m room w first r t
  ReadsOn false first s room rest r t = (r ≡ first) × (t ≡ s)

  -- a read into this much room, which waits this many milliseconds after nothing was there
  pub record Reads (s : S) (room rest : ℕ) (r : Result (List ℕ × SocketAddr) ErrorKind) (t : S)
      : Type 0 where
    pub first : Result (List ℕ × SocketAddr) ErrorKind
    pub middle : S
    pub received : receives s room first middle
    pub on : ReadsOn (nat_lt 0 rest && blocks first) first middle room rest r t

module _ {S : Type 0} (sets : S → Bool → Result ⊤ ErrorKind → S → Type 0) where
  -- what is noted of a socket after a call that was to make it wait, or not to
  abbrev pub noted : Bool → Bool → Result ⊤ ErrorKind → Bool
  noted waiting waits (Ok u) = waits
  noted waiting waits (Err k) = waiting

  abbrev pub SetsTo : Bool → S → Bool → Bool → Result ⊤ ErrorKind → S → Bool → Type 0
  SetsTo true s waiting waits r t now = (r ≡ Ok tt) × (t ≡ s) × (now ≡ waiting)
  SetsTo false s waiting waits r t now = sets s waits r t × (now ≡ noted waiting waits r)

  -- a socket that waits, or doesn't, is made to wait, or not to; no call is made where it does so
  abbrev pub Sets : S → Bool → Bool → Result ⊤ ErrorKind → S → Bool → Type 0
  Sets s waiting waits r t now = SetsTo (beq waiting waits) s waiting waits r t now

module _ {S : Type 0} (sets : S → Bool → Result ⊤ ErrorKind → S → Type 0)
    (sends : S → List ℕ → SocketAddr → Result ℕ ErrorKind → S → Type 0) where
  -- once it waits it sends once more
  abbrev pub SendsAgain : S → List ℕ → SocketAddr → Result ⊤ ErrorKind → Result ℕ ErrorKind → S
      → Type 0
  SendsAgain s bytes to (Ok u) r t = sends s bytes to r t
  SendsAgain s bytes to (Err k) r t = (r ≡ Err k) × (t ≡ s)

  -- where there was no room and it hasn't waited (`true`) it is made to wait
  abbrev pub SendsOn : Bool → Result ℕ ErrorKind → S → Bool → List ℕ → SocketAddr
      → Result ℕ ErrorKind → S → Bool → Type 0
  SendsOn true first s waiting bytes to r t now = (w : Result ⊤ ErrorKind) × (m : S)
      × Sets sets s waiting true w m now × SendsAgain m bytes to w r t
  SendsOn false first s waiting bytes to r t now = (r ≡ first) × (t ≡ s) × (now ≡ waiting)

  -- a datagram is sent, by a socket that waits or doesn't
  pub record Sends (s : S) (waiting : Bool) (bytes : List ℕ) (to : SocketAddr)
      (r : Result ℕ ErrorKind) (t : S) (now : Bool) : Type 0 where
    pub first : Result ℕ ErrorKind
    pub middle : S
    pub sent : sends s bytes to first middle
    pub on : SendsOn (not waiting && blocks first) first middle waiting bytes to r t now

module _ {S : Type 0} (sets : S → Bool → Result ⊤ ErrorKind → S → Type 0)
    (receives : S → ℕ → Result (List ℕ × SocketAddr) ErrorKind → S → Type 0)
    (awaits : S → ℕ → Result Bool ErrorKind → S → Type 0) where
  -- once the socket waits as it is to, it is read
  abbrev pub ReadsSet : S → ℕ → ℕ → Result ⊤ ErrorKind → Result (List ℕ × SocketAddr) ErrorKind
      → S → Type 0
  ReadsSet s room rest (Ok u) r t = Reads receives awaits s room rest r t
  ReadsSet s room rest (Err k) r t = (r ≡ Err k) × (t ≡ s)

  -- A read into this much room, of a socket that waits or doesn't, and that is to wait or not to:
  -- what it reads, and whether the socket waits from then on.
  pub record ReadsBy (s : S) (waiting waits : Bool) (room rest : ℕ)
      (r : Result (List ℕ × SocketAddr) ErrorKind) (t : S) (now : Bool) : Type 0 where
    pub answer : Result ⊤ ErrorKind
    pub middle : S
    pub made : Sets sets s waiting waits answer middle now
    pub read : ReadsSet middle room rest answer r t

-- the whole datagram went
abbrev pub is_whole : List ℕ → Result ℕ ErrorKind → Bool
is_whole bytes (Ok count) = count == length bytes
is_whole bytes (Err k) = false

module _ {S : Type 0} (sets : S → Bool → Result ⊤ ErrorKind → S → Type 0)
    (sends : S → List ℕ → SocketAddr → Result ℕ ErrorKind → S → Type 0) where
  -- a datagram is sent, and went or not
  pub record SendsWhole (s : S) (waiting : Bool) (bytes : List ℕ) (to : SocketAddr) (went : Bool)
      (t : S) (now : Bool) : Type 0 where
    pub answer : Result ℕ ErrorKind
    pub sent : Sends sets sends s waiting bytes to answer t now
    pub whole : went ≡ is_whole bytes answer

-- the source of what was read is this endpoint
abbrev pub IsFrom : SocketAddr → Endpoint → Type 0
IsFrom a e = IsEndpoint (socket_ip a) e.ip × (e.port ≡ socket_port a)

-- an endpoint's address for such a socket
abbrev pub IsTo : Bool → Endpoint → SocketAddr → Type 0
IsTo is_ipv6 e a = IsAddress is_ipv6 e.ip (socket_ip a) × (socket_port a ≡ e.port)

-- The event of a read: a datagram from its source, or a tick where the error is transient.
abbrev pub IsEvent : Result (List ℕ × SocketAddr) ErrorKind → Event → Type 0
IsEvent (Ok d) (arrival from bytes) = IsFrom d.1 from × (bytes ≡ d.0)
IsEvent (Ok d) tick = ⊥
IsEvent (Err k) (arrival from bytes) = ⊥
IsEvent (Err k) tick = is_transient k ≡ true

-- whether a read ends a port
abbrev pub ends : Result (List ℕ × SocketAddr) ErrorKind → Bool
ends (Ok d) = false
ends (Err k) = not (is_transient k)
