-- Lines that are events: `MOMENT DRAW FROM HEX`, and `MOMENT DRAW tick`.
use Rattle.std.specs.Prelude.{◌≡◌, ℕ, ◌^◌, ◌≤◌, nat_le, false, List, [], ◌∷◌, ◌++◌, codes, Option, Some, None, if◌then◌else◌}
use Rattle.std.specs.Fmt.{decimal}
use Rattle.std.specs.Str.{bytes_eq}
use Rattle.coap_message.specs.Uint.{IsBytes}
use Rattle.coap_uri.specs.Address.{IsIp}
use Rattle.coap_model.specs.Events.{Event, event_given}
use Rattle.coap_model.specs.Events.Event.{arrival, tick}
use Rattle.coap_model.specs.Runs.{Turn}
use Rattle.coap_lines.specs.declared.reading.turn.Turn.{Turn as TurnRead}
use Rattle.coap_message.specs.Reading.{◌>>=◌}
use Rattle.coap_lines.specs.Texts.{cut, has, line_feed, space}
use Rattle.coap_lines.specs.Numbers.{IsNumber, number_of}
use Rattle.coap_lines.specs.Endpoints.{IsEndpoint, endpoint_of, endpoint_text}
use Rattle.coap_lines.specs.Datagrams.{IsHex, bytes_read, hex_text}
use Rattle.coap_lines.specs.Lines.{is_skipped, is_too_long}

-- the greatest moment, in milliseconds, and the greatest line number
abbrev pub greatest : ℕ
greatest = 2 ^ 62

-- a text encodes an event: a tick, or a datagram with its source
abbrev pub IsEventText : List ℕ → Event → Type 0
IsEventText text tick = text ≡ codes "tick"
IsEventText text (arrival from bytes) = (source hex : List ℕ)
    × (text ≡ source ++ space ∷ hex) × IsEndpoint source from × IsHex hex bytes

-- A line encodes a turn after the moment `last`: a moment, a draw and an event, separated by single
-- spaces.
abbrev pub IsTurnLine : ℕ → List ℕ → Turn → Type 0
IsTurnLine last line turn = (moment draw what : List ℕ)
    × (line ≡ moment ++ space ∷ draw ++ space ∷ what)
    × IsNumber greatest moment turn.now × (last ≤ turn.now)
    × IsNumber 1000 draw turn.draw × IsEventText what turn.event

-- the datagram that a text encodes
unfoldable pub arrival_of : List ℕ → Option Event
arrival_of text = do
  parts ← cut space text
  from ← endpoint_of parts.0
  bytes ← bytes_read parts.1
  Some (arrival from bytes)

-- the event that a text encodes
unfoldable pub event_of : List ℕ → Option Event
event_of text = if bytes_eq text (codes "tick") then Some tick else arrival_of text

abbrev pub turn_at : ℕ → ℕ → Event → Turn
turn_at now draw event = record { now = now; draw = draw; event = event }

-- the turn, if its moment isn't below `last`
abbrev pub not_before : ℕ → Turn → Option Turn
not_before last turn = if nat_le last turn.now then Some turn else None

-- the turn that a line encodes, after the moment `last`
unfoldable pub turn_of : ℕ → List ℕ → Option Turn
turn_of last line = do
  first ← cut space line
  second ← cut space first.1
  now ← number_of greatest first.0
  draw ← number_of 1000 second.0
  event ← event_of second.1
  not_before last (turn_at now draw event)

-- what was read, as the model sees it, with the bytes that were put into the buffer
abbrev pub turn_seen : TurnRead → List ℕ → Turn
turn_seen turn bytes = turn_at turn.now turn.draw (event_given turn.from bytes)

-- ---- as they are written

abbrev pub event_text : Event → List ℕ
event_text (arrival from bytes) = endpoint_text from ++ codes " " ++ hex_text bytes
event_text tick = codes "tick"

-- the line of a turn, without its line feed
unfoldable pub turn_text : Turn → List ℕ
turn_text turn =
    decimal turn.now ++ codes " " ++ decimal turn.draw ++ codes " " ++ event_text turn.event

abbrev pub turn_line : Turn → List ℕ
turn_line turn = turn_text turn ++ line_feed ∷ []

-- a datagram consists of bytes, and its source has an address and a port
abbrev pub IsSourced : Event → Type 0
IsSourced (arrival from bytes) = IsIp from.ip × (from.port ≤ 65535) × IsBytes bytes
IsSourced tick = Unit {0}

-- a turn that a line can encode after the moment `last`
pub record IsSayable (last : ℕ) (turn : Turn) : Type 0 where
  pub onward : last ≤ turn.now
  pub moment : turn.now ≤ greatest
  pub draw : turn.draw ≤ 1000
  pub event : IsSourced turn.event

-- a line of an input that is read as this turn after the moment `last`
pub record IsReadAs (last : ℕ) (line : List ℕ) (turn : Turn) : Type 0 where
  pub one : has line_feed line ≡ false
  pub short : is_too_long line ≡ false
  pub counts : is_skipped line ≡ false
  pub says : turn_of last line ≡ Some turn
