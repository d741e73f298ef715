-- What is read of a line in one pass is the turn that it encodes.
use Rattle.std.proofs.Common.{◌≡◌, ℕ, List, Option, Some, None, refl}
use Rattle.coap_endpoint.specs.declared.endpoint.Endpoint.{Endpoint}
use Rattle.coap_message.specs.Reading.{◌>>=◌}
use Rattle.coap_model.specs.Events.Event.{arrival}
use Rattle.coap_lines.specs.Texts.{cut}
use Rattle.coap_lines.specs.Numbers.{number_before, number_of}
use Rattle.coap_lines.specs.Endpoints.{endpoint_of, source_of}
use Rattle.coap_lines.specs.Datagrams.{bytes_read}
use Rattle.coap_lines.specs.Turns.{arrival_of, event_of, greatest, not_before, turn_at, turn_of}
use Rattle.coap_lines.proofs.Sources.{source_of-cut}

-- the source that was read, and what follows it
abbrev source_given : List ℕ → Endpoint → Option (Endpoint × List ℕ)
source_given rest from = Some (from, rest)

-- the number that was read, and what follows it
abbrev number_given : List ℕ → ℕ → Option (ℕ × List ℕ)
number_given rest n = Some (n, rest)

-- a datagram, by the source before its bytes
pub arrival_of-read : (text : List ℕ) → arrival_of text ≡ (source_of text >>= λ found. bytes_read found.1 >>= λ bytes. Some (arrival found.0 bytes))
unfolding arrival_of
arrival_of-read text = rw (source_of-cut text) (go (cut 32 text))
  where
    go : (p : Option (List ℕ × List ℕ)) → (p >>= λ parts. endpoint_of parts.0 >>= λ from. bytes_read parts.1 >>= λ bytes. Some (arrival from bytes)) ≡ ((p >>= λ parts. endpoint_of parts.0 >>= λ from. source_given parts.1 from) >>= λ found. bytes_read found.1 >>= λ bytes. Some (arrival found.0 bytes))
    go None = refl
    go (Some (source, hex)) = read (endpoint_of source)
      where
        read : (e : Option Endpoint) → (e >>= λ from. bytes_read hex >>= λ bytes. Some (arrival from bytes)) ≡ ((e >>= λ from. source_given hex from) >>= λ found. bytes_read found.1 >>= λ bytes. Some (arrival found.0 bytes))
        read None = refl
        read (Some from) = refl

-- a turn, by the numbers before its event
pub turn_of-read : (last : ℕ) (line : List ℕ) → turn_of last line ≡ (number_before 32 greatest line >>= λ first. number_before 32 1000 first.1 >>= λ second. event_of second.1 >>= λ event. not_before last (turn_at first.0 second.0 event))
unfolding turn_of number_before
turn_of-read last line = go (cut 32 line)
  where
    go : (p : Option (List ℕ × List ℕ)) → (p >>= λ first. cut 32 first.1 >>= λ second. number_of greatest first.0 >>= λ now. number_of 1000 second.0 >>= λ draw. event_of second.1 >>= λ event. not_before last (turn_at now draw event)) ≡ ((p >>= λ parts. number_of greatest parts.0 >>= λ n. number_given parts.1 n) >>= λ first. (cut 32 first.1 >>= λ parts. number_of 1000 parts.0 >>= λ n. number_given parts.1 n) >>= λ second. event_of second.1 >>= λ event. not_before last (turn_at first.0 second.0 event))
    go None = refl
    go (Some (moment, rest)) = parted (cut 32 rest) refl (number_of greatest moment)
      where
        parted : (q : Option (List ℕ × List ℕ)) → cut 32 rest ≡ q → (n : Option ℕ) → (cut 32 rest >>= λ second. n >>= λ now. number_of 1000 second.0 >>= λ draw. event_of second.1 >>= λ event. not_before last (turn_at now draw event)) ≡ ((n >>= λ now. number_given rest now) >>= λ first. (cut 32 first.1 >>= λ parts. number_of 1000 parts.0 >>= λ n. number_given parts.1 n) >>= λ second. event_of second.1 >>= λ event. not_before last (turn_at first.0 second.0 event))
        parted None is None = rw is refl
        parted None is (Some now) = rw is refl
        parted (Some (draw, what)) is None = rw is refl
        parted (Some (draw, what)) is (Some now) = rw is (read (number_of 1000 draw))
          where
            read : (d : Option ℕ) → (d >>= λ draw. event_of what >>= λ event. not_before last (turn_at now draw event)) ≡ ((d >>= λ n. number_given what n) >>= λ second. event_of second.1 >>= λ event. not_before last (turn_at now second.0 event))
            read None = refl
            read (Some draw) = refl
