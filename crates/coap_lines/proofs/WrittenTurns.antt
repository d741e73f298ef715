-- The lines of turns: what is written is read back.
use Rattle.std.proofs.Common.{◌≡◌, ℕ, suc, ◌+◌, ◌%◌, ◌≤◌, ◌<◌, ◌^◌, false, List, [], ◌∷◌, ◌++◌, length, codes, refl, ap, ◌∙◌, arith, lit<, lit≤, append_assoc}
use Rattle.std.specs.Fmt.{decimal}
use Rattle.std.specs.List.{AllByRecursion}
use Rattle.std.proofs.lemmas.Bool.{le-ltb, ne_eqb}
use Rattle.std.proofs.lemmas.Fmt.{decimal_by_steps}
use Rattle.std.proofs.lemmas.List.Folds.{list_any-append}
use Rattle.coap_message.specs.Uint.{IsBytes}
use Rattle.coap_endpoint.specs.declared.endpoint.Endpoint.{Endpoint}
use Rattle.coap_model.specs.Events.{Event}
use Rattle.coap_model.specs.Events.Event.{arrival, tick}
use Rattle.coap_model.specs.Runs.{Turn}
use Rattle.coap_lines.specs.Datagrams.{IsHex, hex_text}
use Rattle.coap_lines.specs.Endpoints.{IsEndpoint, endpoint_text}
use Rattle.coap_lines.specs.Lines.{is_skipped}
use Rattle.coap_lines.specs.Texts.{has}
use Rattle.coap_lines.specs.Turns.{IsEventText, IsReadAs, IsSayable, IsSourced, IsTurnLine, event_text, turn_text}
use Rattle.coap_lines.proofs.EndpointTexts.{endpoint_of-is, has-endpoint}
use Rattle.coap_lines.proofs.HexTexts.{bytes_read-is, has-hex}
use Rattle.coap_lines.proofs.Numerals.{has-decimal}
use Rattle.coap_lines.proofs.ReadAgain.{bytes_again, endpoint_again}
use Rattle.coap_lines.proofs.TurnTexts.{turn_of-written}

-- the text of an endpoint encodes it
endpoint : (from : Endpoint) (bytes : List ℕ) → IsSourced (arrival from bytes) → IsEndpoint (endpoint_text from) from
endpoint from bytes is = endpoint_of-is (endpoint_text from) from (endpoint_again from.ip from.port is.0 is.1)

-- the text of bytes encodes them
hex : (from : Endpoint) (bytes : List ℕ) → IsSourced (arrival from bytes) → IsHex (hex_text bytes) bytes
hex from bytes is = bytes_read-is (hex_text bytes) bytes (bytes_again bytes is.2)

-- the text of an event encodes it
event : (what : Event) → IsSourced what → IsEventText (event_text what) what
event tick is = refl
event (arrival from bytes) is =
    (endpoint_text from, hex_text bytes, append_assoc (endpoint_text from) (codes " ") (hex_text bytes), endpoint from bytes is, hex from bytes is)

-- the line of a turn encodes it
says : (last : ℕ) (turn : Turn) → IsSayable last turn → IsTurnLine last (turn_text turn) turn
unfolding turn_text
says last turn say =
    let what = event_text turn.event in
    let split = append_assoc (decimal turn.now ++ codes " " ++ decimal turn.draw) (codes " ") what ∙ ap (λ (front : List ℕ). front ++ 32 ∷ what) (append_assoc (decimal turn.now) (codes " ") (decimal turn.draw)) in
    (decimal turn.now, decimal turn.draw, what, split, (refl, say.moment), say.onward, (refl, say.draw), event turn.event say.event)

-- the text of an event contains no line feed
one-event : (what : Event) → IsSourced what → has 10 (event_text what) ≡ false
one-event tick is = refl
one-event (arrival from bytes) is =
    let source = endpoint from bytes is in
    let front = has-endpoint 10 (lit< tt) (lit≤ tt) (endpoint_text from) from.ip from.port source.0 source.1 source.2 source.3 source.4 in
    let back = has-hex 10 refl refl (hex_text bytes) bytes (hex from bytes is) in
    rw (list_any-append, list_any-append, front, back) refl

-- nor does that of a number
one-number : (n : ℕ) → n < 2 ^ 64 → has 10 (decimal n) ≡ false
one-number = has-decimal 10 (λ x low high. ne_eqb x 10 (λ same. omega arith))

-- nor does that of a turn
one : (last : ℕ) (turn : Turn) → IsSayable last turn → has 10 (turn_text turn) ≡ false
unfolding turn_text
one last turn say =
    let now = one-number turn.now (omega (arith, say.moment)) in
    let draw = one-number turn.draw (omega (arith, say.draw)) in
    let what = one-event turn.event say.event in
    rw (list_any-append, list_any-append, list_any-append, list_any-append, now, draw, what) refl

-- a text that begins with a number isn't skipped
begins : (n : ℕ) → n < 2 ^ 64 → (rest : List ℕ) → is_skipped (decimal n ++ rest) ≡ false
begins = decimal_by_steps (λ n ds. (rest : List ℕ) → is_skipped (ds ++ rest) ≡ false)
    (λ n small rest. ne_eqb (48 + n) 35 (λ same. omega arith))
    (λ n ds great before rest. rw append_assoc (before ((48 + n % 10) ∷ rest)))

-- the line of a turn isn't skipped
counts : (last : ℕ) (turn : Turn) → IsSayable last turn → is_skipped (turn_text turn) ≡ false
unfolding turn_text
counts last turn say =
    let what = event_text turn.event in
    let rest = codes " " ++ (decimal turn.draw ++ (codes " " ++ what)) in
    let split : decimal turn.now ++ codes " " ++ decimal turn.draw ++ codes " " ++ what ≡ decimal turn.now ++ rest =
    append_assoc (decimal turn.now ++ codes " " ++ decimal turn.draw) (codes " ") what ∙ append_assoc (decimal turn.now ++ codes " ") (decimal turn.draw) (codes " " ++ what)
    ∙ append_assoc (decimal turn.now) (codes " ") (decimal turn.draw ++ (codes " " ++ what)) in
    rw split (begins turn.now (omega (arith, say.moment)) rest)

-- the line of a turn is read back as that turn
pub read-again : (last : ℕ) (turn : Turn) → IsSayable last turn → length (turn_text turn) ≤ 16384 → IsReadAs last (turn_text turn) turn
read-again last turn say short = record {
  one = one last turn say;
  short = le-ltb 16384 (length (turn_text turn)) short;
  counts = counts last turn say;
  says = turn_of-written last (turn_text turn) turn (says last turn say);
}

-- numbers at each place of which is a byte are bytes
pub all-bytes : (xs : List ℕ) → IsBytes xs → AllByRecursion (λ b. b < 256) xs
all-bytes [] are = tt
all-bytes (x ∷ xs) are = (are 0, all-bytes xs (λ i. are (suc i)))
