-- Turns as texts: what is read, and what is written.
use Rattle.std.proofs.Common.{◌≡◌, ℕ, ◌^◌, ◌<◌, Bool, true, false, List, ◌∷◌, ◌++◌, codes, Option, Some, None, refl, sym, ap, ◌∙◌, cond, arith, lit<, lit≤, append_assoc, leb, le-leb}
use Rattle.std.specs.Option.{unwrap_or}
use Rattle.std.specs.Str.{bytes_eq}
use Rattle.std.proofs.lemmas.Bool.{false≢true, leb-true, ne_eqb}
use Rattle.std.proofs.lemmas.List.Folds.{list_any-append}
use Rattle.std.proofs.lemmas.Option.{none-some}
use Rattle.std.proofs.lemmas.Slice.Eq.{bytes_eq-Decides}
use Rattle.coap_endpoint.specs.declared.endpoint.Endpoint.{Endpoint}
use Rattle.coap_model.specs.Events.{Event}
use Rattle.coap_model.specs.Events.Event.{arrival, tick}
use Rattle.coap_model.specs.Runs.{Turn}
use Rattle.coap_message.specs.Reading.{◌>>=◌}
use Rattle.coap_lines.specs.Texts.{cut, has}
use Rattle.coap_lines.specs.Numbers.{IsNumber, number_of}
use Rattle.coap_lines.specs.Endpoints.{endpoint_of}
use Rattle.coap_lines.specs.Datagrams.{bytes_read}
use Rattle.coap_lines.specs.Turns.{IsEventText, IsTurnLine, arrival_of, event_of, greatest, not_before, turn_at, turn_of}
use Rattle.coap_lines.proofs.Cuts.{cut-front, cut-is}
use Rattle.coap_lines.proofs.HexTexts.{bytes_read-is, bytes_read-written}
use Rattle.coap_lines.proofs.Numerals.{has-decimal, number_of-is, number_of-written}
use Rattle.coap_lines.proofs.EndpointTexts.{endpoint_of-is, endpoint_of-written, has-endpoint}

-- the text of a number contains no space
has-number : (most n : ℕ) (text : List ℕ) → most < 2 ^ 64 → IsNumber most text n → has 32 text ≡ false
has-number most n text bound number =
    rw (number.0) (has-decimal 32 (λ x low high. ne_eqb x 32 (λ same. omega arith)) n (omega arith))

-- a text with a space isn't that of a tick
not_tick : (source hex : List ℕ) → has 32 source ≡ false → bytes_eq (source ++ 32 ∷ hex) (codes "tick") ≡ false
not_tick source hex clear = go (bytes_eq (source ++ 32 ∷ hex) (codes "tick")) refl
  where
    go : (t : Bool) → bytes_eq (source ++ 32 ∷ hex) (codes "tick") ≡ t → bytes_eq (source ++ 32 ∷ hex) (codes "tick") ≡ false
    go false is = is
    go true is =
        let same = (bytes_eq-Decides (source ++ 32 ∷ hex) (codes "tick")).0 is in
        let parted : has 32 (source ++ 32 ∷ hex) ≡ true = rw (list_any-append, clear) refl in
        let joined : has 32 (source ++ 32 ∷ hex) ≡ false = rw same refl in
        absurd (false≢true (sym joined ∙ parted))

-- an event that a text encodes is read
event_of-written : (text : List ℕ) (event : Event) → IsEventText text event → event_of text ≡ Some event
unfolding event_of arrival_of
event_of-written text tick is = rw (is) refl
event_of-written text (arrival from bytes) (source, hex, split, endpoint, digits) =
    let clear = has-endpoint 32 (lit< tt) (lit≤ tt) source from.ip from.port endpoint.0 endpoint.1 endpoint.2 endpoint.3 endpoint.4 in
    rw (split, not_tick source hex clear, cut-front 32 source hex clear, endpoint_of-written source from endpoint, bytes_read-written hex bytes digits) refl

-- an event that was read is the one that the text encodes
pub event_of-is : (text : List ℕ) (event : Event) → event_of text ≡ Some event → IsEventText text event
unfolding event_of arrival_of
event_of-is text event found = go (bytes_eq text (codes "tick")) refl found
  where
    go : (t : Bool) → bytes_eq text (codes "tick") ≡ t → cond t (Some tick) (cut 32 text >>= λ parts. endpoint_of parts.0 >>= λ from. bytes_read parts.1 >>= λ bytes. Some (arrival from bytes)) ≡ Some event → IsEventText text event
    go true is made =
        let same : tick ≡ event = ap (λ (o : Option Event). unwrap_or {T = Event} o event) made in
        rw (← same) ((bytes_eq-Decides text (codes "tick")).0 is)
    go false is made = parted (cut 32 text) refl made
      where
        parted : (p : Option (List ℕ × List ℕ)) → cut 32 text ≡ p → (p >>= λ parts. endpoint_of parts.0 >>= λ from. bytes_read parts.1 >>= λ bytes. Some (arrival from bytes)) ≡ Some event → IsEventText text event
        parted None is made = absurd (none-some event made)
        parted (Some (source, hex)) is made = read (endpoint_of source) refl (bytes_read hex) refl made
          where
            read : (e : Option Endpoint) → endpoint_of source ≡ e → (b : Option (List ℕ)) → bytes_read hex ≡ b → (e >>= λ from. b >>= λ bytes. Some (arrival from bytes)) ≡ Some event → IsEventText text event
            read None endpoint b digits made = absurd (none-some event made)
            read (Some from) endpoint None digits made = absurd (none-some event made)
            read (Some from) endpoint (Some bytes) digits made =
                let same : arrival from bytes ≡ event = ap (λ (o : Option Event). unwrap_or {T = Event} o event) made in
                rw (← same) (source, hex, (cut-is 32 text source hex is).0, endpoint_of-is source from endpoint, bytes_read-is hex bytes digits)

-- a turn that a line encodes is read
pub turn_of-written : (last : ℕ) (line : List ℕ) (turn : Turn) → IsTurnLine last line turn → turn_of last line ≡ Some turn
unfolding turn_of
turn_of-written last line turn (moment, draw, what, split, now, onward, number, event) =
    let moved : line ≡ moment ++ 32 ∷ (draw ++ 32 ∷ what) = split ∙ append_assoc moment (32 ∷ draw) (32 ∷ what) in
    let first = cut-front 32 moment (draw ++ 32 ∷ what) (has-number greatest turn.now moment (lit< tt) now) in
    let second = cut-front 32 draw what (has-number 1000 turn.draw draw (lit< tt) number) in
    rw (moved, first, second, number_of-written greatest turn.now moment (lit< tt) now, number_of-written 1000 turn.draw draw (lit< tt) number, event_of-written what turn.event event, le-leb last turn.now onward) refl

-- a turn that was read is the one that the line encodes
pub turn_of-is : (last : ℕ) (line : List ℕ) (turn : Turn) → turn_of last line ≡ Some turn → IsTurnLine last line turn
unfolding turn_of
turn_of-is last line turn found = go (cut 32 line) refl found
  where
    go : (p : Option (List ℕ × List ℕ)) → cut 32 line ≡ p → (p >>= λ first. cut 32 first.1 >>= λ second. number_of greatest first.0 >>= λ now. number_of 1000 second.0 >>= λ draw. event_of second.1 >>= λ event. not_before last (turn_at now draw event)) ≡ Some turn → IsTurnLine last line turn
    go None is made = absurd (none-some turn made)
    go (Some (moment, rest)) is made = parted (cut 32 rest) refl made
      where
        parted : (p : Option (List ℕ × List ℕ)) → cut 32 rest ≡ p → (p >>= λ second. number_of greatest moment >>= λ now. number_of 1000 second.0 >>= λ draw. event_of second.1 >>= λ event. not_before last (turn_at now draw event)) ≡ Some turn → IsTurnLine last line turn
        parted None cuts made = absurd (none-some turn made)
        parted (Some (draw, what)) cuts made = read (number_of greatest moment) refl (number_of 1000 draw) refl (event_of what) refl made
          where
            read : (n : Option ℕ) → number_of greatest moment ≡ n → (d : Option ℕ) → number_of 1000 draw ≡ d → (e : Option Event) → event_of what ≡ e → (n >>= λ now. d >>= λ k. e >>= λ event. not_before last (turn_at now k event)) ≡ Some turn → IsTurnLine last line turn
            read None now d number e event made = absurd (none-some turn made)
            read (Some n) now None number e event made = absurd (none-some turn made)
            read (Some n) now (Some k) number None event made = absurd (none-some turn made)
            read (Some n) now (Some k) number (Some e) event made = kept (leb last n) refl made
              where
                kept : (t : Bool) → leb last n ≡ t → cond t (Some (turn_at n k e)) None ≡ Some turn → IsTurnLine last line turn
                kept false onward made = absurd (none-some turn made)
                kept true onward made =
                    let same : turn_at n k e ≡ turn = ap (λ (o : Option Turn). unwrap_or {T = Turn} o turn) made in
                    let split : line ≡ moment ++ 32 ∷ draw ++ 32 ∷ what = (cut-is 32 line moment rest is).0 ∙ ap (λ r. moment ++ 32 ∷ r) (cut-is 32 rest draw what cuts).0 ∙ sym (append_assoc moment (32 ∷ draw) (32 ∷ what)) in
                    rw (← same) (moment, draw, what, split, number_of-is greatest n moment now, leb-true last n onward, number_of-is 1000 k draw number, event_of-is what e event)
