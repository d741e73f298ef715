-- The lines of `--log`: which fields stand in each, in order.
use Rattle.std.specs.Prelude.{◌≡◌, ℕ, ◌-◌, ◌==◌, ◌||◌, Bool, false, List, [], ◌∷◌, ◌++◌, codes, take, Option, None, Some, if◌then◌else◌}
use Rattle.std.specs.Fmt.{decimal}
use Rattle.std.specs.List.{flat_map}
use Rattle.coap_message.specs.Codes.{code_of, is_code}
use Rattle.coap_message.specs.declared.code.Code.{Code}
use Rattle.coap_message.specs.Datagram.{Datagram, holding}
use Rattle.coap_endpoint.specs.declared.endpoint.Endpoint.{Endpoint}
use Rattle.coap_core.specs.Holders.{table_name}
use Rattle.coap_core.specs.declared.holders.Holder.{Holder}
use Rattle.coap_log.specs.Line.{Field, fields_text}
use Rattle.coap_explain.specs.declared.causes.BadGateway.{BadGateway}
use Rattle.coap_explain.specs.declared.causes.BadGateway.TheVariants as gateways
use Rattle.coap_explain.specs.declared.due.DueExchange.{DueExchange}
use Rattle.coap_explain.specs.declared.lacks.Lack.{Lack}
use Rattle.coap_explain.specs.declared.log_fields.Cause.{Cause}
use Rattle.coap_explain.specs.declared.log_fields.Cause.TheVariants as causes
use Rattle.coap_explain.specs.declared.log_fields.TargetText.{TargetText}
use Rattle.coap_explain.specs.declared.log_lines.Failed.{Failed}
use Rattle.coap_explain.specs.Noted.{took}
use Rattle.coap_explain.specs.Targets.{endpoint_text, ip_text}
use Rattle.coap_explain.specs.Words.{code_text, gateway_word, need_key, silence_word}

-- a line goes on with these fields
abbrev pub Adds : Datagram → Datagram → List Field → Type 0
Adds old new fields = new ≡ holding old (old.bytes ++ fields_text fields)

-- a line as it is written: behind a line feed of its own if the output took only a part of the last
-- one
abbrev pub written : Bool → Datagram → List ℕ
written torn line =
    (if torn then codes "\n" else []) ++ take line.room (line.bytes ++ codes "\n")

-- ---- fields

abbrev pub number : List ℕ → ℕ → Field
number key n = (key, decimal n)

abbrev pub peer : List ℕ → Endpoint → Field
peer key at = (key, endpoint_text at)

-- how much of something there is, and how much there may be
abbrev pub ratio : List ℕ → ℕ → ℕ → Field
ratio key count limit = (key, decimal count ++ codes "/" ++ decimal limit)

-- the URI of a target, with three dots for an end that was left out
abbrev pub dots : Bool → List ℕ
dots is_cut = if is_cut then codes "..." else []

abbrev pub uri : List ℕ → Bool → Field
uri bytes is_cut = (codes "target", bytes ++ dots is_cut)

abbrev pub target : TargetText → Field
target t = uri t.uri.items t.is_cut

-- what is lacking of each need
abbrev pub lack : Option Lack → List Field
lack None = []
lack (Some l) = ratio (need_key l.need) l.count l.limit ∷ []

abbrev pub lacks : List (Option Lack) → List Field
lacks needs = flat_map lack needs

-- why a client is sent an answer of the proxy's own: of an option, also which
abbrev pub gateway : BadGateway → List Field
gateway (gateways.Option n) =
    (codes "cause", gateway_word (gateways.Option n)) ∷ number (codes "option") n ∷ []
gateway gateways.Reset = (codes "cause", gateway_word gateways.Reset) ∷ []
gateway gateways.Tag = (codes "cause", gateway_word gateways.Tag) ∷ []
gateway gateways.TooLong = (codes "cause", gateway_word gateways.TooLong) ∷ []

abbrev pub cause : Cause → List Field
cause (causes.Silence s) = (codes "cause", silence_word s) ∷ []
cause (causes.BadGateway g) = gateway g

-- of an answer of its origin, that it is that
abbrev pub cause_or_origin : Option Cause → List Field
cause_or_origin None = (codes "cause", codes "origin") ∷ []
cause_or_origin (Some c) = cause c

-- what an exchange was: its origin, how often its request was sent, and how long it took
abbrev pub exchange : DueExchange → ℕ → List Field
exchange x now =
    peer (codes "origin") x.origin ∷ number (codes "sent") x.transmissions
    ∷ number (codes "ms") (took x now) ∷ []

-- ---- lines

-- an exchange that was given up
abbrev pub given_up : Field → DueExchange → ℕ → List Field
given_up to x now =
    (to ∷ []) ++ cause (causes.Silence x.silence) ++ exchange x now
    ++ number (codes "clients") x.waiting ∷ []

-- an answer with this code is logged: 5.02, 5.03 or 5.04
abbrev pub is_logged : Code → Bool
is_logged c = is_code c (code_of 5 2) || is_code c (code_of 5 3) || is_code c (code_of 5 4)

-- a client that was sent such an answer
abbrev pub failed : Field → Failed → DueExchange → ℕ → List Field
failed to f x now =
    (peer (codes "client") f.client ∷ (codes "code", code_text f.code) ∷ to ∷ [])
    ++ cause_or_origin f.cause ++ exchange x now

-- one that was turned away with 5.03
abbrev pub overloaded : Field → Endpoint → List (Option Lack) → List Field
overloaded to client needs =
    (peer (codes "client") client ∷ (codes "code", code_text (code_of 5 3)) ∷ to
    ∷ (codes "cause", codes "room") ∷ [])
    ++ lacks needs

-- a message that was dropped
abbrev pub dropped : Endpoint → List (Option Lack) → List Field
dropped client needs = (peer (codes "client") client ∷ []) ++ lacks needs

-- who has most of a table that is full
abbrev pub full : Holder → List Field
full h =
    (codes "table", table_name h.table) ∷ ratio (codes "count") h.count h.limit
    ∷ (codes "address", ip_text h.ip) ∷ number (codes "has") h.held
    ∷ number (codes "ports") h.ports ∷ []

-- how many lines were left out, in the place of what a line holds; nothing if none were
abbrev pub left_out_line : Datagram → ℕ → Datagram
left_out_line line n =
    holding line
    (take line.room (codes "left_out") ++ fields_text (number (codes "lines") n ∷ []))

abbrev pub left_out_text : Bool → Datagram → ℕ → List ℕ
left_out_text torn line n = if n == 0 then [] else written torn (left_out_line line n)

-- behind that nothing is torn
abbrev pub torn_behind : Bool → ℕ → Bool
torn_behind torn n = if n == 0 then torn else false

-- a line, behind how many were left out
abbrev pub told : Bool → Datagram → ℕ → List ℕ → List Field → List ℕ
told torn line n word fields =
    left_out_text torn line n
    ++ written (torn_behind torn n) (holding line (take line.room word ++ fields_text fields))

-- an origin that answers again
abbrev pub heard : Endpoint → ℕ → ℕ → List Field
heard from since now =
    peer (codes "origin") from ∷ number (codes "silent_ms") (now - since) ∷ []
