-- What a turn means for the counts of maps, of origins and of openings.
use Rattle.std.specs.Prelude.{ℕ, ◌-◌, false, Bool, List, Option, Some, None, Result, Ok, Err, if◌then◌else◌}
use Rattle.std.specs.Option.{option_and_then, option_map, option_map_or}
use Rattle.coap_counts.specs.Maps.{Ways, way_of, with_request}
use Rattle.coap_counts.specs.Openings.{with_opening}
use Rattle.coap_counts.specs.Origins.{Origins, with_origin}
use Rattle.coap_counts.specs.declared.openings.OpeningCounts.{OpeningCounts}
use Rattle.coap_counts.specs.declared.origins.OriginAnswer.{OriginAnswer}
use Rattle.coap_counts.specs.declared.origins.OriginEvent.{OriginEvent}
use Rattle.coap_counts.specs.declared.origins.OriginEvent.TheVariants.{Sent, Resent, Answered, GaveUp}
use Rattle.coap_endpoint.specs.declared.endpoint.Endpoint.{Endpoint}
use Rattle.coap_message.specs.Codes as codes
use Rattle.coap_message.specs.Message.{Message}
use Rattle.coap_message.specs.Reading.{head_at, read_message}
use Rattle.coap_message.specs.declared.error.DecodeError.{DecodeError}
use Rattle.coap_model.specs.Events.{Event, arrival, tick}
use Rattle.coap_model.specs.State.{State}
use Rattle.coap_model.specs.declared.report.Outcome.{Outcome}
use Rattle.coap_model.specs.declared.deed.Deed.{Deed}
use Rattle.coap_model.specs.declared.deed.Deed.TheVariants as deeds
use Rattle.coap_model.specs.declared.deed.Did.{Did}
use Rattle.coap_model.specs.declared.report.Report.{Report}
use Rattle.coap_pending.specs.Table.{item_at}
use Rattle.coap_pending.specs.declared.exchange.Exchange.{Exchange}
use Rattle.coap_target.specs.declared.routes.Routes.{Routes}
use Rattle.coap_core.specs.Told.{Told, deed_told, report_told}

-- ---- origins

abbrev pub is_request : List ℕ → Bool
is_request bytes = option_map_or (λ head. codes.is_request head.code) (head_at bytes) false

abbrev pub answer_of : List ℕ → ℕ → Option ℕ → Option OriginAnswer
answer_of bytes now asked =
    option_map
    (λ head. record { code = head.code; now = now; took = option_map (λ since. now - since) asked })
    (head_at bytes)

-- the origin that sent a datagram, with its answer
abbrev pub answered : Event → ℕ → Option ℕ → Option (Endpoint × OriginEvent)
answered (arrival source bytes) now asked =
    option_map (λ answer. (source, Answered answer)) (answer_of bytes now asked)
answered tick now asked = None

-- when the request of an exchange was first sent
abbrev pub asked_at : Exchange → Option ℕ
asked_at x = option_map (λ sending. sending.timer.started) x.sending

abbrev pub asked_of : State → ℕ → Option ℕ
asked_of w number = option_and_then asked_at (item_at number w.exchanges)

-- What happened between the proxy and an origin: a request was sent to it, or sent again; a
-- datagram from it was an answer; or it was given up.
abbrev pub event_for : Deed → Option Endpoint → Told → Option (Endpoint × OriginEvent)
event_for (deeds.Sent x) send t = option_map (λ at. (at, Sent)) send
event_for (deeds.Resent x) send t = option_map (λ at. (at, Resent)) send
event_for (deeds.Answered x storing) send t =
    answered t.turn.event t.turn.now (asked_of t.state x)
event_for (deeds.GaveUp x silence) send t =
    option_map (λ y. (y.key.target.at, GaveUp)) (item_at x t.state.exchanges)
event_for _ send t = None

abbrev pub event_by : Option Did → Told → Option (Endpoint × OriginEvent)
event_by None t = None
event_by (Some did) t = event_for did.deed did.send t

abbrev pub event_of : Told → Option (Endpoint × OriginEvent)
event_of t = event_by t.did t

-- the counts with one more turn
abbrev pub with_origins : Told → Origins → Origins
with_origins t n = option_map_or (λ found. with_origin found.0 found.1 n) (event_of t) n

-- ---- maps

abbrev pub with_read : Routes → Outcome → Result Message DecodeError → Ways → Ways
with_read routes outcome (Ok m) n = with_request (way_of routes m) outcome n
with_read routes outcome (Err e) n = n

abbrev pub with_datagram : Routes → Outcome → Event → Ways → Ways
with_datagram routes outcome (arrival source bytes) n =
    if is_request bytes then with_read routes outcome (read_message bytes) n else n
with_datagram routes outcome tick n = n

abbrev pub with_report : Routes → Option Report → Event → Ways → Ways
with_report routes (Some report) event n = with_datagram routes report.outcome event n
with_report routes None event n = n

-- the counts with one more turn: if a request came in it, that goes by the routes of the proxy
abbrev pub with_ways : Told → Ways → Ways
with_ways t n = with_report t.state.setting.routes (report_told t) t.turn.event n

-- ---- openings

abbrev pub opening_in : Option Deed → OpeningCounts → OpeningCounts
opening_in (Some (deeds.Opened waiter exchange held)) n = with_opening held n
opening_in _ n = n

-- the counts with one more turn: if an exchange was opened in it, by what the cache had for it
abbrev pub with_openings : Told → OpeningCounts → OpeningCounts
with_openings t n = opening_in (deed_told t) n
