-- Where the routes take a request.
use Rattle.std.specs.Prelude.{ℕ, if◌then◌else◌, Option, None, Some, Result, Ok, Err}
use Rattle.coap_endpoint.specs.declared.target.Target.{Target}
use Rattle.coap_message.specs.declared.error.DecodeError.{DecodeError}
use Rattle.coap_message.specs.Codes.{is_request}
use Rattle.coap_message.specs.Message.{Message}
use Rattle.coap_message.specs.Reading.{read_message}
use Rattle.coap_model.specs.Events.{Event, arrival, tick}
use Rattle.coap_option.specs.declared.side.Side.TheVariants.{Request}
use Rattle.coap_option.specs.Screening.{first_refused}
use Rattle.coap_target.specs.declared.error.TargetError.{TargetError}
use Rattle.coap_target.specs.declared.routes.Routes.{Routes}
use Rattle.coap_target.specs.Request.{request_target}
use Rattle.coap_explain.specs.declared.routed.Routed.{Routed}
use Rattle.coap_explain.specs.declared.routed.Routed.TheVariants.{Nowhere, To}

abbrev pub routed_to : Result Target TargetError → Routed
routed_to (Ok t) = To t
routed_to (Err e) = Nowhere

abbrev pub routed_unless : Routes → Message → Option ℕ → Routed
routed_unless routes m None = routed_to (request_target routes m)
routed_unless routes m (Some number) = Nowhere

-- nowhere if one of its options is refused
abbrev pub routed_with : Routes → Message → Routed
routed_with routes m = routed_unless routes m (first_refused Request m.options)

abbrev pub routed_read : Routes → Result Message DecodeError → Routed
routed_read routes (Ok m) = if is_request m.code then routed_with routes m else Nowhere
routed_read routes (Err e) = Nowhere

abbrev pub routed_of : Routes → Event → Routed
routed_of routes (arrival from bytes) = routed_read routes (read_message bytes)
routed_of routes tick = Nowhere
