-- Counts of what origins were sent and what they answered.
use Rattle.std.specs.Prelude.{ℕ, ◌/◌, ◌==◌, true, Bool, List, Option, Some, None, replicate, slice_set, slice_index_or, position}
use Rattle.std.specs.Option.{option_map_or}
use Rattle.coap_endpoint.specs.declared.endpoint.Endpoint.{Endpoint}
use Rattle.coap_endpoint.specs.Endpoint.{same_endpoint}
use Rattle.coap_message.specs.declared.code.Code.{Code}
use Rattle.coap_counts.specs.Requests.{more}
use Rattle.coap_counts.specs.Times.{no_times, with_answer_time}
use Rattle.coap_counts.specs.declared.origins.AnswerClasses.{AnswerClasses}
use Rattle.coap_counts.specs.declared.origins.OriginAnswer.{OriginAnswer}
use Rattle.coap_counts.specs.declared.origins.OriginCounts.{OriginCounts}
use Rattle.coap_counts.specs.declared.origins.OriginEvent.{OriginEvent}
use Rattle.coap_counts.specs.declared.origins.OriginEvent.TheVariants.{Sent, Resent, Answered, GaveUp}
use Rattle.coap_counts.specs.declared.origins.OriginPlace.{OriginPlace}

-- ---- one origin

abbrev pub no_counts : OriginCounts
no_counts = record {
  sent = 0;
  resent = 0;
  answers = record { success = 0; client_error = 0; server_error = 0 };
  gave_up = 0;
  last_answer = None;
  times = no_times;
}

-- an answer by its class: success, client error, or server error (RFC 7252, 5.9)
abbrev pub with_class : Code → AnswerClasses → AnswerClasses
with_class code n = record {
  success = more (code.0 / 32 == 2) n.success;
  client_error = more (code.0 / 32 == 4) n.client_error;
  server_error = more (code.0 / 32 == 5) n.server_error;
}

abbrev pub with_answer : OriginAnswer → OriginCounts → OriginCounts
with_answer a n = record n {
  answers = with_class a.code n.answers;
  last_answer = Some a.now;
  times = option_map_or (λ took. with_answer_time took n.times) a.took n.times;
}

abbrev pub with_event : OriginEvent → OriginCounts → OriginCounts
with_event Sent n = record n { sent = more true n.sent }
with_event Resent n = record n { resent = more true n.resent }
with_event (Answered a) n = with_answer a n
with_event GaveUp n = record n { gave_up = more true n.gave_up }

-- ---- several origins

abbrev pub free_place : OriginPlace
free_place = record { at = None; counts = no_counts }

abbrev pub free_places : ℕ → List OriginPlace
free_places count = replicate count free_place

-- the place is the origin's, or is free
abbrev pub takes : Endpoint → OriginPlace → Bool
takes at place = option_map_or (λ held. same_endpoint held at) place.at true

abbrev pub counted : Endpoint → OriginEvent → OriginPlace → OriginPlace
counted at event place = record { at = Some at; counts = with_event event place.counts }

-- the places, of which those of origins come first, and the counts of origins without a place
pub record Origins : Type 0 where
  pub places : List OriginPlace
  pub others : OriginCounts

abbrev pub no_origins : ℕ → Origins
no_origins places = record { places = free_places places; others = no_counts }

-- something happened with an origin: it is counted at the first place that takes it, or among the
-- others if none does
abbrev pub with_origin : Endpoint → OriginEvent → Origins → Origins
with_origin at event t = at_place (position (takes at) t.places)
  where
    at_place : Option ℕ → Origins
    at_place None = record t { others = with_event event t.others }
    at_place (Some place) = record t {
      places =
          slice_set t.places place (counted at event (slice_index_or t.places place free_place));
    }
