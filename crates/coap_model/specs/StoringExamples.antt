-- Answers with and without memory for them in the store, computed on the definitions.
use Rattle.std.specs.Prelude.{Bool, List, [], ◌∷◌, ◌++◌}
use Rattle.coap_model.specs.declared.report.Outcome.TheVariants.{Delivered}
use Rattle.coap_model.specs.Events.{arrival}
use Rattle.coap_model.specs.State.{Step}
use Rattle.coap_model.specs.Step.{step_of}
use Rattle.coap_model.specs.Examples.{Sent, origin, client, from, tick_at, to, proxy, get_t, content, content_for_client, first_answer}
use Rattle.coap_model.specs.LimitExamples.{got}
use Rattle.coap_model.specs.FormExamples.{after}

-- the answer to the first request, with or without memory for one more entry
abbrev pub answer_with : Bool → Step
answer_with grown =
    step_of (after proxy (from 0 (client 1) (get_t []) ∷ tick_at 0 ∷ [])) 0 0 grown
    (arrival origin content)

-- a later answer to another client's request, which replaces the stored one
abbrev pub answer_in_place : Bool → Step
answer_in_place grown =
    step_of
    (after proxy (first_answer ++ from 10001 (client 2) (get_t []) ∷ tick_at 10001 ∷ [])) 10001 0
    grown (arrival origin (got 3 2))

-- the client gets it nonetheless
abbrev pub still_delivered : List Sent
still_delivered = to Delivered (client 1) (content_for_client 10) ∷ []
