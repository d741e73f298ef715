-- Histories of no proxy that keeps its promise.
use Rattle.std.specs.Prelude.{◌≤◌, List, [], ◌∷◌, length, Some}
use Rattle.coap_message.specs.declared.kind.Kind.TheVariants.{Con, Non}
use Rattle.coap_endpoint.specs.declared.endpoint.Endpoint.{Endpoint}
use Rattle.coap_model.specs.Examples.{client}
use Rattle.coap_model.specs.Forged.{opened_con, setting}
use Rattle.coap_model.specs.ForgedHits.{reply}
use Rattle.coap_model.specs.History.{Action, Observation, last_of}
use Rattle.coap_model.specs.Remembered.{remembered_at, remembered_of}
use Rattle.coap_model.specs.Standing.{exchanges_of, open_in, standing_in, waiters_of}
use Rattle.coap_model.specs.WordExamples.{again}

-- the first request is answered from the cache
abbrev pub only_a_hit : List Action
only_a_hit = reply 25 9 ∷ []

abbrev pub begins_with_a_hit : List Observation
begins_with_a_hit = (reply 25 9).observation ∷ []

-- a Confirmable request that was acknowledged comes again, and gets an acknowledgement with another
-- id
abbrev pub acknowledges_another : List Observation
acknowledges_another = again (Some (client 1)) (0x60 ∷ 0 ∷ 0 ∷ 8 ∷ []) ∷ opened_con.observation ∷ []

-- a history is within all limits but those of the cache
pub record IsOtherwiseWithin (history : List Action) : Type 0 where
  pub exchanges : length (open_in history) ≤ setting.limits.exchanges
  pub waiters : length (standing_in history) ≤ setting.limits.waiters
  pub con_records :
      length (remembered_at Con (last_of history) history) ≤ setting.limits.con_records
  pub non_records :
      length (remembered_at Non (last_of history) history) ≤ setting.limits.non_records
  pub client_exchanges :
      (client : Endpoint) → exchanges_of client history ≤ setting.limits.client_exchanges
  pub client_waiters :
      (client : Endpoint) → waiters_of client history ≤ setting.limits.client_waiters
  pub client_con_records :
      (from : Endpoint)
      → remembered_of from Con (last_of history) history ≤ setting.limits.client_con_records
  pub client_non_records :
      (from : Endpoint)
      → remembered_of from Non (last_of history) history ≤ setting.limits.client_non_records
