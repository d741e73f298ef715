-- Limits that two clients share, and observations that give out a Message ID.
use Rattle.std.specs.Prelude.{ℕ}
use Rattle.coap_limits.specs.Limits.{Limits}
use Rattle.coap_model.specs.History.{Action, no_item}
use Rattle.coap_model.specs.WordExamples.{limits_of_two, refused_with_1}

-- two of each, and one for each client
abbrev pub halves : Limits
halves = record limits_of_two {
  client_con_records = 1;
  client_non_records = 1;
  client_exchanges = 1;
  client_waiters = 1;
}

-- a request is refused in a message with the Message ID 1
abbrev pub refusal : ℕ → Action
refusal now = record { observation = refused_with_1 now; act = no_item }
