-- Deliveries that nothing justifies: histories that are right except for one thing.
use Rattle.std.specs.Prelude.{ℕ, List, [], ◌∷◌, Some, None}
use Rattle.coap_endpoint.specs.declared.endpoint.Endpoint.{Endpoint}
use Rattle.coap_model.specs.declared.report.Outcome.TheVariants.{Opened, Answered, SentRequest, Delivered}
use Rattle.coap_model.specs.declared.report.Storing.TheVariants.{NotStored}
use Rattle.coap_model.specs.Setting.{Setting}
use Rattle.coap_model.specs.Events.{Event, arrival, tick}
use Rattle.coap_model.specs.Examples.{proxy, origin, client, get_t, get_temp, content, content_for_client, content_in}
use Rattle.coap_model.specs.History.{Act, admits, moves, serves, Action}

abbrev pub setting : Setting
setting = proxy.setting

-- a request arrives and is forwarded, and its answer arrives
abbrev pub opened : Action
opened = record {
  observation = record {
    now = 0;
    draw = 0;
    event = arrival (client 1) (get_t []);
    report = record { send = None; outcome = Opened };
    bytes = [];
  };
  act = admits 1 1;
}

abbrev pub asked : Action
asked = record {
  observation = record {
    now = 0;
    draw = 0;
    event = tick;
    report = record { send = Some origin; outcome = SentRequest };
    bytes = get_temp [];
  };
  act = moves 1;
}

abbrev pub answered : Action
answered = record {
  observation = record {
    now = 0;
    draw = 0;
    event = arrival origin content;
    report = record { send = None; outcome = Answered NotStored };
    bytes = [];
  };
  act = moves 1;
}

abbrev pub past : List Action
past = answered ∷ asked ∷ opened ∷ []

-- the same, but the client's request is Confirmable and is acknowledged
abbrev pub opened_con : Action
opened_con = record {
  observation = record {
    now = 0;
    draw = 0;
    event = arrival (client 1) (0x40 ∷ 1 ∷ 0 ∷ 7 ∷ 0xB1 ∷ 0x74 ∷ []);
    report = record { send = Some (client 1); outcome = Opened };
    bytes = 0x60 ∷ 0 ∷ 0 ∷ 7 ∷ [];
  };
  act = admits 1 1;
}

abbrev pub past_con : List Action
past_con = answered ∷ asked ∷ opened_con ∷ []

-- another exchange is opened at the same moment
abbrev pub opened_too : Action
opened_too = record opened { act = admits 2 2 }

-- the same, but the forwarded request has one more path segment
abbrev pub asked_elsewhere : Action
asked_elsewhere = record asked {
  observation = record asked.observation { bytes = get_temp (0x01 ∷ 0x78 ∷ []) };
}

abbrev pub past_elsewhere : List Action
past_elsewhere = answered ∷ asked_elsewhere ∷ opened ∷ []

-- a delivery after 2,500 milliseconds
abbrev pub delivery : Endpoint → List ℕ → Act → Action
delivery to bytes act = record {
  observation = record {
    now = 2500;
    draw = 0;
    event = tick;
    report = record { send = Some to; outcome = Delivered };
    bytes = bytes;
  };
  act = act;
}

abbrev pub right : Action
right = delivery (client 1) (content_for_client 7) (serves 1)

-- the same in a Confirmable message
abbrev pub in_con : Action
in_con = delivery (client 1) (content_in 0x40 7) (serves 1)

-- the same, triggered by a datagram instead of a tick
abbrev pub at_an_arrival : Action → Action
at_an_arrival d = record d
    { observation = record d.observation { event = arrival (client 1) (get_t []) } }

-- an acknowledgement of a message with this id
abbrev pub acknowledged : Endpoint → ℕ → Event
acknowledged source id = arrival source (0x60 ∷ 0 ∷ 0 ∷ id ∷ [])
