-- Replies from the cache, and kept answers, that nothing justifies, since the target was changed:
-- histories that are right except for one thing (RFC 7252, 5.6.1 and 5.9.1).
use Rattle.std.specs.Prelude.{ℕ, List, [], ◌∷◌, Some, None}
use Rattle.coap_message.specs.declared.kind.Kind.TheVariants.{Ack}
use Rattle.coap_message.specs.declared.code.TheConstants.Code.{CHANGED}
use Rattle.coap_message.specs.Message.{Message}
use Rattle.coap_forward.specs.Messages.{token_of}
use Rattle.coap_model.specs.declared.report.Outcome.TheVariants.{Answered, Hit}
use Rattle.coap_model.specs.declared.report.Storing.TheVariants.{Kept, NotStored}
use Rattle.coap_model.specs.Events.{arrival}
use Rattle.coap_model.specs.Examples.{origin, client, get_t, answer}
use Rattle.coap_model.specs.History.{Observation, no_item, moves, Action}
use Rattle.coap_model.specs.Forged.{opened, asked}
use Rattle.coap_model.specs.CacheExamples.{answered, opens_again, asks_again, asked_past}

-- a client sends the same request again, and gets the first answer with this many seconds of its
-- Max-Age left
abbrev pub reply : ℕ → ℕ → Action
reply now left =
    record {
      observation = record {
        now = now;
        draw = 0;
        event = arrival (client 4) (get_t []);
        report = record { send = Some (client 4); outcome = Hit };
        bytes = 0x50 ∷ 0x45 ∷ 0 ∷ 4 ∷ 0xD1 ∷ 1 ∷ left ∷ 0xFF ∷ 0x32 ∷ 0x31 ∷ [];
      };
      act = no_item;
    }

-- a 2.04 answers the second exchange: its target is changed
abbrev pub change_told : List ℕ
change_told = answer 0x68 0x44 3 2 []

abbrev pub changed_message : Message
changed_message =
    record {
      kind = Ack;
      code = CHANGED;
      id = 3;
      token = token_of 0 2;
      options = [];
      payload = [];
    }

abbrev pub change : Action
change =
    record {
      observation = record {
        now = 20;
        draw = 0;
        event = arrival origin change_told;
        report = record { send = None; outcome = Answered NotStored };
        bytes = [];
      };
      act = moves 2;
    }

abbrev pub changed_past : List Action
changed_past = change ∷ asked_past

-- the same, but the first exchange has no answer yet
abbrev pub overtaken_past : List Action
overtaken_past = change ∷ asks_again ∷ opens_again ∷ asked ∷ opened ∷ []

-- its answer arrives, and is kept
abbrev pub keeps_overtaken : Action
keeps_overtaken = answered 25 1 1 (Answered Kept)

-- ---- a promise that isn't kept

-- two exchanges are opened, for two paths, although there is room for one
abbrev pub opens_two : List Observation
opens_two =
    record opened.observation
    { event = arrival (client 2) (get_t (1 ∷ 0x78 ∷ [])) } ∷ opened.observation ∷ []
