-- Definitions about the cache of a history, computed: which responses may be kept, what a small
-- cache keeps, and histories with their caches. The bytes are encoded per RFC 7252 (3, 3.1, 5.10).
use Rattle.std.specs.Prelude.{ℕ, Bool, true, false, List, [], ◌∷◌, codes, Option, Some, None, option_map}
use Rattle.std.specs.Result.{result_ok}
use Rattle.coap_message.specs.declared.kind.Kind.TheVariants.{Ack}
use Rattle.coap_message.specs.declared.code.TheConstants.Code.{CONTENT}
use Rattle.coap_message.specs.Message.{Message}
use Rattle.coap_message.specs.Options.{option_of}
use Rattle.coap_message.specs.Reading.{read_message}
use Rattle.coap_option.specs.declared.numbers.TheConstants.{MAX_AGE}
use Rattle.coap_store.specs.declared.stored.Stored.{Stored}
use Rattle.coap_model.specs.declared.report.Outcome.{Outcome}
use Rattle.coap_model.specs.declared.report.Outcome.TheVariants.{Answered, Hit}
use Rattle.coap_model.specs.declared.report.Storing.TheVariants.{Kept}
use Rattle.coap_limits.specs.Limits.{default_limits}
use Rattle.coap_model.specs.Events.{arrival}
use Rattle.coap_forward.specs.Messages.{token_of}
use Rattle.coap_forward.specs.Forms.{forwarded}
use Rattle.coap_forward.specs.Answers.{answer_of}
use Rattle.coap_model.specs.Examples.{origin, client, get_t, answer, bare_get}
use Rattle.coap_model.specs.LimitExamples as limited
use Rattle.coap_model.specs.OptionExamples.{key_of_temp}
use Rattle.coap_model.specs.History.{no_item, admits, moves, Action}
use Rattle.coap_model.specs.Forged as forged
use Rattle.coap_model.specs.Forged.{setting, opened, asked}
use Rattle.coap_forward.specs.Answers.{is_storable}
use Rattle.coap_model.specs.Cached.{Cached, cached_with}

-- ---- what may be kept

-- whether the answer from a response with this code and these options may be kept
abbrev pub storable_in : ℕ → List ℕ → Option Bool
storable_in code options =
    option_map (λ m. is_storable (answer_of 1500 true None 0 m))
    (result_ok (read_message (answer 0x68 code 1 1 options)))

-- a Max-Age in one byte, and a Max-Age of 0 in an empty value
abbrev pub max_age : ℕ → List ℕ
max_age seconds = 0xD1 ∷ 1 ∷ seconds ∷ []

abbrev pub empty_max_age : List ℕ
empty_max_age = 0xD0 ∷ 1 ∷ []

-- ---- what is kept

-- a 2.05 with a Max-Age of ten seconds, for an exchange, and the request that it answers
abbrev pub content_for : ℕ → ℕ → Message
content_for id exchange =
    record {
      kind = Ack;
      code = CONTENT;
      id = id;
      token = token_of 0 exchange;
      options = option_of MAX_AGE (10 ∷ []) ∷ [];
      payload = codes "21";
    }

abbrev pub get_for : ℕ → ℕ → Message
get_for id exchange =
    forwarded (token_of 0 exchange) key_of_temp.target None bare_get id

-- an entry for a path with one segment, whose response arrived at the moment `came`
abbrev pub entry_for : ℕ → ℕ → Cached
entry_for segment came =
    record {
      key = record key_of_temp {
        target = record key_of_temp.target { path = (segment ∷ []) ∷ [] };
      };
      response = content_for 1 1;
      asking = record { before = opened ∷ []; action = asked };
      getting =
          record {
            before = asked ∷ opened ∷ [];
            action = record asked { observation = record asked.observation { now = came } };
          };
    }

-- a cache with two entries
abbrev pub two : List Cached
two = entry_for 0x61 1 ∷ entry_for 0x62 2 ∷ []

-- what is kept within a limit of bytes and a limit of entries
abbrev pub kept_within : ℕ → ℕ → Cached → List Cached → List Cached
kept_within bytes entries new cached =
    cached_with
    (record setting {
      limits = record default_limits { cache_bytes = bytes; cache_entries = entries };
    })
    new cached

-- ---- histories

-- an answer from the origin server for an exchange
abbrev pub answered : ℕ → ℕ → ℕ → Outcome → Action
answered now id exchange outcome =
    record {
      observation = record forged.answered.observation {
        now = now;
        event = arrival origin (limited.got id exchange);
        report = record { send = None; outcome = outcome };
      };
      act = moves exchange;
    }

-- an answer is kept
abbrev pub kept_past : List Action
kept_past = answered 5 1 1 (Answered Kept) ∷ asked ∷ opened ∷ []

-- another client sends the same request
abbrev pub hits : Action
hits =
    record {
      observation = record opened.observation {
        now = 10;
        event = arrival (client 2) (get_t []);
        report = record { send = Some (client 2); outcome = Hit };
      };
      act = no_item;
    }

abbrev pub hit_past : List Action
hit_past = hits ∷ kept_past

-- a new exchange is opened for the same
abbrev pub opens_again : Action
opens_again =
    record {
      observation = record opened.observation { now = 12; event = arrival (client 3) (get_t []) };
      act = admits 2 2;
    }

abbrev pub opened_past : List Action
opened_past = opens_again ∷ hit_past

-- and its request is sent to the origin server
abbrev pub asks_again : Action
asks_again =
    record {
      observation = record asked.observation
          { now = 15; bytes = limited.asked 3 2 };
      act = moves 2;
    }

abbrev pub asked_past : List Action
asked_past = asks_again ∷ opened_past

-- the entry of the first answer, and of the second
abbrev pub first_entry : Cached
first_entry =
    record {
      key = key_of_temp;
      response = content_for 1 1;
      asking = record { before = opened ∷ []; action = asked };
      getting =
          record { before = asked ∷ opened ∷ []; action = answered 5 1 1 (Answered Kept) };
    }

abbrev pub second_entry : Cached
second_entry =
    record {
      key = key_of_temp;
      response = content_for 3 2;
      asking = record { before = opened_past; action = asks_again };
      getting = record { before = asked_past; action = answered 20 3 2 (Answered Kept) };
    }

-- the entry of a store for the first
abbrev pub first_stored : Stored
first_stored =
    record { response = content_for 1 1; asked = 1; got_no = 2; got = 5; marked = false }
