-- Counts of requests, by what became of them.
use Rattle.std.specs.Prelude.{ℕ, ◌+◌, ◌==◌, min, Bool, true, false}
use Rattle.coap_message.specs.declared.code.Code.{Code}
use Rattle.coap_model.specs.declared.report.Outcome.{Outcome}
use Rattle.coap_model.specs.declared.report.Outcome.TheVariants.{Again, NoRecordRoom, Refused, Hit, Joined, Opened, Overloaded, NoId}
use Rattle.coap_counts.specs.declared.requests.RefusalCounts.{RefusalCounts}
use Rattle.coap_counts.specs.declared.requests.RequestCounts.{RequestCounts}

-- a number, but at most 2^64 - 1
abbrev pub capped : ℕ → ℕ
capped n = min n 18446744073709551615

-- one more, if this is true, but at most 2^64 - 1
abbrev pub more : Bool → ℕ → ℕ
more true n = capped (n + 1)
more false n = n

-- ---- what an outcome is

abbrev pub is_hit : Outcome → Bool
is_hit Hit = true
is_hit _ = false

abbrev pub is_joined : Outcome → Bool
is_joined Joined = true
is_joined _ = false

abbrev pub is_opened : Outcome → Bool
is_opened Opened = true
is_opened _ = false

abbrev pub is_refused : ℕ → Outcome → Bool
is_refused code (Refused c) = c.0 == code
is_refused code _ = false

abbrev pub is_overloaded : Outcome → Bool
is_overloaded Overloaded = true
is_overloaded _ = false

abbrev pub lacks_record_room : Outcome → Bool
lacks_record_room NoRecordRoom = true
lacks_record_room _ = false

abbrev pub lacks_id : Outcome → Bool
lacks_id NoId = true
lacks_id _ = false

abbrev pub is_again : Outcome → Bool
is_again Again = true
is_again _ = false

-- ---- counts

abbrev pub no_refusals : RefusalCounts
no_refusals = record {
  bad_request = 0;
  bad_option = 0;
  not_found = 0;
  method_not_allowed = 0;
  entity_too_large = 0;
  not_proxied = 0;
}

abbrev pub no_requests : RequestCounts
no_requests = record {
  hit = 0;
  joined = 0;
  opened = 0;
  refused = no_refusals;
  overloaded = 0;
  no_record_room = 0;
  no_id = 0;
  again = 0;
}

-- the counts with one more outcome, if there is one: each count is of outcomes that pass its test
module _ (did : (Outcome → Bool) → Bool) where
  abbrev pub refusals_with : RefusalCounts → RefusalCounts
  refusals_with n = record {
    bad_request = more (did (is_refused 0x80)) n.bad_request;
    bad_option = more (did (is_refused 0x82)) n.bad_option;
    not_found = more (did (is_refused 0x84)) n.not_found;
    method_not_allowed = more (did (is_refused 0x85)) n.method_not_allowed;
    entity_too_large = more (did (is_refused 0x8D)) n.entity_too_large;
    not_proxied = more (did (is_refused 0xA5)) n.not_proxied;
  }

  abbrev pub requests_with : RequestCounts → RequestCounts
  requests_with n = record {
    hit = more (did is_hit) n.hit;
    joined = more (did is_joined) n.joined;
    opened = more (did is_opened) n.opened;
    refused = refusals_with n.refused;
    overloaded = more (did is_overloaded) n.overloaded;
    no_record_room = more (did lacks_record_room) n.no_record_room;
    no_id = more (did lacks_id) n.no_id;
    again = more (did is_again) n.again;
  }

abbrev pub with_refusal : Code → RefusalCounts → RefusalCounts
with_refusal code n = refusals_with (λ is. is (Refused code)) n

abbrev pub with_request : Outcome → RequestCounts → RequestCounts
with_request outcome n = requests_with (λ is. is outcome) n
