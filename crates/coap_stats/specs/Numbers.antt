-- The counts of a tally as numbers of turns.
use Rattle.std.specs.Prelude.{◌≡◌, ℕ, Bool, List, count_by}
use Rattle.coap_model.specs.declared.report.Outcome.{Outcome}
use Rattle.coap_core.specs.Told.{Told}
use Rattle.coap_stats.specs.Tally.{came, capped, did, is_again, is_answered, is_given_up, is_hit, is_joined, is_kept, is_not_stored, is_opened, is_overloaded, is_refused, is_resent, is_too_large, lacks_id, lacks_memory, lacks_record_room, was_lost, was_not_taken, was_taken}
use Rattle.coap_stats.specs.declared.tally.Tally.{Tally}

-- a count is the number of turns that pass a test
abbrev pub IsNumber : List Told → (Told → Bool) → ℕ → Type 0
IsNumber told test n = n ≡ capped (count_by test told)

-- it is the number of turns with such an outcome
abbrev pub IsNumberOf : List Told → (Outcome → Bool) → ℕ → Type 0
IsNumberOf told is n = IsNumber told (did is) n

pub record AreNumbers (told : List Told) (n : Tally) : Type 0 where
  pub received : IsNumber told came n.received
  pub sent : IsNumber told was_taken n.sent
  pub send_faults : IsNumber told was_not_taken n.send_faults
  pub lost : IsNumber told was_lost n.lost
  pub hit : IsNumberOf told is_hit n.requests.hit
  pub joined : IsNumberOf told is_joined n.requests.joined
  pub opened : IsNumberOf told is_opened n.requests.opened
  pub bad_request : IsNumberOf told (is_refused 0x80) n.requests.refused.bad_request
  pub bad_option : IsNumberOf told (is_refused 0x82) n.requests.refused.bad_option
  pub not_found : IsNumberOf told (is_refused 0x84) n.requests.refused.not_found
  pub method_not_allowed :
      IsNumberOf told (is_refused 0x85) n.requests.refused.method_not_allowed
  pub entity_too_large : IsNumberOf told (is_refused 0x8D) n.requests.refused.entity_too_large
  pub not_proxied : IsNumberOf told (is_refused 0xA5) n.requests.refused.not_proxied
  pub overloaded : IsNumberOf told is_overloaded n.requests.overloaded
  pub no_record_room : IsNumberOf told lacks_record_room n.requests.no_record_room
  pub no_id : IsNumberOf told lacks_id n.requests.no_id
  pub again : IsNumberOf told is_again n.requests.again
  pub kept : IsNumberOf told (is_answered is_kept) n.answers.kept
  pub too_large : IsNumberOf told (is_answered is_too_large) n.answers.too_large
  pub no_memory : IsNumberOf told (is_answered lacks_memory) n.answers.no_memory
  pub not_stored : IsNumberOf told (is_answered is_not_stored) n.answers.not_stored
  pub resent : IsNumberOf told is_resent n.resent
  pub gave_up : IsNumberOf told is_given_up n.gave_up
