use Rattle.std.proofs.Common.{refl}
use Rattle.coap_stats.specs.Tally.{came, did, is_again, is_answered, is_given_up, is_hit, is_joined, is_kept, is_not_stored, is_opened, is_overloaded, is_refused, is_resent, is_too_large, lacks_id, lacks_memory, lacks_record_room, tally_of, was_lost, was_not_taken, was_taken}
use Rattle.coap_stats.proofs.Counting.{is-number, told-is}
use Rattle.coap_stats.proofs.laws.counts_are_numbers_of_turns.Goals as goal

pub returns : goal.returns
returns c = record {
  told = told-is;
  numbers = λ told. record {
    received = is-number (λ ts. (tally_of ts).received) came refl (λ t before. refl) told;
    sent = is-number (λ ts. (tally_of ts).sent) was_taken refl (λ t before. refl) told;
    send_faults = is-number (λ ts. (tally_of ts).send_faults) was_not_taken refl (λ t before. refl) told;
    lost = is-number (λ ts. (tally_of ts).lost) was_lost refl (λ t before. refl) told;
    hit = is-number (λ ts. (tally_of ts).requests.hit) (did is_hit) refl (λ t before. refl) told;
    joined = is-number (λ ts. (tally_of ts).requests.joined) (did is_joined) refl (λ t before. refl) told;
    opened = is-number (λ ts. (tally_of ts).requests.opened) (did is_opened) refl (λ t before. refl) told;
    overloaded = is-number (λ ts. (tally_of ts).requests.overloaded) (did is_overloaded) refl (λ t before. refl) told;
    no_record_room = is-number (λ ts. (tally_of ts).requests.no_record_room) (did lacks_record_room) refl (λ t before. refl) told;
    no_id = is-number (λ ts. (tally_of ts).requests.no_id) (did lacks_id) refl (λ t before. refl) told;
    again = is-number (λ ts. (tally_of ts).requests.again) (did is_again) refl (λ t before. refl) told;
    bad_request = is-number (λ ts. (tally_of ts).requests.refused.bad_request) (did (is_refused 0x80)) refl (λ t before. refl) told;
    bad_option = is-number (λ ts. (tally_of ts).requests.refused.bad_option) (did (is_refused 0x82)) refl (λ t before. refl) told;
    not_found = is-number (λ ts. (tally_of ts).requests.refused.not_found) (did (is_refused 0x84)) refl (λ t before. refl) told;
    method_not_allowed = is-number (λ ts. (tally_of ts).requests.refused.method_not_allowed) (did (is_refused 0x85)) refl (λ t before. refl) told;
    entity_too_large = is-number (λ ts. (tally_of ts).requests.refused.entity_too_large) (did (is_refused 0x8D)) refl (λ t before. refl) told;
    not_proxied = is-number (λ ts. (tally_of ts).requests.refused.not_proxied) (did (is_refused 0xA5)) refl (λ t before. refl) told;
    kept = is-number (λ ts. (tally_of ts).answers.kept) (did (is_answered is_kept)) refl (λ t before. refl) told;
    too_large = is-number (λ ts. (tally_of ts).answers.too_large) (did (is_answered is_too_large)) refl (λ t before. refl) told;
    no_memory = is-number (λ ts. (tally_of ts).answers.no_memory) (did (is_answered lacks_memory)) refl (λ t before. refl) told;
    not_stored = is-number (λ ts. (tally_of ts).answers.not_stored) (did (is_answered is_not_stored)) refl (λ t before. refl) told;
    resent = is-number (λ ts. (tally_of ts).resent) (did is_resent) refl (λ t before. refl) told;
    gave_up = is-number (λ ts. (tally_of ts).gave_up) (did is_given_up) refl (λ t before. refl) told;
  };
}
