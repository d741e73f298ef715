use Rattle.coap_model.proofs.ForgedHits.{as_it_is, was_changed, was_unchanged, after_a_change, too_late, as_received, from_cache, not_from_cache, from_cache_but_for_the_change, overtaken_kept, two_exchanges}
use Rattle.coap_model.proofs.cache_laws.forged_hits_are_refused.Goals as goal

pub returns : goal.returns
returns c =
    record {
      as_it_is = as_it_is;
      changed = was_changed;
      unchanged = was_unchanged;
      after_a_change = after_a_change;
      too_late = too_late;
      as_received = as_received;
      from_cache = from_cache;
      not_from_cache = not_from_cache;
      but_for_the_change = from_cache_but_for_the_change;
      overtaken = overtaken_kept;
      two_exchanges = two_exchanges;
    }
