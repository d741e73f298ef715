use Rattle.std.proofs.Common.{inl, inr, refl}
use Rattle.coap_model.specs.CacheExamples.{asked_past}
use Rattle.coap_model.proofs.ForgedHits.{first_obtained}
use Rattle.test_promises.proofs.Aging.{ageless_fetched, ageless_message, ageless_valid_asked, ageless_valid_fits, ageless_valid_tags, not_ageless, not_ageless_valid}
use Rattle.test_promises.proofs.ages.responses_with_a_max_age_of_0_are_refused.Goals as goal

pub returns : goal.returns
returns c =
    record {
      with_one = (first_obtained asked_past (inr (inr (inr (inr (inl refl))))) (inr (inr (inr (inl refl))))).obtained;
      without = not_ageless;
      but_for_its_max_age = (ageless_fetched, ageless_message, refl);
      renewed = not_ageless_valid;
      but_for_the_max_age_of_the_validation = (ageless_valid_asked, ageless_valid_tags, refl, ageless_valid_fits, refl);
    }
