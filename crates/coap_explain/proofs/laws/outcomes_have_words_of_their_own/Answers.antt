use Rattle.std.proofs.Common.{◌≡◌, refl, sym, ap, ◌∙◌}
use Rattle.coap_model.specs.declared.report.Outcome.{Outcome}
use Rattle.coap_model.specs.declared.report.Outcome.TheVariants as outcomes
use Rattle.coap_explain.specs.Words.{all_words, outcome_number, outcome_word, place_of}
use Rattle.coap_explain.proofs.laws.outcomes_have_words_of_their_own.Goals as goal

-- the word of an outcome stands at its number
placed : (a : Outcome) → place_of (outcome_word a) all_words ≡ outcome_number a
placed outcomes.Ignored = refl
placed outcomes.Rejected = refl
placed outcomes.Again = refl
placed outcomes.NoRecordRoom = refl
placed (outcomes.Refused code) = refl
placed outcomes.Hit = refl
placed outcomes.Joined = refl
placed outcomes.Opened = refl
placed outcomes.Overloaded = refl
placed outcomes.NoId = refl
placed (outcomes.Answered storing) = refl
placed outcomes.Acked = refl
placed outcomes.SentRequest = refl
placed outcomes.Resent = refl
placed outcomes.Delivered = refl
placed outcomes.GaveUp = refl
placed outcomes.Idle = refl

pub returns-clause-places : goal.returns-clause-places
returns-clause-places c = placed

pub returns-clause-distinct : goal.returns-clause-distinct
returns-clause-distinct c = λ a b e. sym (placed a) ∙ ap (λ w. place_of w all_words) e ∙ placed b
