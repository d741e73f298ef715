use Rattle.coap_model.proofs.ForgedWords.{block_if_passed, not_blocked, not_older, not_untagged, older_if_before, renewed_obtained, untagged_if_tagged}
use Rattle.coap_model.proofs.word_examples.forged_validations_are_refused.Goals as goal

pub returns : goal.returns
returns c = record { renewed = renewed_obtained; older = not_older; but_for_the_order = older_if_before; untagged = not_untagged; but_for_the_tag = untagged_if_tagged; blocked = not_blocked; but_for_the_block = block_if_passed }
