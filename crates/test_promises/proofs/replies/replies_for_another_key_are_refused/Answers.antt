use Rattle.std.proofs.Common.{refl}
use Rattle.test_promises.proofs.CachedReplies.{accepting_shown, not_to_accepting, not_to_part, part_shown}
use Rattle.test_promises.proofs.replies.replies_for_another_key_are_refused.Goals as goal

pub returns : goal.returns
returns c = record { path = not_to_part; but_for_the_path = (refl, part_shown); accept = not_to_accepting; but_for_the_accept = (refl, accepting_shown) }
