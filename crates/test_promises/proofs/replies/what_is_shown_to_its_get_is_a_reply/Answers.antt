use Rattle.test_promises.proofs.CachedReplies.{reply-whole}
use Rattle.test_promises.proofs.replies.what_is_shown_to_its_get_is_a_reply.Goals as goal

pub returns : goal.returns
returns c = record { whole = reply-whole }
