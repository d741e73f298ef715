use Rattle.std.proofs.Common.{◌≡◌}
use Rattle.coap_store.proofs.Tags.{first_tag}
use Rattle.coap_store.proofs.tag.tag_of.Given as goal

abbrev pub invariant-loop-option : goal.invariant-loop-option
invariant-loop-option l = first_tag l.options ≡ first_tag l.option-iterator
