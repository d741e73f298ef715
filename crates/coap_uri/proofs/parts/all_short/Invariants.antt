use Rattle.std.proofs.Common.{◌≡◌}
use Rattle.std.specs.List.{list_all}
use Rattle.coap_uri.specs.Uri.{is_short}
use Rattle.coap_uri.proofs.parts.all_short.Given as goal

abbrev pub invariant-loop-part : goal.invariant-loop-part
invariant-loop-part l = list_all is_short l.parts ≡ list_all is_short l.part-iterator
