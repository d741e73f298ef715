use Rattle.std.proofs.Common.{◌≡◌, ◌+◌, ◌++◌, ℕ, List, Option, Some, None, Bor, length, map}
use Rattle.std.specs.Option.{option_copied}
use Rattle.percent_encoding.specs.Percent.{percent_decode}
use Rattle.coap_uri.specs.Uri.{decoded_parts, parts_left}
use Rattle.coap_uri.proofs.parts.split_decoded.Given as goal

-- the length of what is left to cut, and one more if there is anything left
abbrev pub left : Option (Bor (List ℕ)) → ℕ
left None = 0
left (Some text) = length text.now + 1

abbrev pub invariant-loop-rest : goal.invariant-loop-rest
invariant-loop-rest l = decoded_parts l.separator l.fn.text ≡ l.parts ++ map percent_decode (parts_left l.separator (option_copied l.rest))

abbrev pub decreases-loop-rest : goal.decreases-loop-rest
decreases-loop-rest l = left l.rest
