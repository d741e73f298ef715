use Rattle.std.proofs.Common.{◌≡◌, ◌+◌, ℕ, List, Option, Some, None, Bor, length}
use Rattle.std.specs.Option.{option_copied}
use Rattle.coap_target.proofs.Gathering.{with_rest}
use Rattle.coap_uri.specs.Uri.{parts_left}
use Rattle.coap_config.specs.ProxyOption.{bytes_of, comma, names_of, parts}
use Rattle.coap_config.proofs.proxy_option.read_names.Given as goal

-- a measure of what is left to split
abbrev pub left : Option (Bor (List ℕ)) → ℕ
left None = 0
left (Some text) = length text.now + 1

abbrev pub invariant-loop-rest : goal.invariant-loop-rest
invariant-loop-rest l = names_of (parts l.fn.text) ≡ with_rest (bytes_of l.names) (names_of (parts_left comma (option_copied l.rest)))

abbrev pub decreases-loop-rest : goal.decreases-loop-rest
decreases-loop-rest l = left l.rest
