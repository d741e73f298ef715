-- What is found out about a message that arrived.
use Rattle.std.specs.Prelude.{ℕ, List, Option, Some, None}
use Rattle.std.specs.Option.{option_copied}
use Rattle.coap_dedup.specs.declared.seen.Seen.{Seen}
use Rattle.coap_dedup.specs.declared.seen.Seen.TheVariants.{New, Again}

-- nothing for a new one; for one that was seen before, the reply that was kept, if there was one
abbrev pub found : Seen → Option (Option (List ℕ))
found New = None
found (Again reply) = Some (option_copied reply)
