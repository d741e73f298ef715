-- Why exchanges were opened.
use Rattle.std.specs.Prelude.{true}
use Rattle.coap_model.specs.declared.deed.Held.{Held}
use Rattle.coap_model.specs.declared.deed.Held.TheVariants.{NotGet, Absent, Marked, Stale}
use Rattle.coap_counts.specs.Requests.{more}
use Rattle.coap_counts.specs.declared.openings.OpeningCounts.{OpeningCounts}

abbrev pub no_openings : OpeningCounts
no_openings = record { absent = 0; stale = 0; marked = 0; not_get = 0 }

-- an exchange was opened while the cache had this for its request
abbrev pub with_opening : Held → OpeningCounts → OpeningCounts
with_opening NotGet n = record n { not_get = more true n.not_get }
with_opening Absent n = record n { absent = more true n.absent }
with_opening Marked n = record n { marked = more true n.marked }
with_opening Stale n = record n { stale = more true n.stale }
