use Rattle.std.proofs.Common.{◌≡◌, map, drop}
use Rattle.coap_target.specs.RouteTexts.{all_of}
use Rattle.coap_target.proofs.Gathering.{with_rest}
use Rattle.coap_target.proofs.route_texts.read_all.Given as goal

abbrev pub invariant-loop-entry : goal.invariant-loop-entry
invariant-loop-entry g l = all_of (map (g.R.Reader.part_of l.reader) l.entries) ≡ with_rest l.parts (all_of (map (g.R.Reader.part_of l.reader) (drop l.entry-index l.entries)))
