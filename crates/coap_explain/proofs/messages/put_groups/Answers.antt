use Rattle.std.proofs.Common.{refl, ◌≡◌, ◌∙◌}
use Rattle.std.specs.List.{slice_index}
use Rattle.std.specs.Net.Addr.{segments_of}
use Rattle.coap_explain.proofs.Writing.{appends-last}
use Rattle.coap_explain.specs.Targets.{first_groups, last_groups}
use Rattle.coap_explain.proofs.messages.put_groups.Goals as goal

pub returns : goal.returns
returns g c =
    let s = c.segments.result in
    let is : s ≡ segments_of c.args.octets = c.segments.ensures ∙ c.from_octets.ensures in
    rw (← is)
    (appends-last c.put_last_groups.result (g.W.Write.contents c.args.line.now) (g.W.Write.contents c.put_first_groups.new.line) (g.W.Write.contents c.put_last_groups.new.line)
    (first_groups (slice_index s 0) (slice_index s 1) (slice_index s 2) (slice_index s 3))
    (last_groups (slice_index s 4) (slice_index s 5) (slice_index s 6) (slice_index s 7))
    _ c.in_ok-put_first_groups.ensures c.put_last_groups.ensures refl)
