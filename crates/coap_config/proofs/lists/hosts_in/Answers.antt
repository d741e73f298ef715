use Rattle.std.proofs.Common.{◌≡◌, ◌∙◌, [], ◌∷◌, ◌++◌, map, Ok, ap, string_bytes}
use Rattle.std.proofs.lemmas.List.{map-append}
use Rattle.toml.specs.View.{members_view, view}
use Rattle.coap_target.specs.RouteTexts.{pair_of}
use Rattle.coap_config.specs.Config.{host_said}
use Rattle.coap_config.specs.ConfigView.{pairs_of}
use Rattle.coap_config.specs.Tree.{each_member, with_front}
use Rattle.coap_config.proofs.Reading.{one-more}
use Rattle.coap_config.proofs.lists.hosts_in.Goals as goal

pub loop-name-preserved : goal.loop-name-preserved
loop-name-preserved c =
    let l = c.loop-name in
    let host = pair_of c.in_ok-read_host.field-0 in
    let said : host_said (string_bytes c.in-Some.name.now) (view c.in-Some.value.now) ≡ Ok host =
    rw c.as_str.ensures.value at c.in_ok-read_host.ensures in
    let more : pairs_of c.push.new.self ≡ pairs_of l.hosts ++ host ∷ [] =
    ap (map pair_of) c.in_ok-push.ensures.items ∙ map-append pair_of l.hosts.items (c.in_ok-read_host.field-0 ∷ []) in
    l.invariant
    ∙ ap (λ es. with_front (pairs_of l.hosts) (each_member host_said (members_view es))) c.in-Some.ensures.steps
    ∙ one-more (pairs_of l.hosts) (pairs_of c.push.new.self) _ host (each_member host_said (members_view c.next.new.self)) said more
