use Rattle.std.proofs.Common.{◌≡◌, length, rules, ap, ◌∙◌}
use Rattle.std.proofs.lemmas.Result.{IfOk-weaker}
use Rattle.coap_uri.specs.Address.{groups_text}
use Rattle.coap_uri.proofs.EightGroups.{eight_groups-all}
use Rattle.coap_uri.proofs.address.ipv6_text.Goals as goal

-- a group for every two bytes
eight : (c : goal.After-groups_text) → length c.segments.result ≡ 8
eight c = search rules

pub returns : goal.returns
returns c = IfOk-weaker c.groups_text.result _ _ (λ text made. made ∙ (eight_groups-all c.segments.result (eight c) ∙ ap groups_text (c.segments.ensures ∙ c.from_octets.ensures))) c.groups_text.ensures
