use Rattle.coap_target.proofs.Gathering.{map-map}
use Rattle.coap_target.proofs.route_texts.read_names.Goals as goal

pub returns : goal.returns
returns c = rw map-map c.read_all.ensures
