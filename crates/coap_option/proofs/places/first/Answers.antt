use Rattle.coap_message.specs.OptRef.{seen}
use Rattle.coap_option.specs.Places.{places}
use Rattle.coap_option.proofs.Picking.{found-next}
use Rattle.coap_option.proofs.places.first.Goals as goal

pub returns : goal.returns
returns g c = found-next seen (g.T.Test.holds c.args.test.now) (places c.args.options.now) _ _ c.next.result c.of-picked.ensures.list c.next.ensures.steps
