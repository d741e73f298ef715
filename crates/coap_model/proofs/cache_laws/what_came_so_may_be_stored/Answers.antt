use Rattle.coap_model.proofs.ObtainedResponses.{came-obtained, renewed-obtained}
use Rattle.coap_model.proofs.cache_laws.what_came_so_may_be_stored.Goals as goal

pub returns : goal.returns
returns c = record { as_it_came = came-obtained; renewed = renewed-obtained }
