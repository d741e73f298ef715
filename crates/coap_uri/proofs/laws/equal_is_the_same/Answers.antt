use Rattle.coap_endpoint.proofs.Equality.{Tells-both}
use Rattle.coap_uri.specs.Uris.{same_host, same_uri}
use Rattle.coap_uri.proofs.Uris.{Tells-host, Tells-uri}
use Rattle.coap_uri.proofs.laws.equal_is_the_same.Goals as goal

pub returns : goal.returns
returns c = record { hosts = Tells-both same_host Tells-host; uris = Tells-both same_uri Tells-uri }
