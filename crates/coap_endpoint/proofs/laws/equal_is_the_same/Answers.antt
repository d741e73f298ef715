use Rattle.coap_endpoint.specs.Endpoint.{same_ip, same_endpoint}
use Rattle.coap_endpoint.specs.Equality.{same_target}
use Rattle.coap_endpoint.proofs.Equality.{Tells-both, Tells-ip, Tells-endpoint, Tells-target}
use Rattle.coap_endpoint.proofs.laws.equal_is_the_same.Goals as goal

pub returns : goal.returns
returns c = record { ips = Tells-both same_ip Tells-ip; endpoints = Tells-both same_endpoint Tells-endpoint; targets = Tells-both same_target Tells-target }
