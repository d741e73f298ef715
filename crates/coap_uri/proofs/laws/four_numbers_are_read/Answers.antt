use Rattle.coap_uri.proofs.Addresses.{ipv4_of-dotted, dotted-ipv4_of}
use Rattle.coap_uri.proofs.laws.four_numbers_are_read.Goals as goal

pub returns : goal.returns
returns c = record { read = ipv4_of-dotted; only = dotted-ipv4_of }
