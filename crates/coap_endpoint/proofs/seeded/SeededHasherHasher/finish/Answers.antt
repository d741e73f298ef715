use Rattle.std.proofs.Common.{rules}
use Rattle.coap_endpoint.proofs.seeded.SeededHasherHasher.finish.Goals as goal

pub returns : goal.returns
returns c = search rules
