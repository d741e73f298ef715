use Rattle.std.proofs.Common.{rules}
use Rattle.coap_exchange.proofs.index.Index.rekey.Goals as goal

pub rekey-requires-4-clause-room : goal.rekey-requires-4-clause-room
rekey-requires-4-clause-room c = search rules

pub returns : goal.returns
returns c = search rules

pub rekey-requires-5-clause-room : goal.rekey-requires-5-clause-room
rekey-requires-5-clause-room c = search rules
