use Rattle.std.proofs.Common.{rules}
use Rattle.coap_core.proofs.state.new_tables.Goals as goal

pub returns-clause-exchanges : goal.returns-clause-exchanges
returns-clause-exchanges c = search rules
