use Rattle.std.proofs.Common.{rules}
use Rattle.coap_store_list.proofs.list_store.forget_entry.Goals as goal

pub returns-clause-found : goal.returns-clause-found
returns-clause-found c = search rules

pub returns-clause-others : goal.returns-clause-others
returns-clause-others c = search rules

pub returns-clause-room : goal.returns-clause-room
returns-clause-room c = search rules
