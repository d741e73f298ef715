use Rattle.std.proofs.Common.{rules}
use Rattle.coap_store_list.proofs.list_store.ListStoreStore.with_limits.Goals as goal

pub returns-clause-limited : goal.returns-clause-limited
returns-clause-limited c = search rules
