use Rattle.coap_pending.specs.Exchanges.{is_joinable}
use Rattle.coap_store.specs.Digests.{digest_of_key}
use Rattle.coap_exchange.specs.Index.{cache_key_of}
use Rattle.coap_exchange.proofs.Seeking.{joinable-by-key, key-listed}
use Rattle.coap_exchange.proofs.exchanges.Exchanges.joinable_as.Goals as goal

pub first_sought-requires-clause-rising : goal.first_sought-requires-clause-rising
first_sought-requires-clause-rising c = c.self.invariant.2.rising

pub first_sought-requires-clause-listed : goal.first_sought-requires-clause-listed
first_sought-requires-clause-listed c = rw (c.key.ensures, c.digests-digest.ensures) (key-listed (cache_key_of c.self.inside.index.secret) (is_joinable c.args.key.now) (digest_of_key c.self.inside.index.secret c.args.key.now) c.self.inside.table.limit c.self.inside.table.items c.self.inside.index.cache_keys (joinable-by-key c.self.inside.index.secret c.args.key.now) c.self.invariant.2.cache_keys)
