use Rattle.std.proofs.Common.{sym}
use Rattle.coap_option.proofs.Picking.{on_err}
use Rattle.coap_store_lru.specs.Indexing.{is_indexed}
use Rattle.coap_store_lru.proofs.Kept.{held_already}
use Rattle.coap_store_lru.proofs.Recency.{none_stored, some_stored}
use Rattle.coap_store_lru.proofs.lru_store.index_new.Goals as goal

pub returns-in-Some-clause-indexed : goal.returns-in-Some-clause-indexed
returns-in-Some-clause-indexed g c =
    let k = c.args.key.now.key in
    let es = c.args.recent.now.entries in
    let there = some_stored k es c.in-Some.field-0.now (sym c.in-Some.ensures) in
    held_already (is_indexed c.args.index.now.secret c.args.index.now.groups) es k there.0 c.requires.those there.1

pub returns-in-None-clause-err_new : goal.returns-in-None-clause-err_new
returns-in-None-clause-err_new g c = on_err c.insert.result (none_stored c.args.key.now.key c.args.recent.now.entries (sym c.in-None.ensures))
