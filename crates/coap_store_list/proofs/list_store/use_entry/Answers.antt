use Rattle.std.proofs.Common.{rules, sym, ◌∙◌}
use Rattle.coap_store.specs.Entries.{entry_key}
use Rattle.coap_store.proofs.Found.{others-none}
use Rattle.coap_store_list.proofs.list_store.use_entry.Goals as goal

pub returns-in-None : goal.returns-in-None
returns-in-None c = rw (← c.in-None.ensures.entry) (c.in-None.ensures.others ∙ others-none entry_key c.args.key.now c.args.entries.now.items (sym c.in-None.ensures.entry))

pub returns-in-Some : goal.returns-in-Some
returns-in-Some c = search rules
