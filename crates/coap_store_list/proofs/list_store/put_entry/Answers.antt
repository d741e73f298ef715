use Rattle.std.proofs.Common.{rules, sym, ◌∙◌}
use Rattle.coap_option.proofs.Picking.{on_err}
use Rattle.coap_store.specs.Entries.{entry_key}
use Rattle.coap_store.proofs.Found.{others-absent}
use Rattle.coap_store_list.proofs.list_store.put_entry.Goals as goal

pub returns-in_err-insert-clause-err : goal.returns-in_err-insert-clause-err
returns-in_err-insert-clause-err c =
    on_err c.from_residual.result
    (c.in_err-insert.ensures.items ∙ c.forget_entry.ensures.others
    ∙ others-absent entry_key c.args.key c.args.entries.now.items (sym c.forget_entry.ensures.found ∙ c.if-forget_entry.false))

pub returns-then-forget_entry-clause-ok : goal.returns-then-forget_entry-clause-ok
returns-then-forget_entry-clause-ok c = search rules
