use Rattle.std.proofs.Common.{sym, ◌∙◌}
use Rattle.coap_store.specs.Entries.{entry_key}
use Rattle.coap_store.specs.Lists.{has_key}
use Rattle.coap_store.proofs.Found.{IsTaken, others-none, position-none, position-taken}
use Rattle.coap_store_list.proofs.list_store.take_out.Goals as goal

pub returns-in-Some-clause-entry : goal.returns-in-Some-clause-entry
returns-in-Some-clause-entry c =
    let k = c.args.key.now in
    let items = c.args.entries.now.items in
    let is : IsTaken entry_key k items c.in-Some.place c.remove.result = position-taken entry_key k items c.in-Some.place c.remove.result c.requires (rw c.deref.ensures.value at (sym c.in-Some.ensures)) c.remove.ensures.value in
    sym is.found

pub returns-in-Some-clause-others : goal.returns-in-Some-clause-others
returns-in-Some-clause-others c =
    let k = c.args.key.now in
    let items = c.args.entries.now.items in
    let is : IsTaken entry_key k items c.in-Some.place c.remove.result = position-taken entry_key k items c.in-Some.place c.remove.result c.requires (rw c.deref.ensures.value at (sym c.in-Some.ensures)) c.remove.ensures.value in
    c.remove.ensures.items ∙ is.left

pub returns-in-None-clause-entry : goal.returns-in-None-clause-entry
returns-in-None-clause-entry c = sym (position-none (has_key entry_key c.args.key.now) c.args.entries.now.items (rw c.deref.ensures.value at (sym c.in-None.ensures)))

pub returns-in-None-clause-others : goal.returns-in-None-clause-others
returns-in-None-clause-others c = sym (others-none entry_key c.args.key.now c.args.entries.now.items (position-none (has_key entry_key c.args.key.now) c.args.entries.now.items (rw c.deref.ensures.value at (sym c.in-None.ensures))))
