use Rattle.std.proofs.Common.{◌≡◌, ◌++◌, drop, take, sym, ap, ◌∙◌, rules}
use Rattle.std.proofs.lemmas.List.{append_cancel_left, take-append-drop, take_rest}
use Rattle.coap_store.specs.Entries.{entry_size}
use Rattle.coap_store.specs.Evicting.{beyond, evictions_of}
use Rattle.coap_store.specs.Lists.{cut}
use Rattle.coap_store.proofs.Cuts.{cut-beyond}
use Rattle.coap_store_list.proofs.list_store.cut_to.Goals as goal

pub returns-clause-kept : goal.returns-clause-kept
returns-clause-kept c = search rules

-- what is dropped stands behind what is kept
pub returns-clause-counted : goal.returns-clause-counted
returns-clause-counted c =
    let xs = c.args.entries.now.items in
    let n = c.count_fitting-count.result in
    let rest = beyond entry_size c.args.bytes c.args.most xs in
    let fits : take n xs ≡ cut entry_size c.args.bytes c.args.most xs = rw c.deref.ensures.value at c.count_fitting-count.ensures.cut in
    let split : take n xs ++ drop n xs ≡ take n xs ++ rest = take-append-drop n xs ∙ sym (ap (λ l. l ++ rest) fits ∙ cut-beyond entry_size c.args.bytes c.args.most xs) in
    c.count_evicted-evicted.ensures
    ∙ ap (evictions_of c.args.now) (take_rest c.deref-2.result.now n ∙ ap (drop n) c.deref-2.ensures.value ∙ append_cancel_left (take n xs) (drop n xs) rest split)
