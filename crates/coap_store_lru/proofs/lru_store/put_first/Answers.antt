use Rattle.std.proofs.Common.{◌≡◌, ◌+◌, ◌-◌, ◌&&◌, not, Some, None, sym, ap, subst, arith, ◌∙◌}
use Rattle.std.specs.Option.{option_map}
use Rattle.coap_store.specs.Digested.{Digested}
use Rattle.coap_store.specs.Entries.{Entry, entry_key, entry_size}
use Rattle.coap_store_lru.specs.Indexing.{AreThoseOf, is_indexed}
use Rattle.coap_store_lru.specs.Recent.{Recent, shown}
use Rattle.coap_store.specs.Keys.{same_key}
use Rattle.coap_store.specs.Lists.{of_key, total}
use Rattle.coap_store.proofs.Found.{others-none}
use Rattle.coap_store_lru.proofs.Kept.{AreThoseOf-along, AreThoseOf-front, added_removed}
use Rattle.coap_store_lru.proofs.Recency.{total-others}
use Rattle.coap_store_lru.proofs.lru_store.put_first.Goals as goal

pub overflow_sub-total : goal.overflow_sub-total
overflow_sub-total g c =
    let k = c.args.entry.key.key in
    let es = c.args.recent.now.entries in
    let old : Entry = (c.in-Ok-Some.of.key, c.in-Ok-Some.former) in
    let found : of_key entry_key k es ≡ Some old = sym c.in-Ok-Some.ensures.old ∙ ap (option_map shown) c.in-Ok-Some.field-0-is in
    omega (arith, c.bytes_of-former.ensures, c.requires.those.counted, total-others k es old c.requires.those.distinct found)

pub returns-in-Ok-Some-clause-those : goal.returns-in-Ok-Some-clause-those
returns-in-Ok-Some-clause-those g c =
    let k = c.args.entry.key.key in
    let es = c.args.recent.now.entries in
    let indexed = is_indexed c.args.index.now.secret c.args.index.now.groups in
    let new = is_indexed c.index_new.new.index.secret c.index_new.new.index.groups in
    let old : Entry = (c.in-Ok-Some.of.key, c.in-Ok-Some.former) in
    let found : of_key entry_key k es ≡ Some old = sym c.in-Ok-Some.ensures.old ∙ ap (option_map shown) c.in-Ok-Some.field-0-is in
    let left = c.args.total.now - c.bytes_of-former.result + c.args.entry.size in
    subst (λ (m : Recent). AreThoseOf m.entries (c.args.total.now - c.bytes_of-former.result + c.args.entry.size) new) (sym c.in-Ok-Some.ensures.ok)
    (AreThoseOf-front es c.args.total.now indexed c.requires.those (k, c.args.entry.stored) new left (λ q. c.in_ok-index_new.ensures.indexed q)
    (omega (arith, c.bytes_of-former.ensures, c.args.entry.measured, c.requires.few, c.requires.small, c.requires.those.counted, total-others k es old c.requires.those.distinct found)))

pub returns-in-Ok-None-clause-those : goal.returns-in-Ok-None-clause-those
returns-in-Ok-None-clause-those g c =
    let k = c.args.entry.key.key in
    let es = c.args.recent.now.entries in
    let indexed = is_indexed c.args.index.now.secret c.args.index.now.groups in
    let new = is_indexed c.index_new.new.index.secret c.index_new.new.index.groups in
    let none : of_key entry_key k es ≡ None = sym c.in-Ok-None.ensures.old ∙ ap (option_map shown) c.in-Ok-None.field-0-is in
    subst (λ (m : Recent). AreThoseOf m.entries (c.args.total.now + c.args.entry.size) new) (sym c.in-Ok-None.ensures.ok)
    (AreThoseOf-front es c.args.total.now indexed c.requires.those (k, c.args.entry.stored) new (c.args.total.now + c.args.entry.size) (λ q. c.in_ok-index_new.ensures.indexed q)
    (omega (arith, c.args.entry.measured, c.requires.small, c.requires.those.counted, ap (total entry_size) (others-none entry_key k es none))))

pub returns-in-Err-clause-those : goal.returns-in-Err-clause-those
returns-in-Err-clause-those g c =
    let k = c.args.entry.key.key in
    let es = c.args.recent.now.entries in
    let indexed = is_indexed c.args.index.now.secret c.args.index.now.groups in
    let added = is_indexed c.index_new.new.index.secret c.index_new.new.index.groups in
    let new = is_indexed c.remove.new.self.secret c.remove.new.self.groups in
    subst (λ (m : Recent). AreThoseOf m.entries c.args.total.now new) (sym c.in-Err.ensures.err)
    (AreThoseOf-along es c.args.total.now indexed c.requires.those new
    (λ q. c.remove.ensures.left q ∙ ap (λ (d : Digested). not (same_key d.key q) && added q) c.in-Err.ensures.refused
    ∙ ap (λ b. not (same_key k q) && b) (c.in_ok-index_new.ensures.indexed q) ∙ added_removed indexed es k c.requires.those.indexed_are c.in-Err.ensures.err_new q))

pub returns-in_err-index_new-clause-those : goal.returns-in_err-index_new-clause-those
returns-in_err-index_new-clause-those g c =
    let es = c.args.recent.now.entries in
    let indexed = is_indexed c.args.index.now.secret c.args.index.now.groups in
    let new = is_indexed c.index_new.new.index.secret c.index_new.new.index.groups in
    AreThoseOf-along es c.args.total.now indexed c.requires.those new (λ q. c.in_err-index_new.ensures.indexed q)
