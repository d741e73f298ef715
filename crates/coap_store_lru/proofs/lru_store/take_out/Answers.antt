use Rattle.std.proofs.Common.{◌≡◌, ◌-◌, ◌&&◌, not, Some, is_some, sym, ap, subst, arith, ◌∙◌}
use Rattle.coap_store.specs.Entries.{Entry, entry_key}
use Rattle.coap_store_lru.specs.Indexing.{AreThoseOf, is_indexed}
use Rattle.coap_store_lru.specs.Recent.{recent_of}
use Rattle.coap_store.specs.Lists.{of_key}
use Rattle.coap_store.specs.declared.key.CacheKey.{CacheKey}
use Rattle.coap_store.specs.Keys.{same_key}
use Rattle.coap_store.proofs.Distinct.{of_key-key}
use Rattle.coap_store.proofs.Found.{others-none}
use Rattle.coap_store_lru.proofs.Kept.{AreThoseOf-others}
use Rattle.coap_store_lru.proofs.Recency.{not_held, total-others}
use Rattle.coap_store_lru.proofs.lru_store.take_out.Goals as goal

pub returns-in_default-clause-found : goal.returns-in_default-clause-found
returns-in_default-clause-found g c =
    let k = c.args.key.now in
    let es = c.args.recent.now.entries in
    ap is_some (sym (not_held k es (sym (c.requires.those.indexed_are k) ∙ c.in_default.ensures.missing)))

pub returns-in_default-clause-others : goal.returns-in_default-clause-others
returns-in_default-clause-others g c =
    let k = c.args.key.now in
    let es = c.args.recent.now.entries in
    ap (λ l. recent_of l c.args.recent.now.secret) (sym (others-none entry_key k es (not_held k es (sym (c.requires.those.indexed_are k) ∙ c.in_default.ensures.missing))))

pub overflow_sub-total : goal.overflow_sub-total
overflow_sub-total g c =
    let k = c.in-Some.own.now.key in
    let es = c.args.recent.now.entries in
    let x : Entry = (c.in-Some-remove.of.key, c.in-Some-remove.stored) in
    omega (arith, c.bytes_of.ensures, c.requires.those.counted, total-others k es x c.requires.those.distinct (sym c.in-Some-remove.ensures.value))

pub returns-in-Some-remove-clause-those : goal.returns-in-Some-remove-clause-those
returns-in-Some-remove-clause-those g c =
    let k = c.in-Some.own.now.key in
    let es = c.args.recent.now.entries in
    let x : Entry = (c.in-Some-remove.of.key, c.in-Some-remove.stored) in
    let found : of_key entry_key k es ≡ Some x = sym c.in-Some-remove.ensures.value in
    let key : x.0 ≡ k = of_key-key entry_key k es x found in
    let indexed = is_indexed c.args.index.now.secret c.args.index.now.groups in
    let new = is_indexed c.remove-in-Some-remove.new.self.secret c.remove-in-Some-remove.new.self.groups in
    let left = ap (λ m. m.entries) c.in-Some-remove.ensures.entries in
    subst (λ l. AreThoseOf l (c.args.total.now - c.bytes_of.result) new) (sym left)
    (AreThoseOf-others es c.args.total.now indexed c.requires.those k x new (c.args.total.now - c.bytes_of.result) found
    (λ q. c.remove-in-Some-remove.ensures.left q ∙ ap (λ (j : CacheKey). not (same_key j q) && indexed q) key)
    (omega (arith, c.bytes_of.ensures, c.requires.those.counted, total-others k es x c.requires.those.distinct found)))

pub returns-in-None-clause-those : goal.returns-in-None-clause-those
returns-in-None-clause-those g c =
    let k = c.in-Some.own.now.key in
    let es = c.args.recent.now.entries in
    let indexed = is_indexed c.args.index.now.secret c.args.index.now.groups in
    let left = ap (λ m. m.entries) c.in-None.ensures.entries ∙ others-none entry_key k es (sym c.in-None.ensures.value) in
    subst (λ l. AreThoseOf l c.args.total.now indexed) (sym left) c.requires.those
