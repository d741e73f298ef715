use Rattle.std.proofs.Common.{Bool, length, sym, ap, arith, ◌∙◌}
use Rattle.std.specs.Prelude.{count_by}
use Rattle.std.proofs.lemmas.List.Sums.{count_by-le-length}
use Rattle.coap_store_lru.specs.Recent.{recent_of}
use Rattle.coap_store.specs.Entries.{Entry, entry_size}
use Rattle.coap_store.specs.Freshness.{is_fresh}
use Rattle.coap_store.specs.Lists.{cut}
use Rattle.coap_store_lru.proofs.Evictions.{counted-beyond, cut-kept, cut-taken, exceeds-of, last-counted, last-length}
use Rattle.coap_store_lru.proofs.lru_store.cut_to.Goals as goal

pub over-preserved : goal.over-preserved
over-preserved g c =
    let es = c.over.recent.entries in
    let p : Entry → Bool = λ e. is_fresh c.args.room.now e.1 in
    let left = ap (λ m. m.entries) c.take_last.ensures.left in
    let exceeds = exceeds-of c.args.room.bytes c.args.room.entries es c.over.total c.over.invariant.those.counted (sym c.is_over.ensures ∙ c.over-test.true) in
    record {
      those = c.take_last.ensures.those;
      secret = ap (λ m. m.secret) c.take_last.ensures.left ∙ c.over.invariant.secret;
      hashed = c.take_last.ensures.secret ∙ c.over.invariant.hashed;
      alike = ap (λ m. cut entry_size c.args.room.bytes c.args.room.entries m.entries) c.take_last.ensures.left ∙ cut-taken c.args.room.bytes c.args.room.entries es exceeds ∙ c.over.invariant.alike;
      all = omega (arith, ap (λ n. n.entries) c.add.ensures, ap (λ n. n.entries) c.take_last.ensures.counted, c.over.invariant.all, ap length left, last-length es, c.len-laws.ensures.len, c.len-laws.ensures.fits);
      fresh = omega (arith, ap (λ n. n.fresh) c.add.ensures, ap (λ n. n.fresh) c.take_last.ensures.counted, c.over.invariant.fresh, ap (count_by p) left, last-counted p es, count_by-le-length p c.args.recent.now.entries, c.len-laws.ensures.len, c.len-laws.ensures.fits);
    }

pub take_last-requires-clause-hashed : goal.take_last-requires-clause-hashed
take_last-requires-clause-hashed g c = c.over.invariant.secret ∙ c.requires.hashed ∙ sym c.over.invariant.hashed

pub returns-clause-secret : goal.returns-clause-secret
returns-clause-secret g c = c.over.invariant.hashed

pub returns-clause-kept : goal.returns-clause-kept
returns-clause-kept g c =
    let es = c.over.recent.entries in
    let kept = cut-kept c.args.room.bytes c.args.room.entries es c.over.total c.over.invariant.those.counted (sym c.is_over.ensures ∙ c.over-test.false) in
    ap (λ l. recent_of l c.over.recent.secret) (sym kept ∙ c.over.invariant.alike) ∙ ap (λ n. recent_of (cut entry_size c.args.room.bytes c.args.room.entries c.args.recent.now.entries) n) c.over.invariant.secret

pub returns-clause-counted : goal.returns-clause-counted
returns-clause-counted g c =
    let es = c.over.recent.entries in
    let kept = cut-kept c.args.room.bytes c.args.room.entries es c.over.total c.over.invariant.those.counted (sym c.is_over.ensures ∙ c.over-test.false) in
    counted-beyond c.args.room.bytes c.args.room.entries c.args.room.now c.args.recent.now.entries es c.over.evicted (sym kept ∙ c.over.invariant.alike) c.over.invariant.all c.over.invariant.fresh
