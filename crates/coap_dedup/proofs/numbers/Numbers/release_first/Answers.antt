use Rattle.std.proofs.Common.{◌≡◌, [], ◌∷◌, ◌++◌, None, cond, false, true, ap, subst, sym, ◌∙◌}
use Rattle.std.proofs.lemmas.Bool.{not-true, not-false}
use Rattle.std.specs.BTreeMap.{get}
use Rattle.std.specs.Ordering.{is_eq}
use Rattle.coap_dedup.specs.declared.key.Key.{Key}
use Rattle.coap_dedup.specs.Indexing.{key_cmp}
use Rattle.coap_dedup.specs.Keys.{key_of, same_key}
use Rattle.coap_dedup.proofs.Numbering.{first-goes, first-stays}
use Rattle.coap_dedup.proofs.Sourcing.{AreSourced-rest}
use Rattle.coap_dedup.proofs.numbers.Numbers.release_first.Goals as goal

pub returns-then-ne-clause-numbered : goal.returns-then-ne-clause-numbered
returns-then-ne-clause-numbered c = λ records apart are.
    let old = c.args.self.now in
    let r = c.args.first.now in
    let x = c.args.last.now in
    let other : same_key (key_of r) (key_of x) ≡ false =
    ap (λ k. same_key (key_of r) k) (sym c.key.ensures) ∙ ap (λ k. same_key k c.key.result) (sym c.key-key.ensures) ∙ not-true (same_key c.key-key.result c.key.result) (sym c.ne.ensures ∙ c.if-ne.true) in
    record {
      by_message =
          first-goes old.first old.by_message r records x are.by_message c.remove.new.self apart.0 other
          (subst (λ (j : Key). (k : Key) → get key_cmp c.remove.new.self k ≡ cond (is_eq (key_cmp j k)) None (get key_cmp old.by_message k)) c.key-key.ensures c.remove.ensures.updates.0);
      by_source = AreSourced-rest old.first old.by_source c.release_first.new.self r (records ++ x ∷ []) c.release_first.ensures.shares (ap (λ b. b.items) c.release_first.ensures.nexts) are.by_source;
    }

pub returns-else-ne-clause-numbered : goal.returns-else-ne-clause-numbered
returns-else-ne-clause-numbered c = λ records apart are.
    let old = c.args.self.now in
    let r = c.args.first.now in
    let x = c.args.last.now in
    let same : same_key (key_of r) (key_of x) ≡ true =
    ap (λ k. same_key (key_of r) k) (sym c.key.ensures) ∙ ap (λ k. same_key k c.key.result) (sym c.key-key.ensures) ∙ not-false (same_key c.key-key.result c.key.result) (sym c.ne.ensures ∙ c.if-ne.false) in
    record {
      by_message = first-stays old.first old.by_message r records x are.by_message same;
      by_source = AreSourced-rest old.first old.by_source c.release_first.new.self r (records ++ x ∷ []) c.release_first.ensures.shares (ap (λ b. b.items) c.release_first.ensures.nexts) are.by_source;
    }
