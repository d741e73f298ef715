use Rattle.std.proofs.Common.{◌≡◌, ◌+◌, ◌%◌, ◌^◌, ◌<◌, ℕ, None, Some, cond, length, ap, subst, sym, ◌∙◌, arith}
use Rattle.std.specs.BTreeMap.{get}
use Rattle.std.specs.Ordering.{is_eq}
use Rattle.coap_dedup.specs.declared.key.Key.{Key}
use Rattle.coap_dedup.specs.Indexing.{key_cmp}
use Rattle.coap_dedup.specs.Sources.{numbers_from}
use Rattle.coap_dedup.proofs.Numbering.{AreNumbered-push, AreNumbered-undone}
use Rattle.coap_dedup.proofs.Shares.{length-numbers_from, length-records_from, share-few}
use Rattle.coap_dedup.proofs.Sourcing.{AreSourced-push, AreSourced-same, length-linked, unshared}
use Rattle.coap_dedup.proofs.numbers.Numbers.add.Goals as goal

pub add-requires-clause-within : goal.add-requires-clause-within
add-requires-clause-within c =
    let old = c.args.self.now in
    let many = length-linked old.first old.by_source.nexts.items c.args.ring.now.items c.requires.numbered.by_source.linked in
    let within : length old.by_source.nexts.items < old.by_source.nexts.capacity = omega (arith, many, c.requires.room) in
    within

pub add-requires-clause-few : goal.add-requires-clause-few
add-requires-clause-few c =
    let old = c.args.self.now in
    let rs = c.args.ring.now.items in
    let from = c.args.new.now.from in
    share-few _ (numbers_from old.first from rs) (c.requires.numbered.by_source.shared from) (omega (arith, length-numbers_from from old.first rs, length-records_from from rs, c.len.ensures.len, c.len.ensures.within))

pub returns-in-Ok-clause-numbered : goal.returns-in-Ok-clause-numbered
returns-in-Ok-clause-numbered c =
    let old = c.args.self.now in
    let rs = c.args.ring.now.items in
    let x = c.args.new.now in
    let are = c.requires.numbered in
    let number = (old.first + c.len.result) % 2 ^ 64 in
    let is : number ≡ (old.first + length rs) % 2 ^ 64 = ap (λ (n : ℕ). (old.first + n) % 2 ^ 64) c.len.ensures.len in
    record {
      by_message =
          AreNumbered-push old.first old.by_message c.insert.new.self rs x number are.by_message is
          (subst (λ (j : Key). (k : Key) → get key_cmp c.insert.new.self k ≡ cond (is_eq (key_cmp j k)) (Some number) (get key_cmp old.by_message k)) c.key.ensures c.in_ok-insert.ensures.updates.0);
      by_source = AreSourced-push old.first old.by_source c.add.new.self rs x number (omega (arith, are.by_message.is_first)) (omega (arith, c.len.ensures.len, c.len.ensures.within)) is c.in-Ok.ensures.shares (ap (λ b. b.items) c.in-Ok.ensures.nexts) are.by_source;
    }

pub returns-in-Err-clause-err : goal.returns-in-Err-clause-err
returns-in-Err-clause-err c =
    let old = c.args.self.now in
    let rs = c.args.ring.now.items in
    let x = c.args.new.now in
    let are = c.requires.numbered in
    let number = (old.first + c.len.result) % 2 ^ 64 in
    record {
      by_message =
          AreNumbered-undone old.first old.by_message c.insert.new.self c.remove.new.self rs x number (unshared x.from x.id old.first rs (sym c.in-Err.ensures.new ∙ are.by_source.shared x.from))
          (subst (λ (j : Key). (k : Key) → get key_cmp c.insert.new.self k ≡ cond (is_eq (key_cmp j k)) (Some number) (get key_cmp old.by_message k)) c.key.ensures c.in_ok-insert.ensures.updates.0)
          (subst (λ (j : Key). (k : Key) → get key_cmp c.remove.new.self k ≡ cond (is_eq (key_cmp j k)) None (get key_cmp c.insert.new.self k)) c.key-in-Err.ensures c.remove.ensures.updates.0) are.by_message;
      by_source = AreSourced-same old.first old.by_source c.add.new.self rs c.in-Err.ensures.same_shares c.in-Err.ensures.same_nexts are.by_source;
    }
