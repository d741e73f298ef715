use Rattle.std.proofs.Common.{length, sym, ap, ◌∙◌, arith}
use Rattle.coap_dedup.specs.Lists.{records_from}
use Rattle.coap_dedup.specs.Sources.{numbers_from}
use Rattle.coap_dedup.proofs.Aging.{length-living, living-from_place, living-past_place}
use Rattle.coap_dedup.proofs.Shares.{AreInOrder-records_from, length-numbers_from, lives-numbered, next-numbered, records_from-living, share-some}
use Rattle.coap_dedup.proofs.records.count_dead_of.Goals as goal

pub dead-init : goal.dead-init
dead-init c = λ from are.
    let some = share-some c.args.share (numbers_from c.args.numbers.now.first from c.args.ring.now.items) are in
    (omega (arith, length-living c.args.lifetime c.args.now (records_from from c.args.ring.now.items)), λ within. some.2)

pub dead-preserved : goal.dead-preserved
dead-preserved c = λ from are.
    let rs = c.args.ring.now.items in
    let first = c.args.numbers.now.first in
    let ns = numbers_from first from rs in
    let some = share-some c.args.share ns are in
    let (past, at) = c.dead.invariant from are in
    let number = at (omega (arith, c.dead-test.true)) in
    let lives = lives-numbered from c.args.lifetime c.args.now first rs c.dead.dead c.dead.number c.lives_numbered.result (omega arith) c.requires.few number c.lives_numbered.ensures in (
      living-past_place c.args.lifetime c.args.now (records_from from rs) c.dead.dead (AreInOrder-records_from from rs c.requires.in_order)
          (omega (arith, c.dead-test.true, some.0, length-numbers_from from first rs)) (sym lives ∙ c.if-lives_numbered.false),
      λ within.
          next-numbered from first c.args.numbers.now.by_source.nexts.items rs c.dead.dead c.dead.number c.next-number.result (omega arith) c.requires.few c.requires.linked number (omega (arith, within, some.0)) c.next-number.ensures,
    )

pub returns-after-dead : goal.returns-after-dead
returns-after-dead c = λ from are.
    let rs = c.args.ring.now.items in
    let first = c.args.numbers.now.first in
    let some = share-some c.args.share (numbers_from first from rs) are in
    omega (arith, some.0, length-numbers_from from first rs, ap length (records_from-living from c.args.lifetime c.args.now rs), (c.dead.invariant from are).0, c.dead-test.false)

pub returns-then-lives_numbered : goal.returns-then-lives_numbered
returns-then-lives_numbered c = λ from are.
    let rs = c.args.ring.now.items in
    let first = c.args.numbers.now.first in
    let some = share-some c.args.share (numbers_from first from rs) are in
    let (past, at) = c.dead.invariant from are in
    let lives = lives-numbered from c.args.lifetime c.args.now first rs c.dead.dead c.dead.number c.lives_numbered.result (omega arith) c.requires.few (at (omega (arith, c.dead-test.true))) c.lives_numbered.ensures in
    let all = living-from_place c.args.lifetime c.args.now (records_from from rs) c.dead.dead (AreInOrder-records_from from rs c.requires.in_order) (sym lives ∙ c.if-lives_numbered.true) in
    omega (arith, all, some.0, length-numbers_from from first rs, ap length (records_from-living from c.args.lifetime c.args.now rs), past)
