use Rattle.std.proofs.Common.{◌≡◌, ◌==◌, false, eqb, subst, ◌∙◌, arith}
use Rattle.std.proofs.lemmas.Bool.{ne_eqb}
use Rattle.coap_dedup.specs.Records.{Records, living_of}
use Rattle.coap_dedup.specs.Sources.{numbers_from}
use Rattle.coap_dedup.proofs.Shares.{length-numbers_from, length-records_from, lives-numbered, own-full, own-none, own-short, share-none, share-some}
use Rattle.coap_dedup.proofs.records.Records.is_client_full.Goals as goal

pub returns-then-len-self : goal.returns-then-len-self
returns-then-len-self c = record {
  exact =
      subst (λ (t : Records). false ≡ (living_of c.args.from c.args.now t == t.per_client)) c.self.view_is
      (own-short c.args.from c.self.inside.lifetime c.args.now c.self.inside.per_client c.self.inside.ring.items (omega (arith, length-records_from c.args.from c.self.inside.ring.items)));
}

pub returns-then-share-self : goal.returns-then-share-self
returns-then-share-self c =
    let rs = c.self.inside.ring.items in
    let first = c.self.inside.numbers.first in
    let are = share-some c.in-Some.share (numbers_from first c.args.from rs) (c.in-Some.ensures ∙ c.self.invariant.numbers.by_source.shared c.args.from) in
    let many = length-numbers_from c.args.from first rs in
    let lives = lives-numbered c.args.from c.self.inside.lifetime c.args.now first rs 0 c.in-Some.share.first c.lives_numbered.result (omega (arith, c.self.invariant.numbers.by_message.is_first)) (omega (arith, c.len.ensures)) are.2 c.lives_numbered.ensures in
    record {
      exact =
          subst (λ (t : Records). c.lives_numbered.result ≡ (living_of c.args.from c.args.now t == t.per_client)) c.self.view_is
          (own-full c.args.from c.self.inside.lifetime c.args.now c.self.inside.per_client rs c.lives_numbered.result c.self.invariant.are.in_order (omega (arith, many, are.0, c.if-share-self.true)) (omega (arith, many, are.1)) lives);
    }

pub returns-else-share-self : goal.returns-else-share-self
returns-else-share-self c =
    let rs = c.self.inside.ring.items in
    let first = c.self.inside.numbers.first in
    let are = share-some c.in-Some.share (numbers_from first c.args.from rs) (c.in-Some.ensures ∙ c.self.invariant.numbers.by_source.shared c.args.from) in
    let many = length-numbers_from c.args.from first rs in
    let within = c.self.invariant.are.within_each c.args.from in
    record {
      exact =
          ne_eqb c.in-Some.share.count c.self.inside.per_client c.if-share-self.false ∙ subst (λ (t : Records). false ≡ (living_of c.args.from c.args.now t == t.per_client)) c.self.view_is
          (own-short c.args.from c.self.inside.lifetime c.args.now c.self.inside.per_client rs (omega (arith, many, are.0, within, c.if-share-self.false)));
    }

pub returns-in-None : goal.returns-in-None
returns-in-None c =
    let rs = c.self.inside.ring.items in
    let none = share-none (numbers_from c.self.inside.numbers.first c.args.from rs) (c.in-None.ensures ∙ c.self.invariant.numbers.by_source.shared c.args.from) in
    record {
      exact =
          subst (λ (t : Records). eqb c.self.inside.per_client 0 ≡ (living_of c.args.from c.args.now t == t.per_client)) c.self.view_is
          (own-none c.args.from c.self.inside.lifetime c.args.now c.self.inside.per_client rs (omega (arith, none, length-numbers_from c.args.from c.self.inside.numbers.first rs)));
    }
