use Rattle.std.proofs.Common.{◌≡◌, subst, ◌∙◌, arith}
use Rattle.coap_dedup.specs.Records.{Records, living_of}
use Rattle.coap_dedup.specs.Sources.{numbers_from}
use Rattle.coap_dedup.proofs.Shares.{count_from-living, length-numbers_from, share-none}
use Rattle.coap_dedup.proofs.records.Records.living_of.Goals as goal

pub returns-in-None : goal.returns-in-None
returns-in-None c =
    let rs = c.self.inside.ring.items in
    let none = share-none (numbers_from c.self.inside.numbers.first c.args.from rs) (c.in-None.ensures ∙ c.self.invariant.numbers.by_source.shared c.args.from) in
    record {
      exact =
          subst (λ (t : Records). 0 ≡ living_of c.args.from c.args.now t) c.self.view_is
          (omega (arith, none, length-numbers_from c.args.from c.self.inside.numbers.first rs, count_from-living c.args.from c.self.inside.lifetime c.args.now rs));
    }
