use Rattle.std.proofs.Common.{◌≡◌, ◌==◌, length, not, false, subst, ◌∙◌, arith}
use Rattle.std.proofs.lemmas.Bool.{ne_eqb}
use Rattle.coap_dedup.specs.Records.{Records, living_at}
use Rattle.coap_dedup.proofs.Aging.{full-is, not_full-is}
use Rattle.coap_dedup.proofs.records.Records.is_full.Goals as goal

pub returns-then-len-capacity : goal.returns-then-len-capacity
returns-then-len-capacity c =
    record {
      exact = subst (λ (t : Records). not c.is_first_dead.result ≡ (length (living_at c.args.now t) == t.limit)) c.self.view_is
          (full-is c.self.inside.lifetime c.args.now c.self.inside.ring.capacity c.self.inside.ring.items c.is_first_dead.result c.self.invariant.are.in_order (omega arith) c.is_first_dead.ensures);
    }

pub returns-else-len-capacity : goal.returns-else-len-capacity
returns-else-len-capacity c =
    record {
      exact = ne_eqb c.len.result c.capacity.result c.if-len-capacity.false ∙ subst (λ (t : Records). false ≡ (length (living_at c.args.now t) == t.limit)) c.self.view_is
          (not_full-is c.self.inside.lifetime c.args.now c.self.inside.ring.capacity c.self.inside.ring.items c.self.invariant.are.within (λ e. c.if-len-capacity.false (omega arith)));
    }
