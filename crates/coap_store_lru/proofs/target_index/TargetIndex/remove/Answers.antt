use Rattle.std.proofs.Common.{◌≡◌, ◌&&◌, ℕ, nat_eq, cond, false, not, None, refl, sym, ap, ◌∙◌}
use Rattle.std.specs.HashMap.{get}
use Rattle.coap_store.specs.Digested.{Digested, same_digested}
use Rattle.coap_store.specs.Digests.{digests_of}
use Rattle.coap_store_lru.specs.Indexing.{in_group}
use Rattle.coap_store_lru.proofs.Groups.{filled-but, filled_none, is_indexed-changed, none-in_group, put-elsewhere, put-here}
use Rattle.coap_store_lru.proofs.target_index.TargetIndex.remove.Goals as goal

pub invariant_of-self : goal.invariant_of-self
invariant_of-self g c =
    let old = c.args.self.now.groups in
    let between = c.leave.new.groups in
    let new = c.remove.new.self in
    let at = c.digests-at.result.target in
    let put : (e : ℕ) → get nat_eq new e ≡ cond (nat_eq at e) None (get nat_eq between e) = c.remove.ensures.updates.0 in
    let others : (e : ℕ) → nat_eq at e ≡ false → get nat_eq new e ≡ get nat_eq old e = λ e other. put-elsewhere between new at None put e other ∙ c.leave.ensures.others e other in
    record { filled = filled-but old new at others c.args.self.now.filled (filled_none new at (put-here between new at None put)) }

pub returns-then-leave-clause-left : goal.returns-then-leave-clause-left
returns-then-leave-clause-left g c =
    let self = c.args.self.now in
    let old = self.groups in
    let key = c.args.key.now in
    let between = c.leave.new.groups in
    let new = c.remove.new.self in
    let at = c.digests-at.result.target in
    let put : (e : ℕ) → get nat_eq new e ≡ cond (nat_eq at e) None (get nat_eq between e) = c.remove.ensures.updates.0 in
    let others : (e : ℕ) → nat_eq at e ≡ false → get nat_eq new e ≡ get nat_eq old e = λ e other. put-elsewhere between new at None put e other ∙ c.leave.ensures.others e other in
    let gone : (k : Digested) → in_group new at k ≡ (not (same_digested key k) && in_group old at k) =
    λ k. none-in_group new at (put-here between new at None put) k ∙ sym (ap (λ b. not b && in_group between at k) c.if-leave.true) ∙ c.leave.ensures.left k in
    is_indexed-changed old new at others self.secret key (λ p b. not p && b) c.requires.own (ap (λ d. d.target) c.digests-at.ensures ∙ ap (λ t. (digests_of t c.args.key.now.key).target) c.requires.own) (λ b. refl) gone

pub returns-else-leave-clause-left : goal.returns-else-leave-clause-left
returns-else-leave-clause-left g c =
    let self = c.args.self.now in
    let between = c.leave.new.groups in
    let at = c.digests-at.result.target in
    is_indexed-changed self.groups between at c.leave.ensures.others self.secret c.args.key.now (λ p b. not p && b) c.requires.own (ap (λ d. d.target) c.digests-at.ensures ∙ ap (λ t. (digests_of t c.args.key.now.key).target) c.requires.own) (λ b. refl)
    (λ k. sym (ap (λ b. not b && in_group between at k) c.if-leave.false) ∙ c.leave.ensures.left k)
