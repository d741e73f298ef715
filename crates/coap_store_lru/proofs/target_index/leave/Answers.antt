use Rattle.std.proofs.Common.{◌≡◌, ◌&&◌, ℕ, nat_eq, cond, not, Some, None, rules, refl, sym, ap, ◌∙◌}
use Rattle.std.specs.HashMap.{get}
use Rattle.coap_store.specs.Digested.{same_digested}
use Rattle.coap_store_lru.proofs.Groups.{filled-but, filled_by, in_group-found, none_left, put-elsewhere, put-here}
use Rattle.coap_store_lru.proofs.target_index.leave.Goals as goal

pub returns-in-Some : goal.returns-in-Some
returns-in-Some g c =
    let groups = c.args.groups.now in
    let at = c.args.at in
    let key = c.args.key.now in
    let group = c.leave.new.self in
    let new = c.get_mut.follows.lender group in
    let put : (e : ℕ) → get nat_eq new e ≡ cond (nat_eq at e) (Some group) (get nat_eq groups e) = ((c.get_mut.follows.holds group).3 (search rules)).0 in
    let others = put-elsewhere groups new at (Some group) put in
    let is = put-here groups new at (Some group) put in
    record {
      left = λ k. ap (λ b. not c.leave.result && b) (sym (in_group-found new at (Some group) (sym is) k)) ∙ c.leave.ensures.left k ∙ ap (λ b. not (same_digested key k) && b) (in_group-found groups at (Some c.in-Some.group.now) c.in-Some.ensures.value k);
      others = others;
      filled = λ some. filled-but groups new at others c.requires (filled_by new at group is (c.leave.ensures.filled some));
    }

pub returns-in-None : goal.returns-in-None
returns-in-None g c =
    let groups = c.args.groups.now in
    let none : get nat_eq groups c.args.at ≡ None = sym c.in-None.ensures.value in
    rw c.get_mut.follows.holds-at-none (record {
      left = none_left groups c.args.at c.args.key.now none;
      others = λ e other. refl;
      filled = λ no. c.requires;
    })
