use Rattle.std.proofs.Common.{◌≡◌, ◌∙◌, None, ap, rules}
use Rattle.coap_pending.specs.Table.{item_at}
use Rattle.coap_pending.proofs.Tables.{given-back-is, last-free, withdrawn-undoes}
use Rattle.coap_exchange.proofs.waiters.Waiters.withdraw.Goals as goal

pub returns-then-is_some-clause-undone : goal.returns-then-is_some-clause-undone
returns-then-is_some-clause-undone c = withdrawn-undoes (search rules)

pub returns-else-is_some-clause-undone : goal.returns-else-is_some-clause-undone
returns-else-is_some-clause-undone c = withdrawn-undoes (search rules)

pub invariant_of-self : goal.invariant_of-self
invariant_of-self c =
    let kept = c.self-then-is_some.invariant in
    let left = c.self-then-is_some.inside.table in
    let free : item_at left.admitted left.items ≡ None = last-free c.args.self.now (c.self-then-is_some.view_is ∙ c.update.ensures) (c.admitted-number.ensures.exact ∙ ap (λ t. t.admitted) c.self.view_is) in
    rw c.give_back.ensures (kept.0, kept.1, given-back-is left kept.2 free, kept.3, kept.4, kept.5, kept.6)

pub give_back-requires : goal.give_back-requires
give_back-requires c = last-free c.args.self.now (c.self-then-is_some.view_is ∙ c.update.ensures) (c.admitted-number.ensures.exact ∙ ap (λ t. t.admitted) c.self.view_is)
