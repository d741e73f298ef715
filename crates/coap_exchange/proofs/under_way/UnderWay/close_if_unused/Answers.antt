use Rattle.std.proofs.Common.{◌≡◌, ◌∙◌, ℕ, true, false, Option, None, Some, ap, refl, sym, eqb}
use Rattle.std.specs.Prelude.{not}
use Rattle.std.specs.Option.{is_some}
use Rattle.coap_pending.specs.Table.{count, first_that}
use Rattle.coap_pending.specs.Waiters.{waits_for}
use Rattle.coap_exchange.specs.Ready.{Tables}
use Rattle.coap_pending.proofs.Tables.{without-gone, without-others}
use Rattle.coap_exchange.proofs.Readying.{exchange-elsewhere, gone-unready, moved-as, unused-first, unused-unready}
use Rattle.coap_exchange.proofs.under_way.UnderWay.close_if_unused.Goals as goal

-- what isn't some is none
none : (o : Option ℕ) → is_some o ≡ false → o ≡ None
none None e = refl
none (Some n) e = absurd cc

pub invariant_of-self : goal.invariant_of-self
invariant_of-self c =
    let n = c.args.number in
    let old : Tables = record { exchanges = c.self.inside.exchanges; waiters = c.self.inside.waiters } in
    let new : Tables = record { exchanges = c.close.new.self; waiters = c.self.inside.waiters } in
    let stays = exchange-elsewhere n old c.close.new.self (λ q e. rw c.close.ensures.closed (without-others n q c.self.inside.exchanges.items e)) in
    let first : first_that (waits_for n) c.self.inside.waiters.items ≡ None = sym c.first_waiting.ensures.exact ∙ none c.first_waiting.result (c.is_none.ensures ∙ ap not c.if-is_none.true) in
    moved-as old new c.laws.ensures c.laws.ensures (Some n) stays c.self.inside.ready c.self.invariant None None (unused-unready old n first) (gone-unready new n (rw c.close.ensures.closed (without-gone n c.self.inside.exchanges.items))) c.self.inside.ready (λ p. refl) refl refl

pub returns-then-is_none : goal.returns-then-is_none
returns-then-is_none c =
    let n = c.args.number in
    let unused : eqb (count (waits_for n) c.self.inside.waiters.items) 0 ≡ true = unused-first n c.self.inside.waiters.items ∙ ap (λ (o : Option ℕ). not (is_some o)) (sym c.first_waiting.ensures.exact) ∙ ap not (c.is_none.ensures ∙ ap not c.if-is_none.true) in
    record { closed = rw (← c.self.view_is, c.close.ensures.closed, unused) refl }

pub returns-else-is_none : goal.returns-else-is_none
returns-else-is_none c =
    let n = c.args.number in
    let used : eqb (count (waits_for n) c.self.inside.waiters.items) 0 ≡ false = unused-first n c.self.inside.waiters.items ∙ ap (λ (o : Option ℕ). not (is_some o)) (sym c.first_waiting.ensures.exact) ∙ ap not (c.is_none.ensures ∙ ap not c.if-is_none.false) in
    record { closed = rw (← c.self.view_is, used) refl }
