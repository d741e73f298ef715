use Rattle.std.proofs.Common.{None, Some, refl, sym}
use Rattle.endpoint_counts.proofs.Indexing.{withdrawn-gone}
use Rattle.coap_exchange.specs.Ready.{Tables}
use Rattle.coap_pending.proofs.Tables.{withdrawn-others}
use Rattle.coap_exchange.proofs.Readying.{exchange-elsewhere, free-as, gone-unready, moved-as, room-as}
use Rattle.coap_exchange.proofs.under_way.UnderWay.withdraw_exchange.Goals as goal

pub replace-requires-clause-free : goal.replace-requires-clause-free
replace-requires-clause-free c =
    let old : Tables = record { exchanges = c.self.inside.exchanges; waiters = c.self.inside.waiters } in
    let new : Tables = record { exchanges = c.withdraw.new.self; waiters = c.self.inside.waiters } in
    let stays = exchange-elsewhere c.self.inside.exchanges.admitted old c.withdraw.new.self (λ q e. rw c.withdraw.ensures.exact (withdrawn-others c.self.inside.exchanges q e)) in
    free-as old new c.ready_in-was.ensures.sound c.ready_in-was.ensures.sound (Some c.self.inside.exchanges.admitted) stays c.self.inside.ready c.self.invariant c.ready_in-was.result None (sym (rw c.admitted-number.ensures.exact at c.ready_in-was.ensures.exact)) (gone-unready new c.self.inside.exchanges.admitted (rw c.withdraw.ensures.exact (withdrawn-gone c.self.inside.exchanges)))

pub replace-requires-clause-room : goal.replace-requires-clause-room
replace-requires-clause-room c =
    let old : Tables = record { exchanges = c.self.inside.exchanges; waiters = c.self.inside.waiters } in
    let new : Tables = record { exchanges = c.withdraw.new.self; waiters = c.self.inside.waiters } in
    let stays = exchange-elsewhere c.self.inside.exchanges.admitted old c.withdraw.new.self (λ q e. rw c.withdraw.ensures.exact (withdrawn-others c.self.inside.exchanges q e)) in
    room-as old new c.ready_in-was.ensures.sound c.ready_in-was.ensures.sound (Some c.self.inside.exchanges.admitted) stays c.self.inside.ready c.self.invariant c.laws.ensures refl c.ready_in-was.result None (sym (rw c.admitted-number.ensures.exact at c.ready_in-was.ensures.exact)) (gone-unready new c.self.inside.exchanges.admitted (rw c.withdraw.ensures.exact (withdrawn-gone c.self.inside.exchanges)))

pub invariant_of-self : goal.invariant_of-self
invariant_of-self c =
    let old : Tables = record { exchanges = c.self.inside.exchanges; waiters = c.self.inside.waiters } in
    let new : Tables = record { exchanges = c.withdraw.new.self; waiters = c.self.inside.waiters } in
    let stays = exchange-elsewhere c.self.inside.exchanges.admitted old c.withdraw.new.self (λ q e. rw c.withdraw.ensures.exact (withdrawn-others c.self.inside.exchanges q e)) in
    moved-as old new c.ready_in-was.ensures.sound c.ready_in-was.ensures.sound (Some c.self.inside.exchanges.admitted) stays c.self.inside.ready c.self.invariant c.ready_in-was.result None (sym (rw c.admitted-number.ensures.exact at c.ready_in-was.ensures.exact)) (gone-unready new c.self.inside.exchanges.admitted (rw c.withdraw.ensures.exact (withdrawn-gone c.self.inside.exchanges))) c.replace.new.self c.replace.ensures.replaced c.replace.ensures.limit refl
