use Rattle.std.proofs.Common.{None, Some, refl, sym}
use Rattle.coap_pending.specs.Exchanges.{answered}
use Rattle.coap_exchange.specs.Ready.{Tables}
use Rattle.endpoint_counts.proofs.Indexing.{changed-others}
use Rattle.coap_exchange.proofs.Readying.{exchange-elsewhere, free-as, moved-as, open-unready, room-as}
use Rattle.coap_exchange.proofs.under_way.UnderWay.note_answer.Goals as goal

pub replace-requires-clause-free : goal.replace-requires-clause-free
replace-requires-clause-free c =
    let old : Tables = record { exchanges = c.self.inside.exchanges; waiters = c.self.inside.waiters } in
    let new : Tables = record { exchanges = c.answered.new.self; waiters = c.self.inside.waiters } in
    let stays = exchange-elsewhere c.args.number old c.answered.new.self (λ q e. rw c.answered.ensures.answered (changed-others c.args.number q (answered c.args.answer) c.self.inside.exchanges.items e)) in
    free-as old new c.ready_in-is.ensures.sound c.ready_in-is.ensures.sound (Some c.args.number) stays c.self.inside.ready c.self.invariant None c.ready_in-is.result (open-unready old c.args.number (rw (← c.self.view_is) at c.requires.unanswered)) (sym c.ready_in-is.ensures.exact)

pub replace-requires-clause-room : goal.replace-requires-clause-room
replace-requires-clause-room c =
    let old : Tables = record { exchanges = c.self.inside.exchanges; waiters = c.self.inside.waiters } in
    let new : Tables = record { exchanges = c.answered.new.self; waiters = c.self.inside.waiters } in
    let stays = exchange-elsewhere c.args.number old c.answered.new.self (λ q e. rw c.answered.ensures.answered (changed-others c.args.number q (answered c.args.answer) c.self.inside.exchanges.items e)) in
    room-as old new c.ready_in-is.ensures.sound c.ready_in-is.ensures.sound (Some c.args.number) stays c.self.inside.ready c.self.invariant c.laws.ensures refl None c.ready_in-is.result (open-unready old c.args.number (rw (← c.self.view_is) at c.requires.unanswered)) (sym c.ready_in-is.ensures.exact)

pub invariant_of-self : goal.invariant_of-self
invariant_of-self c =
    let old : Tables = record { exchanges = c.self.inside.exchanges; waiters = c.self.inside.waiters } in
    let new : Tables = record { exchanges = c.answered.new.self; waiters = c.self.inside.waiters } in
    let stays = exchange-elsewhere c.args.number old c.answered.new.self (λ q e. rw c.answered.ensures.answered (changed-others c.args.number q (answered c.args.answer) c.self.inside.exchanges.items e)) in
    moved-as old new c.ready_in-is.ensures.sound c.ready_in-is.ensures.sound (Some c.args.number) stays c.self.inside.ready c.self.invariant None c.ready_in-is.result (open-unready old c.args.number (rw (← c.self.view_is) at c.requires.unanswered)) (sym c.ready_in-is.ensures.exact) c.replace.new.self c.replace.ensures.replaced c.replace.ensures.limit refl
