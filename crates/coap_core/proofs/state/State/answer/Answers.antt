use Rattle.std.proofs.Common.{◌≡◌, ◌∙◌, ◌<◌, Some, ap, sym, arith}
use Rattle.std.specs.Option.{option_copied}
use Rattle.coap_pending.specs.Table.{item_at}
use Rattle.coap_model.specs.declared.deed.Deed.TheVariants.{Answered}
use Rattle.coap_core.specs.Storing.{targets_in}
use Rattle.coap_core.proofs.Puts.{left-open, left-events, answer-does}
use Rattle.coap_core.proofs.state.State.answer.Goals as goal

pub answered-requires : goal.answered-requires
answered-requires g c =
    let kept = rw (c.invalidate_all.ensures, c.in_ok-send.ensures.done) at c.store_entry-storing.ensures in
    let still = left-open c.args.self.now c.store_entry-storing.new.self c.args.arrival.now c.args.number c.args.arrival.from c.args.arrival.message.now (targets_in c.in_ok-changed.changed) c.in_ok-entry.entry c.store_entry-storing.result kept c.requires.unanswered in
    record { unanswered = rw (← c.self-2.view_is) at still }

pub advance-requires : goal.advance-requires
advance-requires g c =
    let kept = rw (c.invalidate_all.ensures, c.in_ok-send.ensures.done) at c.store_entry-storing.ensures in
    let same = left-events c.args.self.now c.store_entry-storing.new.self c.args.arrival.now c.args.number c.args.arrival.from c.args.arrival.message.now (targets_in c.in_ok-changed.changed) c.in_ok-entry.entry c.store_entry-storing.result kept in
    let few = c.requires.can.events in
    let low : c.store_entry-storing.new.self.events < 9223372036854775808 = omega (arith, same, few) in
    rw (← c.self-2.view_is) at low

pub returns-clause-exact : goal.returns-clause-exact
returns-clause-exact g c =
    let w = c.args.self.now in
    let there : item_at c.args.number w.exchanges ≡ Some c.in-Some.exchange.now = rw (← c.self.view_is) (sym c.exchange.ensures.exact ∙ ap option_copied c.in-Some.is) in
    answer-does w c.store_entry-storing.new.self c.args.arrival.now c.args.number c.args.arrival.from c.args.arrival.message.now c.in_ok-entry.entry (targets_in c.in_ok-changed.changed) c.store_entry-storing.result (record { send = c.in_ok-send.send; deed = Answered c.args.number c.store_entry-storing.result }) c.args.out.now c.accept_response.new.out c.advance.new.self c.entry_made.new.answer
    (rw there (ap (λ a. Some a) (c.in_ok-entry.ensures.kept ∙ c.in_ok-answer.ensures))) (rw there (rw (← c.in_ok-entry.ensures.kept) at c.in_ok-entry.ensures.entry)) (rw there (rw c.key.ensures at c.in_ok-changed.ensures)) (rw (c.invalidate_all.ensures, c.in_ok-send.ensures.done) at c.store_entry-storing.ensures) (λ i. record { send = c.in_ok-send.ensures.send i; deed = Answered c.args.number c.store_entry-storing.result })
    c.in_ok-send.ensures.said
    (rw (← c.self-2.view_is) (rw c.answered.ensures.answered at c.advance.ensures))
