use Rattle.std.proofs.Common.{refl, sym, ap, filter, arith}
use Rattle.coap_store.specs.Writing.{is_in}
use Rattle.coap_store.proofs.AroundMaxAge.{AreOptions-side}
use Rattle.coap_store.proofs.PickedWriting.{picked, written-all, written-next}
use Rattle.coap_store.proofs.show.put_side.Goals as goal

pub loop-option-init : goal.loop-option-init
loop-option-init c =
    rw (c.into_iter-option-iterator.ensures.into_iter_gives, c.iter-option-items.ensures.list) (record {
      room = refl;
      longer = omega arith;
      within = c.requires.held;
      in_order = AreOptions-side c.args.side c.args.before c.args.options.now c.requires.above c.iter-option-items.ensures.in_order;
      written = refl;
      behind = refl;
    })

pub loop-option-preserved-then-has : goal.loop-option-preserved-then-has
loop-option-preserved-then-has c =
    let next = picked (λ o. is_in c.args.side o.number) _ _ _ c.in-Some.ensures.steps (sym c.if-has.ensures) in
    written-next _ _ _ _ _ _ _ _ _ _ next c.loop-option.invariant c.in_ok-put_option.ensures

pub returns-clause-written : goal.returns-clause-written
returns-clause-written c =
    let none = ap (λ os. filter (λ o. is_in c.args.side o.number) os) c.in-None.ensures.steps.0 in
    written-all _ _ _ _ _ _ _ none c.loop-option.invariant
