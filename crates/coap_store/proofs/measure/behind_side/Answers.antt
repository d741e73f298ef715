use Rattle.std.proofs.Common.{refl}
use Rattle.coap_store.proofs.AroundMaxAge.{AreOptions-side}
use Rattle.coap_store.proofs.measure.behind_side.Goals as goal

pub loop-option-init : goal.loop-option-init
loop-option-init c =
    rw (c.into_iter-option-iterator.ensures.into_iter_gives, c.iter-option-items.ensures.list) (record {
      in_order = AreOptions-side c.args.side c.args.before c.args.options.now c.requires c.iter-option-items.ensures.in_order;
      taken = refl;
      until = refl;
    })
