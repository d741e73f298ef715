use Rattle.std.proofs.Common.{◌≡◌, true, rules, sym}
use Rattle.coap_forward.specs.Messages.{is_get}
use Rattle.coap_core.proofs.Asking.{fits-as, missed, remembered-as}
use Rattle.coap_core.proofs.state.State.on_key.Goals as goal

pub put_usable-requires-clause-fits : goal.put_usable-requires-clause-fits
put_usable-requires-clause-fits g c = c.requires.can.fits

pub on_miss-requires-clause-can : goal.on_miss-requires-clause-can
on_miss-requires-clause-can g c =
    let m = c.args.arrival.message.now in
    let get : is_get m.code ≡ true = rw (← c.code.ensures.exact) (sym c.if-not-is_get.ensures) in
    record {
      ready = c.requires.can.ready;
      room = rw c.put_usable.ensures.kept c.requires.can.room;
      fits = fits-as (missed c.args.self.now c.args.arrival.now c.args.arrival.from m c.args.query.now.key get (sym c.in-Err.ensures.usable)) c.put_usable.ensures.kept c.requires.can.fits;
    }

pub returns-in-Err : goal.returns-in-Err
returns-in-Err g c =
    let m = c.args.arrival.message.now in
    let get : is_get m.code ≡ true = rw (← c.code.ensures.exact) (sym c.if-not-is_get.ensures) in
    remembered-as c.args.arrival (missed c.args.self.now c.args.arrival.now c.args.arrival.from m c.args.query.now.key get (sym c.in-Err.ensures.usable)) c.put_usable.ensures.kept c.on_miss.ensures

pub put_usable-requires-clause-ids : goal.put_usable-requires-clause-ids
put_usable-requires-clause-ids g c = c.requires.reply.ids

pub put_usable-requires-clause-tags : goal.put_usable-requires-clause-tags
put_usable-requires-clause-tags g c = c.requires.asked.tags

pub on_exchange_needed-requires-clause-can : goal.on_exchange_needed-requires-clause-can
on_exchange_needed-requires-clause-can g c = record {
  ready = c.requires.can.ready;
  room = c.requires.can.room;
  fits = search rules;
}

pub put_usable-requires-clause-get : goal.put_usable-requires-clause-get
put_usable-requires-clause-get g c = rw (← c.code.ensures.exact) (sym c.if-not-is_get.ensures)
