use Rattle.std.proofs.Common.{◌∙◌, ap, sym}
use Rattle.coap_model.specs.State.{has_room_to_open, lacks_to_open}
use Rattle.coap_core.proofs.Asking.{fits-as, forwardable, opened, remembered-as, too-long, turned-away}
use Rattle.coap_core.proofs.state.State.on_exchange_needed.Goals as goal

pub put_request-requires-clause-forwardable : goal.put_request-requires-clause-forwardable
put_request-requires-clause-forwardable g c = forwardable c.requires.ask

pub put_validating-requires-clause-forwardable : goal.put_validating-requires-clause-forwardable
put_validating-requires-clause-forwardable g c = forwardable c.requires.ask

pub refuse-requires : goal.refuse-requires
refuse-requires g c = record {
  can = record {
    reply = c.requires.ask.reply;
    fits = fits-as (too-long c.requires.ask (sym c.put_request.ensures.exact ∙ c.if-is_err.ensures.negation)) c.put_request.ensures.kept c.requires.can.fits;
  };
}

pub returns-then-is_err : goal.returns-then-is_err
returns-then-is_err g c = remembered-as c.args.arrival (too-long c.requires.ask (sym c.put_request.ensures.exact ∙ c.if-is_err.ensures.negation)) c.put_request.ensures.kept c.refuse.ensures

pub overload-requires : goal.overload-requires
overload-requires g c = record {
  can = record {
    reply = rw c.seek_opener.ensures c.requires.ask.reply;
    fits = rw c.seek_opener.ensures (fits-as (turned-away c.requires.ask (sym c.put_request.ensures.exact ∙ c.if-is_err.ensures.negation) c.lacks_to_open-lacks.result (rw c.seek_opener.ensures at c.lacks_to_open-lacks.ensures ∙ ap (lacks_to_open c.args.self.now c.args.arrival.now) c.new-client.ensures.exact) (ap (has_room_to_open c.args.self.now c.args.arrival.now) (sym c.new-client.ensures.exact) ∙ sym (rw c.seek_opener.ensures at c.if-not-has_room_to_open.ensures))) c.put_request.ensures.kept c.requires.can.fits);
  };
}

pub returns-then-not-has_room_to_open : goal.returns-then-not-has_room_to_open
returns-then-not-has_room_to_open g c = remembered-as c.args.arrival (turned-away c.requires.ask (sym c.put_request.ensures.exact ∙ c.if-is_err.ensures.negation) c.lacks_to_open-lacks.result (rw c.seek_opener.ensures at c.lacks_to_open-lacks.ensures ∙ ap (lacks_to_open c.args.self.now c.args.arrival.now) c.new-client.ensures.exact) (ap (has_room_to_open c.args.self.now c.args.arrival.now) (sym c.new-client.ensures.exact) ∙ sym (rw c.seek_opener.ensures at c.if-not-has_room_to_open.ensures))) c.put_request.ensures.kept (rw c.seek_opener.ensures at c.overload.ensures)

pub returns : goal.returns
returns g c = remembered-as c.args.arrival (opened c.requires.ask (sym c.put_request.ensures.exact ∙ c.if-is_err.ensures.negation) (ap (has_room_to_open c.args.self.now c.args.arrival.now) (sym c.new-client.ensures.exact) ∙ sym (rw c.seek_opener.ensures at c.if-not-has_room_to_open.ensures))) (c.in_ok-copy.ensures.kept ∙ c.put_request.ensures.kept) (rw c.seek_opener.ensures at c.open.ensures)

pub open-requires-clause-can : goal.open-requires-clause-can
open-requires-clause-can g c = record {
  reply = rw c.seek_opener.ensures c.requires.ask.reply;
  fits =
      rw c.seek_opener.ensures (fits-as (opened c.requires.ask (sym c.put_request.ensures.exact ∙ c.if-is_err.ensures.negation) (ap (has_room_to_open c.args.self.now c.args.arrival.now) (sym c.new-client.ensures.exact) ∙ sym (rw c.seek_opener.ensures at c.if-not-has_room_to_open.ensures))) (c.in_ok-copy.ensures.kept ∙ c.put_request.ensures.kept) c.requires.can.fits);
}
