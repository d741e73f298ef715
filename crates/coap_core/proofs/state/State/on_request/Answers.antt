use Rattle.std.proofs.Common.{◌≡◌, true, refl, sym, rules}
use Rattle.coap_option.proofs.Picking.{on_err}
use Rattle.coap_model.specs.State.{has_record_room, remembers}
use Rattle.coap_model.specs.Requests.{on_new, on_known, on_request}
use Rattle.coap_core.specs.Arrivals.{of_arrival}
use Rattle.coap_core.proofs.Records.{none-some, new-is}
use Rattle.coap_core.proofs.Asking.{done-as, fits-as, new-takes, repetition-fits}
use Rattle.coap_core.proofs.state.State.on_request.Given.{Over}
use Rattle.coap_core.proofs.state.State.on_request.Goals.{After-has_record_room}
use Rattle.coap_core.proofs.state.State.on_request.Goals as goal

pub repeat-requires : goal.repeat-requires
repeat-requires g c = record { fits = repetition-fits c.args.self.now c.args.arrival.now c.args.arrival.from c.args.arrival.message.now (on_known c.args.self.now c.args.arrival.now c.args.arrival.from c.args.arrival.message.now) (λ known. refl) c.args.out.now.room c.requires.can.fits }

-- a request that is new, and that there is room for, is remembered
new : (g : Over) (c : After-has_record_room g) → has_record_room c.args.self.now c.args.arrival.now c.args.arrival.from c.kind.result ≡ true → of_arrival (on_request c.args.self.now) c.args.arrival ≡ of_arrival remembers c.args.arrival (of_arrival (on_new c.args.self.now) c.args.arrival)
new g c room = new-is c.args.self.now c.args.arrival.now c.args.arrival.from c.args.arrival.message.now (none-some _ (sym c.in_default.ensures.found)) (rw (← c.kind.ensures) room)

pub returns-clause-done : goal.returns-clause-done
returns-clause-done g c = done-as (new g (goal.at.returns-clause-done g c).After-has_record_room (sym c.if-not-has_record_room.ensures)) c.repeat.ensures.kept c.on_new.ensures

pub on_new-requires-clause-can : goal.on_new-requires-clause-can
on_new-requires-clause-can g c = record {
  ready = c.requires.can.ready;
  room = rw c.repeat.ensures.kept c.requires.can.room;
  fits = fits-as (new g (goal.at.on_new-requires-clause-can g c).After-has_record_room (sym c.if-not-has_record_room.ensures)) c.repeat.ensures.kept c.requires.can.fits;
}

pub returns-clause-memory : goal.returns-clause-memory
returns-clause-memory g c =
    rw (new g (goal.at.returns-clause-memory g c).After-has_record_room (sym c.if-not-has_record_room.ensures))
    (on_err c.on_new.result (new-takes c.args.self.now c.args.arrival.now c.args.arrival.from c.args.arrival.message.now))

pub returns-then-not-has_record_room-clause-done : goal.returns-then-not-has_record_room-clause-done
returns-then-not-has_record_room-clause-done c = search rules
