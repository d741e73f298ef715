use Rattle.std.proofs.Common.{◌∙◌, refl, rules, sym, ap}
use Rattle.std.specs.Prelude.{option_map}
use Rattle.coap_core.proofs.Asking.{found}
use Rattle.coap_core.proofs.state.State.put_usable.Goals as goal

pub put_stored-requires : goal.put_stored-requires
put_stored-requires g c =
    let shown = found c.args.self.now c.args.arrival.now c.args.arrival.from c.args.arrival.message.now c.args.query.now.key c.in-Some.stored.now c.requires.get (rw (← c.self.view_is) (sym c.peek.ensures ∙ ap (option_map (λ stored. stored.now)) c.in-Some.is)) (sym c.is_usable.ensures ∙ c.if-is_usable.true) c.requires.ids in
    record { fits = rw (c.reply_kind-kind.ensures, c.kind.ensures, c.reply_id-id.ensures, c.new-token.ensures, c.token.ensures.bytes, c.requires.tags) (rw shown at c.requires.fits) }

pub returns-in-Some-clause-shown : goal.returns-in-Some-clause-shown
returns-in-Some-clause-shown g c =
    let shown = found c.args.self.now c.args.arrival.now c.args.arrival.from c.args.arrival.message.now c.args.query.now.key c.in-Some.stored.now c.requires.get (rw (← c.self.view_is) (sym c.peek.ensures ∙ ap (option_map (λ stored. stored.now)) c.in-Some.is)) (sym c.is_usable.ensures ∙ c.if-is_usable.true) c.requires.ids in
    rw (shown, c.put_stored.ensures, c.reply_kind-kind.ensures, c.kind.ensures, c.reply_id-id.ensures, c.new-token.ensures, c.token.ensures.bytes, c.requires.tags) refl

pub returns-in-Some-2-clause-missed : goal.returns-in-Some-2-clause-missed
returns-in-Some-2-clause-missed g c = search rules
