use Rattle.std.proofs.Common.{◌≡◌, ◌+◌, ◌-◌, ◌∙◌, ap, arith, drop, length, sym, take}
use Rattle.std.proofs.lemmas.List.{length-drop, take_all}
use Rattle.coap_lines.specs.Texts.{parts_seen}
use Rattle.coap_lines.proofs.Cuts.{cut-at, cut-nowhere}
use Rattle.coap_lines.proofs.reading.cutting.cut.Goals as goal

pub returns-in_err-place-clause-parts : goal.returns-in_err-place-clause-parts
returns-in_err-place-clause-parts c = ap parts_seen c.from_residual.ensures ∙ sym (cut-nowhere c.args.byte c.args.text.now c.in_err-place.ensures)

pub returns-clause-parts : goal.returns-clause-parts
returns-clause-parts c =
    let found = c.in_ok-place.ensures in
    let text = c.args.text.now in
    let place = c.in_ok-place.place in
    let rest : take (length text - (place + 1)) (drop (place + 1) text) ≡ drop (place + 1) text = take_all (length text - (place + 1)) (drop (place + 1) text) (omega (arith, length-drop (place + 1) text)) in
    rw rest (sym (cut-at c.args.byte text place found.0.high found.0.before found.1))
