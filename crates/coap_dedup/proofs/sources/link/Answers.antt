use Rattle.std.proofs.Common.{◌≡◌, ◌∙◌, Some, None, inl, inr, sym, ap}
use Rattle.std.proofs.lemmas.List.{set_past}
use Rattle.std.proofs.lemmas.Option.{slice_get_cases}
use Rattle.circular_buffer.specs.Buffer.{buffer}
use Rattle.coap_dedup.proofs.sources.link.Goals as goal

pub returns-in_default : goal.returns-in_default
returns-in_default c =
    let xs = c.args.nexts.now.items in
    elim (slice_get_cases xs c.args.place).1 [
      | inl (x, within, at, is) ↦ let differ : None ≡ Some x = c.in_default.ensures.value ∙ at in absurd cc
      | inr (past, none) ↦ ap (λ ys. buffer ys c.args.nexts.now.capacity) (sym (set_past xs c.args.place c.args.number past))
    ]
