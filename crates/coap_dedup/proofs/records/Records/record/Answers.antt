use Rattle.std.proofs.Common.{sym, ap, ◌∙◌, arith}
use Rattle.coap_dedup.specs.Lists.{record_of}
use Rattle.coap_dedup.specs.Records.{Records}
use Rattle.coap_dedup.proofs.Numbering.{found-at, record_of-unnumbered}
use Rattle.coap_dedup.proofs.records.Records.record.Goals as goal

pub returns-in_err-number-clause-found : goal.returns-in_err-number-clause-found
returns-in_err-number-clause-found c =
    let k = c.args.key in
    let are = c.self.invariant.numbers.by_message in
    rw c.from_residual.ensures (sym (record_of-unnumbered are.origin k c.self.inside.ring.items (sym (are.numbered k) ∙ sym c.in_err-number.ensures.value)) ∙ ap (λ (t : Records). record_of k.from k.id t.items) c.self.view_is)

pub returns-clause-found : goal.returns-clause-found
returns-clause-found c =
    let k = c.args.key in
    c.get-2.ensures ∙ found-at c.self.inside.numbers.first c.self.inside.numbers.by_message c.self.inside.ring.items k c.in_ok-number.number.now c.self.invariant.are.apart c.self.invariant.numbers.by_message (omega arith) (sym c.in_ok-number.ensures.value)
    ∙ ap (λ (t : Records). record_of k.from k.id t.items) c.self.view_is
