use Rattle.std.proofs.Common.{◌+◌, ◌∙◌, ◌++◌, ◌∷◌, [], Some, ap}
use Rattle.coap_model.specs.State.{records_of}
use Rattle.coap_core.specs.Holdings.{record_holdings}
use Rattle.coap_core.proofs.Listing.{more-listed, record-holding}
use Rattle.coap_core.proofs.holders.list_records.Goals as goal

pub loop-place-preserved : goal.loop-place-preserved
loop-place-preserved g c =
    let there = record-holding (records_of c.args.kind c.args.core.now).items c.loop-place.place (Some c.in-Some.at) c.in-Some.ensures.exact in
    let more = more-listed (record_holdings (records_of c.args.kind c.args.core.now).items) c.loop-place.place (record { at = c.in-Some.at; count = 1 }) there in
    record {
      items = c.push_reserved.ensures.items ∙ ap (λ ps. ps ++ record { at = c.in-Some.at; count = 1 } ∷ []) c.loop-place.invariant.items ∙ more;
      len = c.push_reserved.ensures.len ∙ ap (λ n. n + 1) c.loop-place.invariant.len;
      capacity = c.push_reserved.ensures.capacity ∙ c.loop-place.invariant.capacity;
    }
