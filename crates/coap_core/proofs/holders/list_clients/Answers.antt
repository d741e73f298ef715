use Rattle.std.proofs.Common.{◌+◌, ◌∙◌, ◌++◌, ◌∷◌, [], None, Some, ap}
use Rattle.coap_core.specs.Holdings.{client_holdings}
use Rattle.coap_core.proofs.Listing.{all-listed, client-holding, more-listed}
use Rattle.coap_core.proofs.holders.list_clients.Goals as goal

pub returns-in_default-clause-listed : goal.returns-in_default-clause-listed
returns-in_default-clause-listed c =
    c.loop-place.invariant.items
    ∙ all-listed (client_holdings c.args.clients.now.items) c.loop-place.place (client-holding c.args.clients.now.items c.loop-place.place None c.requires.gapless c.in_default.ensures.exact)

pub loop-place-preserved : goal.loop-place-preserved
loop-place-preserved c =
    let there = client-holding c.args.clients.now.items c.loop-place.place (Some c.in-Some.entry) c.requires.gapless c.in-Some.ensures.exact in
    let more = more-listed (client_holdings c.args.clients.now.items) c.loop-place.place (record { at = c.in-Some.entry.peer; count = c.in-Some.entry.counts.all }) there in
    record {
      items = c.push_reserved.ensures.items ∙ ap (λ ps. ps ++ record { at = c.endpoint.result; count = c.in-Some.entry.counts.all } ∷ []) c.loop-place.invariant.items ∙ rw c.endpoint.ensures.exact more;
      len = c.push_reserved.ensures.len ∙ ap (λ n. n + 1) c.loop-place.invariant.len;
      capacity = c.push_reserved.ensures.capacity ∙ c.loop-place.invariant.capacity;
    }
