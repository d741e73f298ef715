use Rattle.std.proofs.Common.{◌≡◌, ◌^◌, sym}
use Rattle.coap_pending.specs.Due.{first_due}
use Rattle.coap_exchange.specs.Index.{opening_of, end_of}
use Rattle.coap_exchange.proofs.Seeking.{first-early, openings-early, index-first, split-due}
use Rattle.coap_exchange.proofs.exchanges.Exchanges.due.Goals as goal

pub later-deadline-requires-clause-early : goal.later-deadline-requires-clause-early
later-deadline-requires-clause-early c =
    first-early opening_of c.self.inside.table.limit (2 ^ 62) c.self.inside.table.items c.self.inside.index.openings c.first.result c.self.invariant.2.openings c.first.ensures.exact (openings-early c.self.inside.table.items c.self.invariant.0.timely)

pub returns : goal.returns
returns c =
    let opening : c.first.result ≡ first_due opening_of c.self.inside.table.items = index-first opening_of c.self.inside.table.limit c.self.inside.table.items c.self.inside.index.openings c.first.result c.self.invariant.2.rising c.self.invariant.2.openings c.first.ensures.exact in
    let end : c.first-end.result ≡ first_due end_of c.self.inside.table.items = index-first end_of c.self.inside.table.limit c.self.inside.table.items c.self.inside.index.ends c.first-end.result c.self.invariant.2.rising c.self.invariant.2.ends c.first-end.ensures.exact in
    record {
      exact = rw (← c.self.view_is, c.sooner-2.ensures.exact, c.sooner.ensures.exact, c.later-deadline.ensures.exact, c.first_turn-turn.ensures.exact, opening, end) (sym (split-due c.args.nstart c.args.exchange_ms c.self.inside.table.items c.self.inside.table.items));
    }
