use Rattle.std.proofs.Common.{◌-◌, ◌∙◌, Some, None, ap, arith, rules, sym}
use Rattle.endpoint_counts.specs.Slots.{found}
use Rattle.endpoint_counts.specs.Endpoints.{open_of, queued_in, queued_of, sent_in, sent_of}
use Rattle.coap_pending.proofs.Counts.{one_if}
use Rattle.endpoint_counts.proofs.EndpointCounting.{one_if_at-split, put-less, some-counted}
use Rattle.endpoint_counts.proofs.endpoints.close_one.Goals as goal

pub returns-then-counts-eq1-clause-all : goal.returns-then-counts-eq1-clause-all
returns-then-counts-eq1-clause-all c = put-less open_of (λ q. found q c.args.endpoints.now.items) (λ q. found q c.remove.new.self.items) c.args.at None 1 c.remove.ensures.exact (let one = c.if-counts-eq1.true in let all = c.counts_at-counts.ensures.all in omega arith)

pub returns-then-counts-eq1-clause-sent : goal.returns-then-counts-eq1-clause-sent
returns-then-counts-eq1-clause-sent c = λ e.
    put-less sent_of (λ q. found q c.args.endpoints.now.items) (λ q. found q c.remove.new.self.items) c.args.at None (one_if c.args.was.sent) c.remove.ensures.exact (let one = c.if-counts-eq1.true in let all = c.counts_at-counts.ensures.all in let few = c.requires.sent in omega arith) e
    ∙ ap (λ n. sent_in c.args.endpoints.now e - n) (sym (one_if_at-split c.args.was.sent c.args.at e))

pub returns-then-counts-eq1-clause-queued : goal.returns-then-counts-eq1-clause-queued
returns-then-counts-eq1-clause-queued c = λ e.
    put-less queued_of (λ q. found q c.args.endpoints.now.items) (λ q. found q c.remove.new.self.items) c.args.at None (one_if c.args.was.queued) c.remove.ensures.exact (let one = c.if-counts-eq1.true in let all = c.counts_at-counts.ensures.all in let few = c.requires.queued in omega arith) e
    ∙ ap (λ n. queued_in c.args.endpoints.now e - n) (sym (one_if_at-split c.args.was.queued c.args.at e))

pub set-requires-clause-some : goal.set-requires-clause-some
set-requires-clause-some c = omega (arith, c.requires.all, c.counts_at-counts.ensures.all, c.if-counts-eq1.false)

pub set-requires-clause-room : goal.set-requires-clause-room
set-requires-clause-room c = λ none. absurd (some-counted (found c.args.at c.args.endpoints.now.items) c.requires.all none)

pub returns-clause-all : goal.returns-clause-all
returns-clause-all c = put-less open_of (λ q. found q c.args.endpoints.now.items) (λ q. found q c.set.new.self.items) c.args.at (Some (record { all = c.counts_at-counts.result.all - 1; sent = c.lowered-sent.result; queued = c.lowered-queued.result })) 1 c.set.ensures.exact (let all = c.counts_at-counts.ensures.all in omega arith)

pub returns-clause-sent : goal.returns-clause-sent
returns-clause-sent c = λ e.
    put-less sent_of (λ q. found q c.args.endpoints.now.items) (λ q. found q c.set.new.self.items) c.args.at (Some (record { all = c.counts_at-counts.result.all - 1; sent = c.lowered-sent.result; queued = c.lowered-queued.result })) (one_if c.args.was.sent) c.set.ensures.exact (let exact = c.lowered-sent.ensures.exact in let sent = c.counts_at-counts.ensures.sent in omega arith) e
    ∙ ap (λ n. sent_in c.args.endpoints.now e - n) (sym (one_if_at-split c.args.was.sent c.args.at e))

pub returns-clause-queued : goal.returns-clause-queued
returns-clause-queued c = λ e.
    put-less queued_of (λ q. found q c.args.endpoints.now.items) (λ q. found q c.set.new.self.items) c.args.at (Some (record { all = c.counts_at-counts.result.all - 1; sent = c.lowered-sent.result; queued = c.lowered-queued.result })) (one_if c.args.was.queued) c.set.ensures.exact (let exact = c.lowered-queued.ensures.exact in let queued = c.counts_at-counts.ensures.queued in omega arith) e
    ∙ ap (λ n. queued_in c.args.endpoints.now e - n) (sym (one_if_at-split c.args.was.queued c.args.at e))

pub remove-requires : goal.remove-requires
remove-requires c = search rules
