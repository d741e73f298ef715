use Rattle.std.proofs.Common.{◌+◌, ◌-◌, ◌∙◌, Some, ap, arith, cond, sym}
use Rattle.endpoint_counts.specs.Slots.{found}
use Rattle.endpoint_counts.specs.Endpoints.{is_one, one_if_at, open_of, queued_in, queued_of, sent_in, sent_of}
use Rattle.coap_pending.proofs.Counts.{one_if}
use Rattle.endpoint_counts.proofs.EndpointCounting.{one_if_at-split, put-at, put-same, some-counted}
use Rattle.endpoint_counts.proofs.endpoints.move_one.Goals as goal

pub set-requires-clause-some : goal.set-requires-clause-some
set-requires-clause-some c = omega (arith, c.requires.all, c.counts_at-counts.ensures.all)

pub set-requires-clause-room : goal.set-requires-clause-room
set-requires-clause-room c = λ none. absurd (some-counted (found c.args.at c.args.endpoints.now.items) c.requires.all none)

pub returns-clause-all : goal.returns-clause-all
returns-clause-all c = put-same open_of (λ q. found q c.args.endpoints.now.items) (λ q. found q c.set.new.self.items) c.args.at (Some (record { all = c.counts_at-counts.result.all; sent = c.moved-sent.result; queued = c.moved-queued.result })) c.set.ensures.exact c.counts_at-counts.ensures.all

pub returns-clause-sent : goal.returns-clause-sent
returns-clause-sent c = λ e.
    put-at sent_of (λ q. found q c.args.endpoints.now.items) (λ q. found q c.set.new.self.items) c.args.at (Some (record { all = c.counts_at-counts.result.all; sent = c.moved-sent.result; queued = c.moved-queued.result })) (one_if c.args.was.sent) (one_if c.args.is.sent) c.set.ensures.exact (let exact = c.moved-sent.ensures.exact in let sent = c.counts_at-counts.ensures.sent in omega arith) e
    ∙ ap (λ n. (sent_in c.args.endpoints.now e - n) + cond (is_one c.args.at e) (one_if c.args.is.sent) 0) (sym (one_if_at-split c.args.was.sent c.args.at e))
    ∙ ap (λ n. (sent_in c.args.endpoints.now e - one_if_at c.args.was.sent c.args.at e) + n) (sym (one_if_at-split c.args.is.sent c.args.at e))

pub returns-clause-queued : goal.returns-clause-queued
returns-clause-queued c = λ e.
    put-at queued_of (λ q. found q c.args.endpoints.now.items) (λ q. found q c.set.new.self.items) c.args.at (Some (record { all = c.counts_at-counts.result.all; sent = c.moved-sent.result; queued = c.moved-queued.result })) (one_if c.args.was.queued) (one_if c.args.is.queued) c.set.ensures.exact (let exact = c.moved-queued.ensures.exact in let queued = c.counts_at-counts.ensures.queued in omega arith) e
    ∙ ap (λ n. (queued_in c.args.endpoints.now e - n) + cond (is_one c.args.at e) (one_if c.args.is.queued) 0) (sym (one_if_at-split c.args.was.queued c.args.at e))
    ∙ ap (λ n. (queued_in c.args.endpoints.now e - one_if_at c.args.was.queued c.args.at e) + n) (sym (one_if_at-split c.args.is.queued c.args.at e))
