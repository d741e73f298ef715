use Rattle.std.proofs.Common.{◌≡◌, ◌∙◌, ◌+◌, ◌<◌, Some, true, false, length, ap, arith, refl}
use Rattle.coap_pending.specs.declared.exchange.Exchange.{Exchange}
use Rattle.coap_pending.specs.Exchanges.{is_opened_by, is_queued, is_sent, is_with}
use Rattle.coap_pending.specs.Table.{Table, admitted_to, count}
use Rattle.coap_exchange.specs.SendQueue.{head_at}
use Rattle.endpoint_counts.proofs.ByClient.{of_clients-push, of_clients-undone, within-push}
use Rattle.coap_pending.proofs.Counts.{count-length}
use Rattle.coap_exchange.proofs.Indexing.{can-pass-as, have-passed-as, spread-passed}
use Rattle.endpoint_counts.proofs.Indexing.{moves-admitted}
use Rattle.coap_exchange.proofs.ExchangeCounting.{counted-push, counted-undone, one-itself, queued-less, sent-less}
use Rattle.endpoint_counts.proofs.Fewer.{few-entries}
use Rattle.coap_exchange.proofs.Heads.{head-among, head-push}
use Rattle.coap_exchange.proofs.Ordering.{admitted-free, heads-room, one-most, send_queue-more}
use Rattle.coap_pending.proofs.Tables.{admitted-is, item_at-fresh, item_at-last}
use Rattle.coap_pending.proofs.Timely.{exchanges-push}
use Rattle.coap_exchange.proofs.exchanges.Exchanges.list.Goals.{After-head_with-next}
use Rattle.coap_exchange.proofs.exchanges.Exchanges.list.Goals as goal

-- the head of the endpoint afterwards
next-is : (c : After-head_with-next) → c.head_with-next.result ≡ head_at (admitted_to c.args.listed c.self.inside.table).items c.args.listed.key.target.at
next-is c =
    let t = c.self.inside.table in
    let waits : is_queued c.args.listed ≡ true = rw c.requires.state refl in
    let unsent : is_sent c.args.listed ≡ false = rw c.requires.state refl in
    c.head_with-next.ensures.exact ∙ (rw (c.head_of-head.ensures.exact, c.in-Ok.ensures.number, c.origin-at.ensures.exact) (head-push t.items (t.admitted + 1) c.args.listed c.open_one-sent.result waits unsent (rw c.origin-at.ensures.exact at c.open_one-sent.ensures.exact ∙ c.self.invariant.1.sent c.args.listed.key.target.at)))

pub head_of-head-requires-clause-sent : goal.head_of-head-requires-clause-sent
head_of-head-requires-clause-sent c = c.open_one-sent.ensures.exact ∙ c.self.invariant.1.sent c.origin-at.result

pub open_one-sent-requires-clause-all : goal.open_one-sent-requires-clause-all
open_one-sent-requires-clause-all c =
    let room = rw (← c.self.view_is) at c.requires.room in
    omega (arith, room, count-length (is_with c.origin-at.result) c.self.inside.table.items, c.self.invariant.1.all c.origin-at.result, c.laws.ensures.fits)

pub open_one-sent-requires-clause-queued : goal.open_one-sent-requires-clause-queued
open_one-sent-requires-clause-queued c =
    let room = rw (← c.self.view_is) at c.requires.room in
    omega (arith, room, queued-less c.self.inside.endpoints c.self.inside.table.items c.origin-at.result c.self.invariant.1, count-length (is_with c.origin-at.result) c.self.inside.table.items, c.self.invariant.1.all c.origin-at.result, c.laws.ensures.fits)

pub enter-requires-clause-few : goal.enter-requires-clause-few
enter-requires-clause-few c =
    let room = rw (← c.self.view_is) at c.requires.room in
    omega (arith, room, count-length (is_opened_by c.client-opener.result) c.self.inside.table.items, c.self.invariant.4 c.client-opener.result, c.laws.ensures.fits)

pub open_one-sent-requires-clause-room : goal.open_one-sent-requires-clause-room
open_one-sent-requires-clause-room c =
    let room = rw (← c.self.view_is) at c.requires.room in
    let few = few-entries (λ (x : Exchange). x.key.target.at) c.self.inside.endpoints c.self.inside.table.items c.laws-3.ensures.sound c.laws-3.ensures.distinct c.laws-3.ensures.some c.self.invariant.1.all in
    omega (arith, room, few, c.self.invariant.6.for_endpoints)

pub enter-requires-clause-room : goal.enter-requires-clause-room
enter-requires-clause-room c =
    let room = rw (← c.self.view_is) at c.requires.room in
    let few = few-entries (λ (x : Exchange). x.client) c.self.inside.clients c.self.inside.table.items c.laws-4.ensures.sound c.laws-4.ensures.distinct c.laws-4.ensures.some c.self.invariant.4 in
    omega (arith, room, few, c.self.invariant.6.for_clients)

pub overflow_add-self : goal.overflow_add-self
overflow_add-self c = omega (arith, count-length is_queued c.self.inside.table.items, c.self.invariant.0.queued, c.in-Ok.ensures.room, c.in-Ok.ensures.fits)

pub rekey-requires : goal.rekey-requires
rekey-requires c =
    let is = c.laws.ensures.sound in
    let t = c.self.inside.table in
    let x = c.args.listed in
    let room : length t.items < t.limit = rw (← c.self.view_is) at c.requires.room in
    rw (c.keys_in-was.ensures.exact, c.keys_of-is.ensures.exact, c.in-Ok.ensures.number)
    (can-pass-as (t.admitted + 1) t.limit t.items (admitted_to x t).items c.self.inside.index (moves-admitted t x is) c.self.invariant.2 _ _ (item_at-fresh t is) (item_at-last t.admitted (t.admitted + 1) t.items x (omega arith) is.below) (admitted-is t x is room).within)

pub replace-requires-clause-free : goal.replace-requires-clause-free
replace-requires-clause-free c =
    let is = c.laws.ensures.sound in
    let t = c.self.inside.table in
    let room : length t.items < t.limit = rw (← c.self.view_is) at c.requires.room in
    rw (c.head_of-head.ensures.exact, next-is (goal.at.replace-requires-clause-free c).After-head_with-next, c.origin-at.ensures.exact)
    (admitted-free t _ is room c.self.inside.send_queue c.self.invariant.3 (heads-room t c.self.inside.send_queue is room c.self.invariant.3 c.laws-2.ensures c.self.invariant.6.for_heads))

pub replace-requires-clause-room : goal.replace-requires-clause-room
replace-requires-clause-room c =
    let t = c.self.inside.table in
    let room : length t.items < t.limit = rw (← c.self.view_is) at c.requires.room in
    let lt = heads-room t c.self.inside.send_queue c.laws.ensures.sound room c.self.invariant.3 c.laws-2.ensures c.self.invariant.6.for_heads in
    let one = one-most c.head_with-next.result in
    omega arith

pub invariant_of-self : goal.invariant_of-self
invariant_of-self c =
    let is = c.laws.ensures.sound in
    let t = c.self.inside.table in
    let x : Exchange = c.args.listed in
    let room : length t.items < t.limit = rw (← c.self.view_is) at c.requires.room in
    let own_room : count (is_opened_by c.args.listed.client) t.items < t.per_client = rw (← c.self.view_is) at c.requires.client_room in
    let passed = rw (c.keys_in-was.ensures.exact, c.keys_of-is.ensures.exact, c.in-Ok.ensures.number) at c.rekey.ensures.exact in
    let len = rw (c.head_of-head.ensures.exact, next-is (goal.at.invariant_of-self c).After-head_with-next, c.origin-at.ensures.exact) at c.replace.ensures.length in
    let replaced = rw (c.head_of-head.ensures.exact, next-is (goal.at.invariant_of-self c).After-head_with-next, c.origin-at.ensures.exact) at c.replace.ensures.replaced in
    let waits : is_queued c.args.listed ≡ true = rw c.requires.state refl in
    let unsent : is_sent c.args.listed ≡ false = rw c.requires.state refl in
    rw (c.in-Ok.ensures.ok, c.note.ensures.exact, c.exchange.ensures.exact) (
      exchanges-push t.items c.self.inside.queued _ waits c.requires.now c.requires.sending c.self.invariant.0,
      counted-push t.items c.self.inside.endpoints c.open_one-sent.new.endpoints _ _ unsent waits c.self.invariant.1 (rw c.origin-at.ensures.exact at c.open_one-sent.ensures.all) c.open_one-sent.ensures.sent (rw c.origin-at.ensures.exact at c.open_one-sent.ensures.queued),
      have-passed-as (t.admitted + 1) t.limit t.items (admitted_to x t).items c.self.inside.index (moves-admitted t x is) c.self.invariant.2 _ _ (item_at-fresh t is) (item_at-last t.admitted (t.admitted + 1) t.items x (omega arith) is.below) c.rekey.new.self passed (admitted-is t x is room).rising,
      send_queue-more t _ is room c.self.inside.send_queue c.self.invariant.3 (heads-room t c.self.inside.send_queue is room c.self.invariant.3 c.laws-2.ensures c.self.invariant.6.for_heads) c.replace.new.self c.replace.ensures.limit len replaced,
      of_clients-push (λ (x : Exchange). x.client) t.items c.self.inside.clients c.enter.new.clients (t.admitted + 1) x (rw c.client-opener.ensures.exact at c.enter.ensures.exact) c.self.invariant.4,
      within-push (λ (x : Exchange). x.client) t x own_room c.self.invariant.5,
      record { for_heads = c.replace.ensures.limit ∙ c.self.invariant.6.for_heads; for_endpoints = c.open_one-sent.ensures.limit ∙ c.self.invariant.6.for_endpoints; for_clients = c.enter.ensures.limit ∙ c.self.invariant.6.for_clients },
      record { for_index = spread-passed t.seed (t.admitted + 1) c.self.inside.index c.rekey.new.self _ _ c.self.invariant.7.for_index passed; for_endpoints = c.open_one-sent.ensures.seed ∙ c.self.invariant.7.for_endpoints; for_clients = c.enter.ensures.seed ∙ c.self.invariant.7.for_clients },
    )

pub close_one-requires-clause-all : goal.close_one-requires-clause-all
close_one-requires-clause-all c =
    let more = c.open_one-sent.ensures.all c.origin-at.result in
    let one = one-itself c.origin-at.result in
    omega (arith, more, one)

pub close_one-requires-clause-sent : goal.close_one-requires-clause-sent
close_one-requires-clause-sent c =
    let more = c.open_one-sent.ensures.all c.origin-at.result in
    let one = one-itself c.origin-at.result in
    let same = c.open_one-sent.ensures.sent c.origin-at.result in
    omega (arith, more, one, same, sent-less c.self.inside.endpoints c.self.inside.table.items c.origin-at.result c.self.invariant.1)

pub close_one-requires-clause-queued : goal.close_one-requires-clause-queued
close_one-requires-clause-queued c =
    let all = c.open_one-sent.ensures.all c.origin-at.result in
    let queued = c.open_one-sent.ensures.queued c.origin-at.result in
    let one = one-itself c.origin-at.result in
    omega (arith, all, queued, one, queued-less c.self.inside.endpoints c.self.inside.table.items c.origin-at.result c.self.invariant.1)

pub replace-requires-clause-there : goal.replace-requires-clause-there
replace-requires-clause-there c = rw c.head_of-head.ensures.exact (head-among c.self.inside.table.items c.self.inside.send_queue.heads c.self.invariant.3.heads (Some c.origin-at.result))

pub invariant_of-self-in-Err : goal.invariant_of-self-in-Err
invariant_of-self-in-Err c =
    let t = c.self.inside.table in
    let same = c.in-Err.ensures.err in
    rw same (
      c.self.invariant.0,
      counted-undone t.items c.self.inside.endpoints c.open_one-sent.new.endpoints c.close_one.new.endpoints c.origin-at.result c.self.invariant.1 c.open_one-sent.ensures.all c.open_one-sent.ensures.sent c.open_one-sent.ensures.queued c.close_one.ensures.all c.close_one.ensures.sent c.close_one.ensures.queued,
      c.self.invariant.2,
      c.self.invariant.3,
      of_clients-undone (λ (x : Exchange). x.client) t.items c.self.inside.clients c.enter.new.clients c.depart.new.clients c.client-opener.result c.enter.ensures.exact c.depart.ensures.exact c.self.invariant.4,
      c.self.invariant.5,
      record { for_heads = c.self.invariant.6.for_heads; for_endpoints = c.close_one.ensures.limit ∙ c.open_one-sent.ensures.limit ∙ c.self.invariant.6.for_endpoints; for_clients = c.depart.ensures.limit ∙ c.enter.ensures.limit ∙ c.self.invariant.6.for_clients },
      record { for_index = c.self.invariant.7.for_index; for_endpoints = c.close_one.ensures.seed ∙ c.open_one-sent.ensures.seed ∙ c.self.invariant.7.for_endpoints; for_clients = c.depart.ensures.seed ∙ c.enter.ensures.seed ∙ c.self.invariant.7.for_clients },
    )

pub head_of-head-requires-clause-indexed : goal.head_of-head-requires-clause-indexed
head_of-head-requires-clause-indexed c = c.self.invariant.2

pub returns-in-Ok-clause-number : goal.returns-in-Ok-clause-number
returns-in-Ok-clause-number c = c.in-Ok.ensures.number ∙ ap (λ (t : Table Exchange). t.admitted + 1) c.self.view_is

pub returns-in-Ok-clause-ok : goal.returns-in-Ok-clause-ok
returns-in-Ok-clause-ok c = c.in-Ok.ensures.ok ∙ ap (admitted_to c.args.listed) c.self.view_is

pub returns-in-Ok-clause-err : goal.returns-in-Ok-clause-err
returns-in-Ok-clause-err c = tt

pub returns-in-Err-clause-number : goal.returns-in-Err-clause-number
returns-in-Err-clause-number c = tt

pub returns-in-Err-clause-ok : goal.returns-in-Err-clause-ok
returns-in-Err-clause-ok c = tt

pub returns-in-Err-clause-err : goal.returns-in-Err-clause-err
returns-in-Err-clause-err c = c.in-Err.ensures.err ∙ c.self.view_is

pub head_of-head-requires-clause-queued : goal.head_of-head-requires-clause-queued
head_of-head-requires-clause-queued c = c.self.invariant.0.queued
