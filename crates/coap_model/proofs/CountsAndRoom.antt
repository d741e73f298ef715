-- Capacity: the counts of the tables are the counts of the history.
use Rattle.std.proofs.Common.{◌≡◌, ℕ, ◌+◌, ◌<◌, ◌≤◌, List, length, true, false, refl, sym, ap, ◌∙◌, arith}
use Rattle.std.specs.Prelude.{◌/◌, ◌&&◌}
use Rattle.std.proofs.lemmas.Bool.{leb-true, leb-false, and_parts}
use Rattle.std.proofs.lemmas.List.{length-map}
use Rattle.coap_endpoint.specs.declared.endpoint.Endpoint.{Endpoint}
use Rattle.coap_endpoint.specs.Endpoint.{same_endpoint}
use Rattle.coap_pending.specs.Exchanges as exchanges
use Rattle.coap_pending.specs.Waiters.{is_of, is_waiting}
use Rattle.coap_pending.specs.Ids.{given_in}
use Rattle.coap_pending.specs.Table.{count}
use Rattle.coap_model.specs.State.{State, exchanges_of, reserved, has_ids, has_exchange_room, has_waiter_room, has_room_to_join, has_room_to_open, waiters_of}
use Rattle.coap_model.specs.History.{Action}
use Rattle.coap_model.specs.Standing as service
use Rattle.coap_model.specs.Standing.{Open, WaiterStanding, is_queued, is_sent_to, open_in, standing_in, count_if, count_open, waiting_in, queued_in, outstanding_to, window_ids, HasIds, HasRoomToJoin, HasRoomToOpen}
use Rattle.coap_model.specs.Carries.{stage_seen, standing_seen, Bears}
use Rattle.coap_model.proofs.NumbersAndStages.{counted-seen, queued-same, sent-same, waiting-same}
use Rattle.coap_model.proofs.JoinedTests.{both-below, not-both, one_false}

-- ---- what is counted

-- there are as many waiters in the table as are pending
pub waiters-length : (history : List Action) (w : State) → Bears history w → length w.waiters ≡ length (standing_in history)
waiters-length history w c = sym (length-map w.waiters standing_seen) ∙ ap length c.whole.waiters

-- there are as many exchanges in the table as are open
pub exchanges-length : (history : List Action) (w : State) → Bears history w → length w.exchanges ≡ length (open_in history)
exchanges-length history w c = sym (length-map w.exchanges stage_seen) ∙ ap length c.whole.exchanges

-- as many waiters wait for an exchange
pub waiting-count : (history : List Action) (w : State) → Bears history w → count is_waiting w.waiters ≡ waiting_in history
waiting-count history w c = counted-seen standing_seen is_waiting (λ s. service.is_waiting s.service) (λ v. waiting-same v.1.state) w.waiters ∙ ap (count_if (λ (s : WaiterStanding). service.is_waiting s.service)) c.whole.waiters

-- as many requests are queued
pub queued-count : (history : List Action) (w : State) → Bears history w → count exchanges.is_queued w.exchanges ≡ queued_in history
queued-count history w c = counted-seen stage_seen exchanges.is_queued (λ o. is_queued o.stage) (λ x. queued-same x.1) w.exchanges ∙ ap (count_open is_queued) c.whole.exchanges

-- and as many requests to an endpoint are sent
pub sent-count : (to : Endpoint) (history : List Action) (w : State) → Bears history w → count (exchanges.is_sent_to to) w.exchanges ≡ outstanding_to to history
sent-count to history w c = counted-seen stage_seen (exchanges.is_sent_to to) (λ o. is_sent_to to o.stage) (λ x. sent-same to x.1) w.exchanges ∙ ap (count_open (is_sent_to to)) c.whole.exchanges

-- as many exchanges were opened by a client
pub exchanges-count : (client : Endpoint) (history : List Action) (w : State) → Bears history w → exchanges_of client w ≡ service.exchanges_of client history
exchanges-count client history w c = counted-seen stage_seen (exchanges.is_opened_by client) (λ o. same_endpoint o.client client) (λ x. refl) w.exchanges ∙ ap (count_if (λ (o : Open). same_endpoint o.client client)) c.whole.exchanges

-- and as many pending requests are its
pub waiters-count : (client : Endpoint) (history : List Action) (w : State) → Bears history w → waiters_of client w ≡ service.waiters_of client history
waiters-count client history w c = counted-seen standing_seen (is_of client) (λ s. same_endpoint s.client client) (λ v. refl) w.waiters ∙ ap (count_if (λ (s : WaiterStanding). same_endpoint s.client client)) c.whole.waiters

-- ---- ids

-- so as many ids are used and reserved
pub ids-sum : (k now : ℕ) (history : List Action) (w : State) → Bears history w → w.last ≤ now → given_in now w.ids + reserved w + k ≡ window_ids (now / 247000) history + (waiting_in history + queued_in history) + k
ids-sum k now history w c onward =
    let last = c.clock.last in
    let g = c.ids.given now (omega arith) in
    let v = waiting-count history w c in
    let q = queued-count history w c in
    omega arith

-- if ids are free according to the tables, they are according to the history
pub ids-free : (k now : ℕ) (history : List Action) (w : State) → Bears history w → w.last ≤ now → has_ids k w now ≡ true → HasIds k now history
ids-free k now history w c onward e = record { free = let sum = ids-sum k now history w c onward in let le = leb-true (given_in now w.ids + reserved w + k) 32768 e in omega arith }

-- and if not, they aren't
pub ids-none : (k now : ℕ) (history : List Action) (w : State) → Bears history w → w.last ≤ now → has_ids k w now ≡ false → HasIds k now history → ⊥
ids-none k now history w c onward e h = let sum = ids-sum k now history w c onward in let lt = leb-false (given_in now w.ids + reserved w + k) 32768 e in let free = h.free in omega arith

-- ---- capacity for a client and for an exchange

module _ (client : Endpoint) (history : List Action) (w : State) (c : Bears history w) where
  -- if the tables have room for one more request of a client, there is room according to the history
  waiter-there : has_waiter_room w client ≡ true → (length (standing_in history) < w.setting.limits.waiters) × (service.waiters_of client history < w.setting.limits.client_waiters)
  waiter-there e = both-below (waiters-length history w c) (waiters-count client history w c) refl refl e

  -- and if not, there is none
  waiter-none : has_waiter_room w client ≡ false → length (standing_in history) < w.setting.limits.waiters → service.waiters_of client history < w.setting.limits.client_waiters → ⊥
  waiter-none e less fewer = not-both (waiters-length history w c) (waiters-count client history w c) refl refl e less fewer

  -- if they have room for one more exchange of a client, there is room according to the history
  exchange-there : has_exchange_room w client ≡ true → (length (open_in history) < w.setting.limits.exchanges) × (service.exchanges_of client history < w.setting.limits.client_exchanges)
  exchange-there e = both-below (exchanges-length history w c) (exchanges-count client history w c) refl refl e

  -- and if not, there is none
  exchange-none : has_exchange_room w client ≡ false → length (open_in history) < w.setting.limits.exchanges → service.exchanges_of client history < w.setting.limits.client_exchanges → ⊥
  exchange-none e less fewer = not-both (exchanges-length history w c) (exchanges-count client history w c) refl refl e less fewer

module _ (now : ℕ) (client : Endpoint) (history : List Action) (w : State) (c : Bears history w) (onward : w.last ≤ now) where
  -- if the tables have room for one more waiter at an exchange, there is room according to the
  -- history
  pub join-there : has_room_to_join w now client ≡ true → HasRoomToJoin w.setting.limits now client history
  join-there e =
      let a = and_parts (has_waiter_room w client) (has_ids 1 w now) e in
      let waiter = waiter-there client history w c a.0 in
      record {
        shared = record { waiter = waiter.0; ids = ids-free 1 now history w c onward a.1 };
        own = record { waiter = waiter.1 };
      }

  -- and if not, there is none
  pub join-none : has_room_to_join w now client ≡ false → HasRoomToJoin w.setting.limits now client history → ⊥
  join-none e h =
      one_false (has_waiter_room w client) (has_ids 1 w now) e
      (λ f. waiter-none client history w c f h.shared.waiter h.own.waiter)
      (λ f. ids-none 1 now history w c onward f h.shared.ids)

  -- if the tables have room to open an exchange, there is room according to the history
  pub room-there : has_room_to_open w now client ≡ true → HasRoomToOpen w.setting.limits now client history
  room-there e =
      let a = and_parts (has_exchange_room w client) (has_waiter_room w client && has_ids 2 w now) e in
      let b = and_parts (has_waiter_room w client) (has_ids 2 w now) a.1 in
      let exchange = exchange-there client history w c a.0 in
      let waiter = waiter-there client history w c b.0 in
      record {
        shared = record { exchange = exchange.0; waiter = waiter.0; ids = ids-free 2 now history w c onward b.1 };
        own = record { exchange = exchange.1; waiter = waiter.1 };
      }

  -- and if not, there is none
  pub room-none : has_room_to_open w now client ≡ false → HasRoomToOpen w.setting.limits now client history → ⊥
  room-none e h =
      one_false (has_exchange_room w client) (has_waiter_room w client && has_ids 2 w now) e
      (λ f. exchange-none client history w c f h.shared.exchange h.own.exchange)
      (λ f. one_false (has_waiter_room w client) (has_ids 2 w now) f
      (λ g. waiter-none client history w c g h.shared.waiter h.own.waiter)
      (λ g. ids-none 2 now history w c onward g h.shared.ids))
