-- What a proxy promises for the history that it carries.
use Rattle.std.proofs.Common.{ℕ, ◌≤◌, List, length, arith}
use Rattle.coap_message.specs.declared.kind.Kind.{Kind}
use Rattle.coap_endpoint.specs.declared.endpoint.Endpoint.{Endpoint}
use Rattle.coap_dedup.specs.declared.record.Record.{Record}
use Rattle.coap_dedup.specs.Lists.{is_from, is_living}
use Rattle.coap_dedup.specs.Records.{Records, living_at, living_of}
use Rattle.coap_dedup.proofs.Aging.{length-living}
use Rattle.coap_model.specs.Setting.{Setting}
use Rattle.coap_model.specs.State.{State}
use Rattle.coap_model.specs.History.{Observation, Action}
use Rattle.coap_model.specs.Remembered.{most_of_client, most_remembered}
use Rattle.coap_model.specs.Carries.{AreRemembered, Carries}
use Rattle.coap_model.specs.Promised.{Promised}
use Rattle.coap_model.proofs.BySize.{all-owed}
use Rattle.coap_model.proofs.GivenIds.{ids-differ}
use Rattle.coap_model.proofs.HeldBytes.{within-bound}
use Rattle.coap_model.proofs.Owned.{count_if-filter, filtered-count}
use Rattle.coap_model.proofs.CountsAndRoom.{exchanges-count, sent-count, waiters-count}
use Rattle.coap_model.proofs.Stores.{store-within}
use Rattle.coap_model.proofs.Within.{open-own-within, standing-own-within}

-- ---- what is remembered

-- there are no more living records than the limit
living-few : {setting : Setting} {history : List Action} {kind : Kind} {t : Records} (now : ℕ) → AreRemembered setting history kind t → length (living_at now t) ≤ most_remembered kind setting.limits
living-few {t = t} now s = let within = s.are.within in let limit = s.limit in omega (arith, length-living t.lifetime now t.items, within, limit)

-- and no endpoint has more than it may
living-own : {setting : Setting} {history : List Action} {kind : Kind} {t : Records} (now : ℕ) → AreRemembered setting history kind t → (from : Endpoint) → living_of from now t ≤ most_of_client kind setting.limits
living-own {t = t} now s from =
    let alive : List Record = living_at now t in
    let counted = filtered-count (is_from from) alive in
    let before = filtered-count (is_from from) t.items in
    let fewer = count_if-filter (is_from from) (is_living t.lifetime now) t.items in
    omega (arith, counted, before, fewer, s.are.within_each from, s.per_client)

-- ---- all of it

-- a proxy promises for any history that it carries
pub promises : (history : List Observation) (w : State) → Carries history w → Promised history w
promises history w c =
    record {
      actions = c.actions;
      told = c.told;
      justified = c.bears.past;
      owed = all-owed w.setting c.actions c.bears.past;
      in_order = c.bears.clock.in_order;
      exchanges = c.bears.within.exchanges;
      waiters = c.bears.within.waiters;
      entries = (store-within w.setting c.actions w.store c.bears.store).within_entries;
      cached_bytes = (store-within w.setting c.actions w.store c.bears.store).within_bytes;
      con_records = living-few w.last c.bears.con_records;
      non_records = living-few w.last c.bears.non_records;
      client_exchanges = λ client. omega (arith, exchanges-count client c.actions w c.bears, open-own-within w.setting c.actions c.bears.past client);
      client_waiters = λ client. omega (arith, waiters-count client c.actions w c.bears, standing-own-within w.setting c.actions c.bears.past client);
      client_con_records = living-own w.last c.bears.con_records;
      client_non_records = living-own w.last c.bears.non_records;
      bytes = within-bound c.actions w c.bears;
      pace = λ to. let pace = c.bears.within.pace to in let as_many = sent-count to c.actions w c.bears in omega arith;
      schedules = c.bears.schedules;
      sequence = c.bears.ids.are_ids;
      ids = ids-differ w.setting.first_id c.actions c.bears.ids.are_ids c.bears.ids.windows c.bears.clock.in_order;
    }
