use Rattle.std.proofs.Common.{refl}
use Rattle.coap_model.proofs.Positions.{justified-at}
use Rattle.coap_model.proofs.GivenIds.{id-at}
use Rattle.coap_model.proofs.Moments.{in-order-at}
use Rattle.coap_model.proofs.history_laws.what_is_promised_holds_at_each_position.Goals as goal

pub returns : goal.returns
returns c =
    record {
      justified = λ history w p position there. justified-at w.setting p.actions position position.action.observation.report.outcome p.justified there refl;
      in_order = λ history w p position earlier. in-order-at p.actions position earlier p.in_order;
      id = λ history w p position. id-at w.setting.first_id p.actions position p.sequence;
      once = λ history w p. p.ids;
      schedule = λ history w p. p.schedules;
      pace = λ history w p. p.pace;
      told = λ history w p. p.told;
      exchanges = λ history w p. p.exchanges;
      waiters = λ history w p. p.waiters;
      entries = λ history w p. p.entries;
      cached_bytes = λ history w p. p.cached_bytes;
      con_records = λ history w p. p.con_records;
      non_records = λ history w p. p.non_records;
      client_exchanges = λ history w client p. p.client_exchanges client;
      client_waiters = λ history w client p. p.client_waiters client;
      client_con_records = λ history w from p. p.client_con_records from;
      client_non_records = λ history w from p. p.client_non_records from;
      held = λ history w p. p.bytes;
    }
