-- Exchanges as they are opened.
use Rattle.std.specs.Prelude.{false, None}
use Rattle.coap_pending.specs.declared.exchange.ExchangeState.TheVariants.{Queued}
use Rattle.coap_pending.specs.declared.exchange.Exchange.{Exchange}
use Rattle.coap_exchange.specs.declared.opening.Opening.{Opening}

-- an exchange that was just opened
abbrev pub opened : Opening → Exchange
opened opening =
    record {
      client = opening.client;
      key = opening.key.now;
      is_get = opening.is_get;
      form = opening.form;
      copy = opening.copy;
      admitted = opening.now;
      sending = None;
      tainted = false;
      state = Queued;
    }
