-- An exchange stays that of the client that opened it.
use Rattle.std.proofs.Common.{◌≡◌, Bool, true, false, cond, refl}
use Rattle.coap_endpoint.specs.declared.target.Target.{Target}
use Rattle.coap_pending.specs.declared.exchange.Exchange.{Exchange}
use Rattle.coap_pending.specs.declared.exchange.Transition.{Transition}
use Rattle.coap_pending.specs.declared.exchange.Transition.TheVariants as transition
use Rattle.coap_pending.specs.Exchanges.{after_transition, is_changed_with, tainted_by}

-- as it changes
pub client-after : (ch : Transition) (x : Exchange) → (after_transition ch x).client ≡ x.client
client-after (transition.Send s) x = refl
client-after (transition.Fire now) x = refl
client-after transition.Acknowledge x = refl
client-after (transition.Answer a) x = refl

-- as it is tainted
pub client-tainted : (target : Target) (x : Exchange) → (tainted_by target x).client ≡ x.client
client-tainted target x = go (is_changed_with target x)
  where
    go : (b : Bool) → (cond b (record x { tainted = true }) x).client ≡ x.client
    go true = refl
    go false = refl
