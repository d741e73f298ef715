use Rattle.std.proofs.Common.{List, subst}
use Rattle.coap_store.specs.declared.key.CacheKey.{CacheKey}
use Rattle.coap_store.proofs.Distinct.{of_key-key}
use Rattle.coap_target.specs.Routes.{AreRoutes}
use Rattle.coap_model.specs.Setting.{Setting}
use Rattle.coap_model.specs.History.{Action}
use Rattle.coap_model.specs.Cached.{cached_key, IsObtained, WasObtained}
use Rattle.coap_model.specs.Justified.{IsHit, AllJustified}
use Rattle.coap_model.proofs.ObtainedResponses.{found-obtained}
use Rattle.coap_model.proofs.cache_laws.what_is_shown_was_received.Goals as goal

-- the entry that is sent from the cache was obtained
shown-obtained : (setting : Setting) (past : List Action) (d : Action) (hit : IsHit setting past d) → AreRoutes setting.routes → AllJustified setting past → WasObtained setting past hit.entry
shown-obtained setting past d hit routes all = found-obtained setting past hit.cached hit.key hit.entry routes all hit.is_cache hit.found

pub returns : goal.returns
returns c =
    record {
      asked = λ setting past d hit routes all. (shown-obtained setting past d hit routes all).was_asked;
      received = λ setting past d hit routes all. (shown-obtained setting past d hit routes all).was_got;
      equal_key = λ setting past d hit routes all. subst (λ (k : CacheKey). IsObtained setting k hit.entry.response hit.entry.asking hit.entry.getting) (of_key-key cached_key hit.key hit.cached hit.entry hit.found) (shown-obtained setting past d hit routes all).obtained;
    }
