-- What a request asks for, as the program has it, and the steps of one that isn't answered from
-- the store.
use Rattle.std.specs.Prelude.{◌≡◌, ℕ, true, false, Option, None, is_some, if◌then◌else◌}
use Rattle.coap_message.specs.Message.{Message}
use Rattle.coap_forward.specs.Messages.{is_get, is_method}
use Rattle.coap_model.specs.Verdicts as verdicts
use Rattle.coap_option.specs.Selection.{tags_of}
use Rattle.coap_option.specs.Survey.{IsSurvey}
use Rattle.coap_endpoint.specs.Target.{IsTarget}
use Rattle.coap_store.specs.declared.key.CacheKey.{CacheKey}
use Rattle.coap_store.specs.declared.stored.Stored.{Stored}
use Rattle.coap_store.specs.Entries.{stored_for}
use Rattle.coap_core.specs.declared.arrival.Arrival.{Arrival}
use Rattle.coap_core.specs.declared.request_target.CacheQuery.{CacheQuery}
use Rattle.coap_endpoint.specs.declared.endpoint.Endpoint.{Endpoint}
use Rattle.coap_model.specs.State.{State, Step, has_room_to_join, lacks_to_join}
use Rattle.coap_model.specs.Requests.{joins, opens, turns_away, on_exchange_needed, on_miss}
use Rattle.coap_model.specs.declared.deed.Held.{Held}
use Rattle.coap_model.specs.Deeds.{held_of, is_stored}
use Rattle.coap_core.specs.declared.requests.Verdict.{Verdict}
use Rattle.coap_core.specs.declared.requests.Verdict.TheVariants.{RefusedWith, MayAsk}
use Rattle.coap_core.specs.Needs.{CanReplyTo}

-- a verdict about a request for this key is this one of the model
abbrev pub verdict_seen : Verdict → CacheKey → verdicts.Verdict
verdict_seen (RefusedWith why) key = verdicts.refused_with why
verdict_seen MayAsk key = verdicts.may_ask key

-- a request may be forwarded for what it asks for: to its target
pub record IsForwardable (m : Message) (query : CacheQuery) : Type 0 where
  pub method : is_method m.code ≡ true
  pub survey : IsSurvey m query.survey
  pub target : IsTarget query.key.target

-- the request may be forwarded: this is what it asks for
pub record IsAsked (w : State) (m : Message) (query : CacheQuery) : Type 0 where
  pub key : verdicts.verdict_of w.setting.routes m ≡ verdicts.may_ask query.key
  pub tags : query.tags ≡ tags_of m
  pub survey : IsSurvey m query.survey

-- what is stored for the key of a request: only a GET is answered from the store, or validates
abbrev pub held_for : State → Message → CacheKey → Option Stored
held_for w m key = if is_get m.code then stored_for key w.store else None

-- this is what the cache has for the request
pub record IsMissed (w : State) (m : Message) (key : CacheKey) (held : Held) : Type 0 where
  pub held_is : held ≡ held_of m (held_for w m key)
  pub nothing : is_stored held ≡ false → held_for w m key ≡ None
  pub something : is_stored held ≡ true → held_for w m key ≡ stored_for key w.store
  pub unusable : is_stored held ≡ true → is_some (stored_for key w.store) ≡ true

-- an exchange may be joined or opened for this request: it may be forwarded, a reply may be sent
-- at once, and it isn't answered from the store
pub record CanAsk (request : Arrival) (query : CacheQuery) (held : Held) (w : State) : Type 0
  where
    pub reply : CanReplyTo request w
    pub asked : IsAsked w request.message.now query
    pub missed : IsMissed w request.message.now query.key held

-- the steps of a request that isn't answered from the store, of one that needs an exchange, and of
-- one that opens it
abbrev pub missed_step : State → ℕ → Endpoint → Message → CacheKey → Step
missed_step w now client m key = on_miss w now client m key (held_for w m key)

abbrev pub needing_step : State → ℕ → Endpoint → Message → CacheKey → Step
needing_step w now client m key = on_exchange_needed w now client m key (held_for w m key)

abbrev pub opening_step : State → ℕ → Endpoint → Message → CacheKey → Step
opening_step w now client m key = opens w now client m key (held_for w m key)

-- the step of a request whose key the exchange with this number is already in progress for
abbrev pub joinable_step : State → ℕ → Endpoint → Message → ℕ → Step
joinable_step w now client m exchange =
    if has_room_to_join w now client
    then joins w now client m exchange
    else turns_away w now client m (lacks_to_join w now client)
