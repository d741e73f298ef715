-- What is short where a message is turned away.
use Rattle.std.specs.Prelude.{ℕ, ◌-◌, nat_lt, nat_le, List, [], ◌∷◌, Option, None, Some, if◌then◌else◌}
use Rattle.coap_message.specs.declared.kind.Kind.{Kind}
use Rattle.coap_message.specs.declared.kind.Kind.TheVariants as kinds
use Rattle.coap_endpoint.specs.declared.endpoint.Endpoint.{Endpoint}
use Rattle.coap_model.specs.State.{State, client_counts, counts}
use Rattle.coap_core.specs.Watching.{free_ids}
use Rattle.coap_explain.specs.declared.lacks.Lack.{Lack}
use Rattle.coap_explain.specs.declared.lacks.Need.{Need}
use Rattle.coap_explain.specs.declared.lacks.Need.TheVariants.{Exchanges, ClientExchanges, Waiters, ClientWaiters, Con, ClientCon, Non, ClientNon, Ids}
use Rattle.coap_explain.specs.declared.lacks.Usage.{Usage}

-- what a proxy holds, of which a client has its share
abbrev pub usage_of : State → Endpoint → Usage
usage_of w client = record {
  all = counts w;
  own = client_counts w client;
  limits = w.setting.limits;
  free_ids = free_ids w;
}

-- a need is lacking only if it has reached its limit
abbrev pub full : Need → ℕ → ℕ → Option Lack
full need count limit =
    if nat_lt count limit then None
    else Some (record { need = need; count = count; limit = limit })

-- Message IDs are lacking only if fewer are free than are needed: 32,768 are given in 247 seconds
abbrev pub short_of_ids : ℕ → ℕ → Option Lack
short_of_ids free needed =
    if nat_le needed free then None
    else Some (record { need = Ids; count = 32768 - free; limit = 32768 })

abbrev pub of_waiters : Usage → Option Lack
of_waiters u = full Waiters u.all.waiters u.limits.waiters

abbrev pub of_client_waiters : Usage → Option Lack
of_client_waiters u = full ClientWaiters u.own.waiters u.limits.client_waiters

-- a client that joins an exchange needs room to wait, and a Message ID; never an exchange
abbrev pub to_join : Usage → List (Option Lack)
to_join u =
    None ∷ None ∷ of_waiters u ∷ of_client_waiters u ∷ short_of_ids u.free_ids 1 ∷ []

-- one that opens an exchange needs room for that, too, and a Message ID for the request
abbrev pub to_open : Usage → List (Option Lack)
to_open u =
    full Exchanges u.all.exchanges u.limits.exchanges
    ∷ full ClientExchanges u.own.exchanges u.limits.client_exchanges
    ∷ of_waiters u ∷ of_client_waiters u ∷ short_of_ids u.free_ids 2 ∷ []

-- a message needs a record of its type
abbrev pub to_remember : Usage → Kind → List (Option Lack)
to_remember u kinds.Con =
    full Con u.all.con_records u.limits.con_records
    ∷ full ClientCon u.own.con_records u.limits.client_con_records ∷ None ∷ None ∷ None ∷ []
to_remember u _ =
    full Non u.all.non_records u.limits.non_records
    ∷ full ClientNon u.own.non_records u.limits.client_non_records ∷ None ∷ None ∷ None ∷ []

-- a reply in a message of its own needs a Message ID
abbrev pub to_reply : Usage → List (Option Lack)
to_reply u = None ∷ None ∷ None ∷ None ∷ short_of_ids u.free_ids 1 ∷ []
