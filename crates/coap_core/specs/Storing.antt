-- The store of the program: its limits, and what happens to an answer.
use Rattle.std.specs.Prelude.{◌≡◌, ℕ, ◌<◌, ◌≤◌, Bool, if◌then◌else◌, List, [], ◌∷◌, Option, Some, None, option_map}
use Rattle.coap_store.specs.Entries as store
use Rattle.coap_store.specs.Entries.{Entry, entry_key, entry_size}
use Rattle.coap_store.specs.Lists.{of_key, others, put}
use Rattle.coap_store.specs.declared.answer.Answer.{Answer}
use Rattle.coap_pending.specs.declared.exchange.Exchange.{Exchange}
use Rattle.coap_pending.specs.Table.{Numbered, item_at}
use Rattle.coap_message.specs.Message.{Message}
use Rattle.coap_model.specs.declared.report.Storing.{Storing}
use Rattle.coap_model.specs.declared.report.Storing.TheVariants.{Kept, TooLarge, NoMemory, NotStored}
use Rattle.coap_limits.specs.Limits.{Limits}
use Rattle.coap_forward.specs.Messages.{is_con, acknowledgement}
use Rattle.coap_model.specs.Answers.{entry_made, may_store, answers}
use Rattle.coap_model.specs.Responses.{awaiting, on_not_confirmable, on_new_confirmable, on_unknown}
use Rattle.coap_model.specs.State.{State, Step, known_of, remembers, with_record}
use Rattle.coap_message.specs.Spelling.{spelling}
use Rattle.coap_endpoint.specs.declared.endpoint.Endpoint.{Endpoint}
use Rattle.coap_endpoint.specs.declared.target.Target.{Target}
use Rattle.coap_core.specs.declared.responses.Changed.{Changed}

-- the store's limits are those of the proxy
abbrev pub AreStoreLimits : Limits → store.Limits → Type 0
AreStoreLimits limits of_store =
    of_store ≡ record { bytes = limits.cache_bytes; entries = limits.cache_entries }

-- what is to be stored for the answer of an exchange, if it may be
abbrev pub if_storable : State → ℕ → Exchange → Answer → Option Entry
if_storable w now x a = if may_store x a then Some (entry_made w now x a) else None

-- the targets that a response changes
abbrev pub targets_with : Target → Option Target → List Target
targets_with target None = target ∷ []
targets_with target (Some created) = target ∷ created ∷ []

abbrev pub targets_in : Option Changed → List Target
targets_in None = []
targets_in (Some changed) = targets_with changed.target changed.created

-- the step of a response that is the answer of an exchange: a Confirmable one is remembered
abbrev pub answering : State → ℕ → Bool → Endpoint → Message → Numbered Exchange → Step
answering w now grown source m x =
    if is_con m.kind
    then remembers now source m (answers w now grown source m x)
    else answers w now grown source m x

-- the same for the exchange with this number
abbrev pub answering_at : State → ℕ → Bool → Endpoint → Message → ℕ → Option Step
answering_at w now grown source m number =
    option_map (λ x. answering w now grown source m (number, x)) (item_at number w.exchanges)

-- what is sent at once for a response that is accepted, to whom, and the tables then
abbrev pub accepted_bytes : Message → List ℕ
accepted_bytes m = if is_con m.kind then spelling (acknowledgement m.id) else []

abbrev pub accepted_to : Endpoint → Message → Option Endpoint
accepted_to source m = if is_con m.kind then Some source else None

abbrev pub accepted : ℕ → Endpoint → Message → State → State
accepted now source m w =
    if is_con m.kind then with_record now source m (spelling (acknowledgement m.id)) w else w

-- the steps of a response that isn't Confirmable, of one that is, and of a new one that is
abbrev pub not_confirmable_step : State → ℕ → Bool → Endpoint → Message → Step
not_confirmable_step w now grown source m =
    on_not_confirmable w now grown source m (awaiting w source m)

abbrev pub confirmable_step : State → ℕ → Bool → Endpoint → Message → Step
confirmable_step w now grown source m =
    on_unknown w now grown source m (known_of w now source m)

abbrev pub new_confirmable_step : State → ℕ → Bool → Endpoint → Message → Step
new_confirmable_step w now grown source m =
    on_new_confirmable w now grown source m (awaiting w source m)

-- what a store does with an entry, and the tables then
abbrev pub IsPut : State → Entry → Storing → State → Type 0
IsPut w entry Kept v =
    (v
    ≡ record w {
      store = put entry_key entry_size
          w.setting.limits.cache_bytes w.setting.limits.cache_entries entry w.store;
    })
    × (entry_size entry ≤ w.setting.limits.cache_bytes)
IsPut w entry TooLarge v =
    (v ≡ record w { store = others entry_key entry.0 w.store })
    × (w.setting.limits.cache_bytes < entry_size entry)
IsPut w entry NoMemory v =
    (v ≡ w)
    × (entry_size entry ≤ w.setting.limits.cache_bytes)
    × (of_key entry_key entry.0 w.store ≡ None)
IsPut w entry NotStored v = ⊥

-- what is done with an entry, if there is one, and the store then
abbrev pub IsKept : State → Option Entry → Storing → State → Type 0
IsKept w None storing v = (storing ≡ NotStored) × (v ≡ w)
IsKept w (Some entry) storing v = IsPut w entry storing v
