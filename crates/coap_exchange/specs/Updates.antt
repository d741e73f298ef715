-- What becomes of an item of a table: it changes, or, if there is no change, it is removed.
use Rattle.std.specs.Prelude.{ℕ, List, Option, Some, None, IfSome}
use Rattle.std.specs.Option.{option_map}
use Rattle.coap_endpoint.specs.declared.endpoint.Endpoint.{Endpoint}
use Rattle.coap_pending.specs.Table.{Numbered, changed_at, without}

-- what an item becomes, given what each change makes of one
abbrev pub updated : {A C : Type 0} → (C → A → A) → Option C → Option A → Option A
updated made None found = None
updated made (Some change) found = option_map (made change) found

-- the items of a table, once the one of a number has become that
abbrev pub updated_at :
    {A C : Type 0} → (C → A → A) → Option C → ℕ → List (Numbered A) → List (Numbered A)
updated_at made None number items = without number items
updated_at made (Some change) number items = changed_at number (made change) items

-- an item that changes can be changed so
abbrev pub Allows : {A C : Type 0} → (C → A → Type 0) → Option C → Option A → Type 0
Allows can None found = Unit {0}
Allows can (Some change) found = IfSome found (can change)

-- the client that has one item less, if an item is removed
abbrev pub client_of_removed : {A C : Type 0} → (A → Endpoint) → Option C → Option A → Option Endpoint
client_of_removed client None found = option_map client found
client_of_removed client (Some change) found = None
