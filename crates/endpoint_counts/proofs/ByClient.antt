-- How many items each client has, as they come, change and go.
use Rattle.std.proofs.Common.{◌≡◌, ℕ, ◌+◌, ◌-◌, ◌<◌, ◌≤◌, Bool, true, false, List, [], ◌∷◌, ◌++◌, Option, Some, None, refl, sym, ap, ◌∙◌, arith}
use Rattle.std.specs.Option.{option_map}
use Rattle.coap_endpoint.specs.declared.endpoint.Endpoint.{Endpoint}
use Rattle.coap_endpoint.specs.Endpoint.{same_endpoint}
use Rattle.coap_endpoint.proofs.Equality.{Tells-endpoint}
use Rattle.endpoint_counts.specs.Clients.{AreOfClients, AreWithin, Clients, count_of, one_of}
use Rattle.endpoint_counts.specs.Endpoints.{one_if_at}
use Rattle.coap_pending.specs.Table.{Numbered, Table, IsTable, admitted_to, all_changed, changed_at, count, item_at, passes, without}
use Rattle.coap_pending.proofs.Counts.{one_if, count-all_changed, count-kept, count-push, count-without}
use Rattle.endpoint_counts.proofs.Orders.{one-same}

module _ {A : Type 0} (who : A → Endpoint) where
  -- the item is this client's
  abbrev pub whose : Endpoint → A → Bool
  whose e x = same_endpoint (who x) e

  -- what is counted for the client of an item
  one-whose : (x : A) (e : Endpoint) → one_if_at true (who x) e ≡ one_if (whose e x)
  one-whose x e = ap one_if (one-same (who x) e)

  -- and for that of an item that is found
  of-found : (o : Option A) (e : Endpoint) → one_of (option_map who o) e ≡ one_if (passes (whose e) o)
  of-found None e = refl
  of-found (Some x) e = one-whose x e

  -- one comes
  pub of_clients-push : (xs : List (Numbered A)) (old new : Clients) (n : ℕ) (x : A) → ((e : Endpoint) → count_of new e ≡ count_of old e + one_if_at true (who x) e) → AreOfClients whose xs old → AreOfClients whose (xs ++ (n, x) ∷ []) new
  of_clients-push xs old new n x more are = λ e. omega (arith, more e, one-whose x e, are e, count-push (whose e) xs (n, x))

  -- one that was counted is taken back
  pub of_clients-undone : (xs : List (Numbered A)) (old more new : Clients) (client : Endpoint) → ((e : Endpoint) → count_of more e ≡ count_of old e + one_if_at true client e) → ((e : Endpoint) → count_of new e ≡ count_of more e - one_of (Some client) e) → AreOfClients whose xs old → AreOfClients whose xs new
  of_clients-undone xs old more new client entered left are = λ e. omega (arith, entered e, left e, are e)

  -- one is closed
  pub of_clients-without : (n : ℕ) (t : Table A) (old new : Clients) → IsTable t → ((e : Endpoint) → count_of new e ≡ count_of old e - one_of (option_map who (item_at n t.items)) e) → AreOfClients whose t.items old → AreOfClients whose (without n t.items) new
  of_clients-without n t old new is less are = λ e. omega (arith, less e, of-found (item_at n t.items) e, are e, count-without (whose e) n 0 t.items is.rising)

  -- one is changed, and stays its client's
  pub of_clients-changed : (n : ℕ) (f : A → A) (xs : List (Numbered A)) (counts : Clients) → ((x : A) → who (f x) ≡ who x) → AreOfClients whose xs counts → AreOfClients whose (changed_at n f xs) counts
  of_clients-changed n f xs counts stays are = λ e. are e ∙ sym (count-kept (whose e) n f xs (λ x. ap (λ (c : Endpoint). same_endpoint c e) (stays x)))

  -- all are
  pub of_clients-all_changed : (f : A → A) (xs : List (Numbered A)) (counts : Clients) → ((x : A) → who (f x) ≡ who x) → AreOfClients whose xs counts → AreOfClients whose (all_changed f xs) counts
  of_clients-all_changed f xs counts stays are = λ e. are e ∙ sym (count-all_changed (whose e) f xs (λ x. ap (λ (c : Endpoint). same_endpoint c e) (stays x)))

  -- ---- no client has more than it may have

  -- one comes for which there is room
  pub within-push : (t : Table A) (x : A) → count (whose (who x)) t.items < t.per_client → AreWithin whose t → AreWithin whose (admitted_to x t)
  within-push t x room are = λ e. go e (whose e x) refl
    where
      go : (e : Endpoint) (b : Bool) → whose e x ≡ b → count (whose e) (admitted_to x t).items ≤ t.per_client
      go e true its = omega (arith, count-push (whose e) t.items (t.admitted + 1, x), ap one_if its, ap (λ (c : Endpoint). count (whose c) t.items) (Tells-endpoint.only (who x) e its), room)
      go e false other = omega (arith, count-push (whose e) t.items (t.admitted + 1, x), ap one_if other, are e)

  -- one is closed
  pub within-without : (n : ℕ) (t : Table A) → IsTable t → AreWithin whose t → AreWithin whose (record t { items = without n t.items })
  within-without n t is are = λ e. omega (arith, count-without (whose e) n 0 t.items is.rising, are e)

  -- one is changed, and stays its client's
  pub within-changed : (n : ℕ) (f : A → A) (t : Table A) → ((x : A) → who (f x) ≡ who x) → AreWithin whose t → AreWithin whose (record t { items = changed_at n f t.items })
  within-changed n f t stays are = λ e. omega (arith, count-kept (whose e) n f t.items (λ x. ap (λ (c : Endpoint). same_endpoint c e) (stays x)), are e)

  -- all are
  pub within-all_changed : (f : A → A) (t : Table A) → ((x : A) → who (f x) ≡ who x) → AreWithin whose t → AreWithin whose (record t { items = all_changed f t.items })
  within-all_changed f t stays are = λ e. omega (arith, count-all_changed (whose e) f t.items (λ x. ap (λ (c : Endpoint). same_endpoint c e) (stays x)), are e)
