-- Numbers and stages: what of the tables is visible in them after a change, and what is counted.
use Rattle.std.proofs.Common.{◌≡◌, ◌≢◌, ◌⊎◌, inl, inr, ℕ, ◌+◌, List, [], ◌∷◌, map, Bool, true, false, cond, eqb, Option, Some, None, refl, sym, ap, ◌∙◌, arith}
use Rattle.std.specs.Prelude.{◌&&◌, ◌==◌, not, filter, find, option_map}
use Rattle.std.specs.List.{AllByRecursion, list_any}
use Rattle.std.proofs.lemmas.Bool.{eqb-true, eqb-false, eq-eqb, ne_eqb}
use Rattle.std.proofs.lemmas.Option.{same_Some}
use Rattle.coap_endpoint.specs.declared.endpoint.Endpoint.{Endpoint}
use Rattle.coap_endpoint.specs.Endpoint.{same_endpoint}
use Rattle.coap_pending.specs.declared.exchange.Exchange.{Exchange}
use Rattle.coap_pending.specs.declared.exchange.ExchangeState.{ExchangeState}
use Rattle.coap_pending.specs.declared.exchange.ExchangeState.TheVariants.{Queued, Sent, Acked, Done}
use Rattle.coap_pending.specs.declared.timer.Timer.{Timer}
use Rattle.coap_pending.specs.declared.waiter.Waiter.{Waiter}
use Rattle.coap_pending.specs.declared.waiter.WaiterState.{WaiterState}
use Rattle.coap_pending.specs.declared.waiter.WaiterState.TheVariants.{Waiting, Delivering}
use Rattle.coap_pending.specs.Exchanges as exchanges
use Rattle.coap_pending.specs.Waiters as waiters
use Rattle.coap_pending.specs.Table.{Numbered, item_at, changed_at, without, count}
use Rattle.coap_model.specs.Standing.{WaiterStanding, Stage, Open, delivering, is_queued, is_sent_to, staged, others_than, as_delivering, is_waiting, waits_for, one_if, count_if}
use Rattle.coap_model.specs.Carries.{HasNumber, stage_at, stage_seen, service_in, standing_seen}

-- ---- what is counted

-- as many items pass a test as pass it by what is visible of them
pub counted-seen : {A B : Type 0} (seen : Numbered A → B) (test : A → Bool) (shown : B → Bool) → ((x : Numbered A) → shown (seen x) ≡ test x.1) → (xs : List (Numbered A)) → count test xs ≡ count_if shown (map seen xs)
counted-seen seen test shown same [] = refl
counted-seen seen test shown same (x ∷ xs) = rw (same x, counted-seen seen test shown same xs) refl

-- whether an exchange is queued is visible in its stage
pub queued-same : (x : Exchange) → is_queued (stage_at x.key.target.at x.state) ≡ exchanges.is_queued x
queued-same x = go x.state
  where
    go : (s : ExchangeState) → is_queued (stage_at x.key.target.at s) ≡ exchanges.is_queued_state s
    go Queued = refl
    go Sent = refl
    go Acked = refl
    go (Done a) = refl

-- and so is whether it is sent to an endpoint
pub sent-same : (to : Endpoint) (x : Exchange) → is_sent_to to (stage_at x.key.target.at x.state) ≡ exchanges.is_sent_to to x
sent-same to x = go x.state
  where
    go : (s : ExchangeState) → is_sent_to to (stage_at x.key.target.at s) ≡ exchanges.is_sent_state s && same_endpoint x.key.target.at to
    go Queued = refl
    go Sent = refl
    go Acked = refl
    go (Done a) = refl

-- ---- what is found

-- what is visible of numbered items
module _ {A B : Type 0} (number : B → ℕ) (seen : Numbered A → B) (same : (x : Numbered A) → number (seen x) ≡ x.0) where
  -- an item that is found is visible
  pub item-seen : (n : ℕ) (xs : List (Numbered A)) (a : A) → item_at n xs ≡ Some a → find (λ b. number b == n) (map seen xs) ≡ Some (seen (n, a))
  item-seen n [] a e = absurd cc
  item-seen n (y ∷ ys) a e = go (eqb n y.0) refl (λ f. item-seen n ys a f) e
    where
      go : (b : Bool) → eqb n y.0 ≡ b → (item_at n ys ≡ Some a → find (λ o. number o == n) (map seen ys) ≡ Some (seen (n, a)))
          → cond b (Some y.1) (item_at n ys) ≡ Some a → find (λ o. number o == n) (map seen (y ∷ ys)) ≡ Some (seen (n, a))
      go true t rest f =
          let turned : eqb (number (seen y)) n ≡ true = eq-eqb (number (seen y)) n (same y ∙ sym (eqb-true n y.0 t)) in
          let whole : y ≡ (n, a) = λ i. (sym (eqb-true n y.0 t) i, same_Some y.1 a f i) in
          rw turned (ap (λ (z : Numbered A). Some (seen z)) whole)
      go false t rest f =
          let turned : eqb (number (seen y)) n ≡ false = ne_eqb (number (seen y)) n (λ e. eqb-false n y.0 t (sym e ∙ same y)) in
          rw turned (rest f)

  -- and a visible item is there
  pub seen-item : (n : ℕ) (xs : List (Numbered A)) → find (λ b. number b == n) (map seen xs) ≢ None → HasNumber n xs
  seen-item n [] e = absurd (e refl)
  seen-item n (y ∷ ys) e = go (eqb (number (seen y)) n) refl (λ f. seen-item n ys f) e
    where
      go : (b : Bool) → eqb (number (seen y)) n ≡ b → (find (λ o. number o == n) (map seen ys) ≢ None → HasNumber n ys)
          → cond b (Some (seen y)) (find (λ o. number o == n) (map seen ys)) ≢ None → (n ≡ y.0) ⊎ HasNumber n ys
      go true t rest f = inl (sym (eqb-true (number (seen y)) n t) ∙ same y)
      go false t rest f = inr (rest f)

-- the stage of an item that is found
pub stage-found : (n : ℕ) (xs : List (Numbered Exchange)) (x : Exchange) → item_at n xs ≡ Some x → option_map (λ o. o.stage) (find (λ o. o.number == n) (map stage_seen xs)) ≡ Some (stage_at x.key.target.at x.state)
stage-found n xs x e = ap (option_map (λ (o : Open). o.stage)) (item-seen (λ (o : Open). o.number) stage_seen (λ y. refl) n xs x e)

-- the stage of a waiter that is found
pub service-found : (n : ℕ) (vs : List (Numbered Waiter)) (v : Waiter) → item_at n vs ≡ Some v → option_map (λ s. s.service) (find (λ s. s.number == n) (map standing_seen vs)) ≡ Some (service_in v.state)
service-found n vs v e = ap (option_map (λ (s : WaiterStanding). s.service)) (item-seen (λ (s : WaiterStanding). s.number) standing_seen (λ u. refl) n vs v e)

-- if something is found in a mapped option, something is found in the option
found-mapped : {A B : Type 0} (f : A → B) (o : Option A) → option_map f o ≢ None → o ≢ None
found-mapped f None e = absurd (e refl)
found-mapped f (Some a) e = λ none. absurd cc

-- if a stage is found, so is the exchange
pub found-stage : (n : ℕ) (xs : List (Numbered Exchange)) → option_map (λ o. o.stage) (find (λ o. o.number == n) (map stage_seen xs)) ≢ None → HasNumber n xs
found-stage n xs e = seen-item (λ (o : Open). o.number) stage_seen (λ y. refl) n xs (found-mapped (λ (o : Open). o.stage) (find (λ (o : Open). o.number == n) (map stage_seen xs)) e)

-- if the stage of a waiter is found, so is the waiter
pub found-service : (n : ℕ) (vs : List (Numbered Waiter)) → option_map (λ s. s.service) (find (λ s. s.number == n) (map standing_seen vs)) ≢ None → HasNumber n vs
found-service n vs e = seen-item (λ (s : WaiterStanding). s.number) standing_seen (λ u. refl) n vs (found-mapped (λ (s : WaiterStanding). s.service) (find (λ (s : WaiterStanding). s.number == n) (map standing_seen vs)) e)

-- ---- changes

-- a change of one exchange to a stage is visible as that
pub staged-seen : (n : ℕ) (f : Exchange → Exchange) (stage : Stage) (xs : List (Numbered Exchange)) → ((x : Exchange) → (f x).client ≡ x.client) → AllByRecursion (λ x. x.0 ≡ n → stage_at (f x.1).key.target.at (f x.1).state ≡ stage) xs → map stage_seen (changed_at n f xs) ≡ staged n stage (map stage_seen xs)
staged-seen n f stage [] own all = refl
staged-seen n f stage (x ∷ xs) own all = λ i. one (eqb x.0 n) refl i ∷ staged-seen n f stage xs own all.1 i
  where
    one : (b : Bool) → eqb x.0 n ≡ b → stage_seen (cond b (x.0, f x.1) x) ≡ cond b (record { number = x.0; client = x.1.client; stage = stage }) (stage_seen x)
    one true t = λ i. record { number = x.0; client = own x.1 i; stage = all.0 (eqb-true x.0 n t) i }
    one false t = refl

-- a change that leaves the waiter and the stage isn't visible
pub unseen : (n : ℕ) (f : Exchange → Exchange) (xs : List (Numbered Exchange)) → ((x : Exchange) → (f x).client ≡ x.client) → ((x : Exchange) → stage_at (f x).key.target.at (f x).state ≡ stage_at x.key.target.at x.state) → map stage_seen (changed_at n f xs) ≡ map stage_seen xs
unseen n f [] own same = refl
unseen n f (x ∷ xs) own same = λ i. one (eqb x.0 n) i ∷ unseen n f xs own same i
  where
    one : (b : Bool) → stage_seen (cond b (x.0, f x.1) x) ≡ stage_seen x
    one true = λ i. record { number = x.0; client = own x.1 i; stage = same x.1 i }
    one false = refl

-- a waiter that is removed isn't visible
pub gone-seen : (n : ℕ) (vs : List (Numbered Waiter)) → map standing_seen (without n vs) ≡ others_than n (map standing_seen vs)
gone-seen n [] = refl
gone-seen n (v ∷ vs) = go (eqb v.0 n) (gone-seen n vs)
  where
    go : (b : Bool) → map standing_seen (without n vs) ≡ others_than n (map standing_seen vs) → map standing_seen (cond (not b) (v ∷ without n vs) (without n vs)) ≡ cond (not b) (standing_seen v ∷ others_than n (map standing_seen vs)) (others_than n (map standing_seen vs))
    go true i = i
    go false i = ap (λ (l : List WaiterStanding). standing_seen v ∷ l) i

-- a waiter that is sent its answer is visible as `delivering`
pub delivering-seen : (n id : ℕ) (bytes : List ℕ) (timer : Timer) (vs : List (Numbered Waiter)) → map standing_seen (changed_at n (waiters.delivered bytes id timer) vs) ≡ map (as_delivering n) (map standing_seen vs)
delivering-seen n id bytes timer [] = refl
delivering-seen n id bytes timer (v ∷ vs) = λ i. one (eqb v.0 n) i ∷ delivering-seen n id bytes timer vs i
  where
    one : (b : Bool) → standing_seen (cond b (v.0, waiters.delivered bytes id timer v.1) v) ≡ cond b (record { number = v.0; client = v.1.client; service = delivering }) (standing_seen v)
    one true = refl
    one false = refl

-- a change that leaves a waiter and its stage isn't visible
pub served-seen : (n : ℕ) (f : Waiter → Waiter) (vs : List (Numbered Waiter)) → ((v : Waiter) → (f v).client ≡ v.client) → ((v : Waiter) → service_in (f v).state ≡ service_in v.state) → map standing_seen (changed_at n f vs) ≡ map standing_seen vs
served-seen n f [] own same = refl
served-seen n f (v ∷ vs) own same = λ i. one (eqb v.0 n) i ∷ served-seen n f vs own same i
  where
    one : (b : Bool) → standing_seen (cond b (v.0, f v.1) v) ≡ standing_seen v
    one true = λ i. record { number = v.0; client = own v.1 i; service = same v.1 i }
    one false = refl

-- if all but one pass a test, all others are kept
pub kept-but : (test : Open → Bool) (x : ℕ) (xs : List (Numbered Exchange)) → AllByRecursion (λ y. test (stage_seen y) ≡ not (y.0 == x)) xs → filter test (map stage_seen xs) ≡ map stage_seen (without x xs)
kept-but test x [] all = refl
kept-but test x (y ∷ ys) all = go (eqb y.0 x) all.0 (kept-but test x ys all.1)
  where
    go : (b : Bool) → test (stage_seen y) ≡ not b → filter test (map stage_seen ys) ≡ map stage_seen (without x ys) → filter test (map stage_seen (y ∷ ys)) ≡ map stage_seen (cond (not b) (y ∷ without x ys) (without x ys))
    go true t i = rw t i
    go false t i = rw t (ap (λ (l : List Open). stage_seen y ∷ l) i)

-- if all pass a test, all are kept
pub kept-all : (test : Open → Bool) (xs : List Open) → AllByRecursion (λ o. test o ≡ true) xs → filter test xs ≡ xs
kept-all test [] all = refl
kept-all test (o ∷ os) all = rw all.0 (ap (λ (l : List Open). o ∷ l) (kept-all test os all.1))

-- ---- which waiters wait

-- a waiter that waits is visible as waiting for its exchange
pub waits-seen : (n : ℕ) (s : WaiterState) → waits_for n (service_in s) ≡ waiters.waits_in_state n s
waits-seen n (Waiting exchange) = refl
waits-seen n (Delivering bytes id timer) = refl

-- a waiter is visible as waiting exactly if the count isn't 0
pub who-waits : (x : ℕ) (vs : List (Numbered Waiter)) → list_any (λ s. waits_for x s.service) (map standing_seen vs) ≡ not (count (waiters.waits_for x) vs == 0)
who-waits x [] = refl
who-waits x (v ∷ vs) = go (waiters.waits_for x v.1) (waits-seen x v.1.state) (who-waits x vs)
  where
    go : (b : Bool) → waits_for x (service_in v.1.state) ≡ b → list_any (λ s. waits_for x s.service) (map standing_seen vs) ≡ not (count (waiters.waits_for x) vs == 0) → list_any (λ s. waits_for x s.service) (map standing_seen (v ∷ vs)) ≡ not (one_if b + count (waiters.waits_for x) vs == 0)
    go true t i = let more : eqb (1 + count (waiters.waits_for x) vs) 0 ≡ false = ne_eqb _ _ (λ e. omega arith) in rw (t, more) refl
    go false t i = let same : 0 + count (waiters.waits_for x) vs ≡ count (waiters.waits_for x) vs = omega arith in rw (t, same) i

-- whether a waiter waits is visible
pub waiting-same : (s : WaiterState) → is_waiting (service_in s) ≡ waiters.is_waiting_state s
waiting-same (Waiting exchange) = refl
waiting-same (Delivering bytes id timer) = refl
