-- The exchange that awaits a response, found by the number that its token says.
use Rattle.std.proofs.Common.{◌≡◌, ◌≢◌, ℕ, ◌^◌, ◌<◌, ◌≤◌, Bool, true, false, cond, eqb, List, [], ◌∷◌, length, Option, Some, None, refl, sym, ap, ◌∙◌, subst, arith}
use Rattle.std.specs.Prelude.{◌&&◌, ◌||◌, not, option_map, is_some, if◌then◌else◌}
use Rattle.std.specs.List.{AllByRecursion, find}
use Rattle.std.proofs.lemmas.Bool.{eqb-true, eqb-false}
use Rattle.std.proofs.lemmas.Option.{same_Some}
use Rattle.coap_message.specs.Message.{Message}
use Rattle.coap_endpoint.specs.declared.endpoint.Endpoint.{Endpoint}
use Rattle.coap_endpoint.specs.Endpoint.{same_endpoint}
use Rattle.coap_endpoint.specs.Equality.{same_bytes}
use Rattle.coap_endpoint.proofs.Equality.{Tells-bytes}
use Rattle.coap_pending.specs.declared.exchange.Exchange.{Exchange}
use Rattle.coap_pending.specs.declared.exchange.ExchangeState.{ExchangeState}
use Rattle.coap_pending.specs.declared.exchange.ExchangeState.TheVariants.{Queued, Sent, Acked, Done}
use Rattle.coap_pending.specs.Exchanges.{answer_in_state, is_missing, is_done, is_sent, is_sent_state, is_acked_state, is_in_flight}
use Rattle.coap_pending.specs.Table.{Numbered, Table, IsRising, IsTable, first_that, item_at}
use Rattle.coap_forward.specs.Messages.{token_of}
use Rattle.coap_model.specs.State.{State}
use Rattle.coap_model.specs.Responses.{has_id, awaits, awaiting}
use Rattle.coap_forward.proofs.Tokens.{length-token_of, token-same}

module _ (salt : ℕ) (source : Endpoint) (m : Message) where
  abbrev is_right : Exchange → Bool
  is_right x = (is_in_flight x && has_id m x.sending) && same_endpoint x.key.target.at source

  -- an exchange of another token doesn't
  others-do-not : (x : Numbered Exchange) → token_of salt x.0 ≢ m.token → awaits salt source m x ≡ false
  others-do-not x other =
      go (is_in_flight x.1 && has_id m x.1.sending) (same_endpoint x.1.key.target.at source) (same_bytes (token_of salt x.0) m.token) refl
    where
      go : (a b t : Bool) → same_bytes (token_of salt x.0) m.token ≡ t → (a && (b && t)) ≡ false
      go a b true e = absurd (other (Tells-bytes.only (token_of salt x.0) m.token e))
      go false b false e = refl
      go true false false e = refl
      go true true false e = refl

  -- one of this token does where id and endpoint are right
  this-does : (x : Numbered Exchange) → token_of salt x.0 ≡ m.token → awaits salt source m x ≡ is_right x.1
  this-does x same =
      let t : same_bytes (token_of salt x.0) m.token ≡ true = rw same (Tells-bytes.itself m.token) in
      rw t (go (is_in_flight x.1 && has_id m x.1.sending) (same_endpoint x.1.key.target.at source))
    where
      go : (a b : Bool) → (a && (b && true)) ≡ (a && b)
      go true true = refl
      go true false = refl
      go false b = refl

  -- a token of another length is that of no exchange
  pub nobody-awaits : (xs : List (Numbered Exchange)) → length m.token ≢ 8 → find (awaits salt source m) xs ≡ None
  nobody-awaits [] short = refl
  nobody-awaits (x ∷ xs) short =
      let other : token_of salt x.0 ≢ m.token = λ e. short (sym (ap length e) ∙ length-token_of salt x.0) in
      rw (others-do-not x other) (nobody-awaits xs short)

  module _ (number : ℕ) (small : number < 2 ^ 64) (token : token_of salt number ≡ m.token) where
    abbrev right : Option Exchange → Option ℕ
    right None = None
    right (Some x) = if is_right x then Some number else None

    another : (x : Numbered Exchange) → x.0 < 2 ^ 64 → x.0 ≢ number → awaits salt source m x ≡ false
    another x low other = others-do-not x (λ e. other (token-same salt x.0 number low small (e ∙ sym token)))

    no-more : (least : ℕ) (xs : List (Numbered Exchange)) → number ≤ least → IsRising least xs → AllByRecursion (λ x. x.0 < 2 ^ 64) xs → find (awaits salt source m) xs ≡ None
    no-more least [] le rising low = refl
    no-more least (x ∷ xs) le rising low =
        rw (another x low.0 (λ e. let above = rising.0 in omega arith)) (no-more x.0 xs (omega (arith, rising.0)) rising.1 low.1)

    found-by-number : (least : ℕ) (xs : List (Numbered Exchange)) → IsRising least xs → AllByRecursion (λ x. x.0 < 2 ^ 64) xs → option_map (λ x. x.0) (find (awaits salt source m) xs) ≡ right (item_at number xs)
    found-by-number least [] rising low = refl
    found-by-number least (x ∷ xs) rising low = go (eqb number x.0) refl (found-by-number x.0 xs rising.1 low.1)
      where
        here : (b : Bool) → number ≡ x.0 → awaits salt source m x ≡ b → is_right x.1 ≡ b → option_map {T = Numbered Exchange} (λ y. y.0) (cond b (Some x) (find (awaits salt source m) xs)) ≡ (if b then Some number else None)
        here true e f g = ap (λ (n : ℕ). Some n) (sym e)
        here false e f g = let none = no-more x.0 xs (omega arith) rising.1 low.1 in rw none refl

        go : (b : Bool) → eqb number x.0 ≡ b → option_map {T = Numbered Exchange} (λ y. y.0) (find (awaits salt source m) xs) ≡ right (item_at number xs)
            → option_map {T = Numbered Exchange} (λ y. y.0) (find (awaits salt source m) (x ∷ xs)) ≡ right (cond b (Some x.1) (item_at number xs))
        go true e rest =
            let same = eqb-true number x.0 e in
            let does = this-does x (subst (λ (n : ℕ). token_of salt n ≡ m.token) same token) in
            rw does (here (is_right x.1) same does refl)
        go false e rest = rw (another x low.0 (λ f. eqb-false number x.0 e (sym f))) rest

-- numbers of a table are below what there ever was
all-small : {A : Type 0} (most : ℕ) (xs : List (Numbered A)) → most < 2 ^ 64 → AllByRecursion (λ x. x.0 ≤ most) xs → AllByRecursion (λ x. x.0 < 2 ^ 64) xs
all-small most [] lt all = tt
all-small most (x ∷ xs) lt all = (let le = all.0 in omega (arith, lt), all-small most xs lt all.1)

-- the number of the exchange that awaits a response
abbrev awaiting_in : ℕ → Endpoint → Message → Table Exchange → Option ℕ
awaiting_in salt source m t = option_map (λ x. x.0) (find (awaits salt source m) t.items)

-- where the number in a token is of no exchange, none awaits the response
pub awaits-none : (salt : ℕ) (source : Endpoint) (m : Message) (number : ℕ) (t : Table Exchange) → number < 2 ^ 64 → token_of salt number ≡ m.token → IsTable t → t.admitted < 2 ^ 64 → item_at number t.items ≡ None → awaiting_in salt source m t ≡ None
awaits-none salt source m number t small token is few e =
    found-by-number salt source m number small token 0 t.items is.rising (all-small t.admitted t.items few is.below) ∙ rw e refl

-- where it is of one, that one awaits the response if its endpoint and its id are right
pub awaits-one : (salt : ℕ) (source : Endpoint) (m : Message) (number : ℕ) (t : Table Exchange) → number < 2 ^ 64 → token_of salt number ≡ m.token → IsTable t → t.admitted < 2 ^ 64 → (x : Exchange) → item_at number t.items ≡ Some x
    → (b : Bool) → b ≡ ((is_in_flight x && has_id m x.sending) && same_endpoint x.key.target.at source) → awaiting_in salt source m t ≡ (if b then Some number else None)
awaits-one salt source m number t small token is few x e b f =
    found-by-number salt source m number small token 0 t.items is.rising (all-small t.admitted t.items few is.below) ∙ rw (e, f) refl

-- an exchange that awaits a response has no answer yet
pub open-with : (m : Message) (x : Exchange) (b : Bool) → ((is_in_flight x && has_id m x.sending) && b) ≡ true → is_done x ≡ false
open-with m x b e = go x.state (first (is_in_flight x) (has_id m x.sending) e)
  where
    first : (s h : Bool) → ((s && h) && b) ≡ true → s ≡ true
    first true h f = refl
    first false h f = absurd cc

    go : (s : ExchangeState) → (is_sent_state s || is_acked_state s) ≡ true → not (is_missing (answer_in_state s)) ≡ false
    go Queued f = refl
    go Sent f = refl
    go Acked f = refl
    go (Done a) f = absurd cc

-- one that was sent isn't done
pub sent-open : (x : Exchange) → is_sent x ≡ true → is_done x ≡ false
sent-open x e = go x.state e
  where
    go : (s : ExchangeState) → is_sent_state s ≡ true → not (is_missing (answer_in_state s)) ≡ false
    go Queued f = refl
    go Sent f = refl
    go Acked f = refl
    go (Done a) f = absurd cc

-- ---- the first of a table of which something holds

module _ (holds : Numbered Exchange → Bool) where
  -- it stands after what came before
  behind : (least : ℕ) (xs : List (Numbered Exchange)) (x : Numbered Exchange) → IsRising least xs → find holds xs ≡ Some x → least < x.0
  behind least [] x rising e = absurd cc
  behind least (y ∷ ys) x rising e = go (holds y) e (λ f. behind y.0 ys x rising.1 f)
    where
      go : (b : Bool) → cond b (Some y) (find holds ys) ≡ Some x → (find holds ys ≡ Some x → y.0 < x.0) → least < x.0
      go true f rest = let same : y ≡ x = same_Some _ _ f in subst (λ (z : Numbered Exchange). least < z.0) same rising.0
      go false f rest = let above = rising.0 in let more = rest f in omega arith

  -- so it is the one of its number
  pub found-at : (least : ℕ) (xs : List (Numbered Exchange)) (x : Numbered Exchange) → IsRising least xs → find holds xs ≡ Some x → item_at x.0 xs ≡ Some x.1
  found-at least [] x rising e = absurd cc
  found-at least (y ∷ ys) x rising e = go (holds y) e (λ f. behind y.0 ys x rising.1 f) (λ f. found-at y.0 ys x rising.1 f)
    where
      here : (b : Bool) → eqb x.0 y.0 ≡ b → y ≡ x → cond b (Some y.1) (item_at x.0 ys) ≡ Some x.1
      here true f same = ap (λ (z : Numbered Exchange). Some z.1) same
      here false f same = absurd (eqb-false x.0 y.0 f (ap (λ (z : Numbered Exchange). z.0) (sym same)))

      later : (b : Bool) → eqb x.0 y.0 ≡ b → y.0 < x.0 → item_at x.0 ys ≡ Some x.1 → cond b (Some y.1) (item_at x.0 ys) ≡ Some x.1
      later true f more rest = let same = eqb-true x.0 y.0 f in absurd (omega arith)
      later false f more rest = rest

      go : (b : Bool) → cond b (Some y) (find holds ys) ≡ Some x → (find holds ys ≡ Some x → y.0 < x.0) → (find holds ys ≡ Some x → item_at x.0 ys ≡ Some x.1) → item_at x.0 (y ∷ ys) ≡ Some x.1
      go true f more rest = here (eqb x.0 y.0) refl (same_Some _ _ f)
      go false f more rest = later (eqb x.0 y.0) refl (more f) (rest f)

-- what holds of the exchange of the number that awaits a response holds of the one that awaits it
pub awaited : (w : State) (source : Endpoint) (m : Message) (number : ℕ) (Q : Option (Numbered Exchange) → Type 0) → IsRising 0 w.exchanges → Some number ≡ option_map (λ x. x.0) (awaiting w source m)
    → ((x : Exchange) → item_at number w.exchanges ≡ Some x → Q (Some (number, x))) → Q (awaiting w source m)
awaited w source m number Q rising e each = go (awaiting w source m) refl e
  where
    go : (o : Option (Numbered Exchange)) → awaiting w source m ≡ o → Some number ≡ option_map (λ x. x.0) o → Q o
    go None is f = absurd cc
    go (Some x) is f =
        let same : number ≡ x.0 = cc in
        let found = found-at (awaits w.setting.salt source m) 0 w.exchanges x rising is in
        subst (λ (n : ℕ). Q (Some (n, x.1))) same (each x.1 (rw same found))

-- there is an exchange of a number that is found
pub first-there : (test : Exchange → Bool) (xs : List (Numbered Exchange)) (number : ℕ) → IsRising 0 xs → Some number ≡ first_that test xs → is_some (item_at number xs) ≡ true
first-there test xs number rising e = go (find (λ (x : Numbered Exchange). test x.1) xs) refl e
  where
    go : (o : Option (Numbered Exchange)) → find (λ (x : Numbered Exchange). test x.1) xs ≡ o → Some number ≡ option_map {T = Numbered Exchange} (λ x. x.0) o → is_some (item_at number xs) ≡ true
    go None is f = absurd cc
    go (Some x) is f =
        let same : number ≡ x.0 = cc in
        rw (same, found-at (λ (y : Numbered Exchange). test y.1) 0 xs x rising is) refl
