-- What is counted for each endpoint, as what is counted for one of them changes.
use Rattle.std.proofs.Common.{◌≡◌, ℕ, ◌+◌, ◌-◌, ◌<◌, ◌&&◌, Bool, true, false, cond, Option, None, refl, ap, ◌∙◌, arith}
use Rattle.coap_endpoint.specs.declared.endpoint.Endpoint.{Endpoint}
use Rattle.endpoint_counts.specs.declared.endpoints.EndpointCounts.{EndpointCounts}
use Rattle.endpoint_counts.specs.Endpoints.{is_one, open_of, one_if_at}
use Rattle.coap_pending.proofs.Counts.{one_if}
use Rattle.endpoint_counts.proofs.Orders.{one-only}

-- a number of one endpoint becomes another
pub moved-at : (at e : Endpoint) (g : Endpoint → ℕ) (new now less more : ℕ) → new ≡ cond (is_one at e) now (g e) → now ≡ (g at - less) + more → new ≡ (g e - cond (is_one at e) less 0) + cond (is_one at e) more 0
moved-at at e g new now less more is same = go (is_one at e) refl is
  where
    go : (b : Bool) → is_one at e ≡ b → new ≡ cond b now (g e) → new ≡ (g e - cond b less 0) + cond b more 0
    go true f h = let there : g at ≡ g e = ap g (one-only at e f) in omega arith
    go false f h = omega arith

-- it counts at one endpoint alone
pub one_if_at-split : (counts : Bool) (at e : Endpoint) → one_if_at counts at e ≡ cond (is_one at e) (one_if counts) 0
one_if_at-split true at e = refl
one_if_at-split false at e = go (is_one at e)
  where
    go : (b : Bool) → one_if (false && b) ≡ cond b (one_if false) (one_if false)
    go true = refl
    go false = refl

-- a function of a choice is a choice
pub cond-of : {V : Type 0} (f : Option V → ℕ) (b : Bool) (x y : Option V) → f (cond b x y) ≡ cond b (f x) (f y)
cond-of f true x y = refl
cond-of f false x y = refl

-- what is put in the place of an endpoint
pub put-at : {V : Type 0} (f : Option V → ℕ) (old new : Endpoint → Option V) (at : Endpoint) (w : Option V) (less more : ℕ) → ((q : Endpoint) → new q ≡ cond (is_one at q) w (old q)) → f w ≡ (f (old at) - less) + more
    → (e : Endpoint) → f (new e) ≡ (f (old e) - cond (is_one at e) less 0) + cond (is_one at e) more 0
put-at f old new at w less more puts same e =
    moved-at at e (λ q. f (old q)) (f (new e)) (f w) less more (ap f (puts e) ∙ cond-of f (is_one at e) w (old e)) same

-- adding nothing
no-more : (b : Bool) (n : ℕ) → n + cond b 0 0 ≡ n
no-more true n = omega arith
no-more false n = omega arith

-- taking nothing away
no-less : (b : Bool) (n : ℕ) → n - cond b 0 0 ≡ n
no-less true n = omega arith
no-less false n = omega arith

-- it is raised, lowered or stays
pub put-more : {V : Type 0} (f : Option V → ℕ) (old new : Endpoint → Option V) (at : Endpoint) (w : Option V) (more : ℕ) → ((q : Endpoint) → new q ≡ cond (is_one at q) w (old q)) → f w ≡ f (old at) + more
    → (e : Endpoint) → f (new e) ≡ f (old e) + cond (is_one at e) more 0
put-more f old new at w more puts same e = put-at f old new at w 0 more puts (omega arith) e ∙ ap (λ (n : ℕ). n + cond (is_one at e) more 0) (no-less (is_one at e) (f (old e)))

-- it is lowered
pub put-less : {V : Type 0} (f : Option V → ℕ) (old new : Endpoint → Option V) (at : Endpoint) (w : Option V) (less : ℕ) → ((q : Endpoint) → new q ≡ cond (is_one at q) w (old q)) → f w ≡ f (old at) - less
    → (e : Endpoint) → f (new e) ≡ f (old e) - cond (is_one at e) less 0
put-less f old new at w less puts same e = put-at f old new at w less 0 puts (omega arith) e ∙ no-more (is_one at e) (f (old e) - cond (is_one at e) less 0)

-- it stays
pub put-same : {V : Type 0} (f : Option V → ℕ) (old new : Endpoint → Option V) (at : Endpoint) (w : Option V) → ((q : Endpoint) → new q ≡ cond (is_one at q) w (old q)) → f w ≡ f (old at)
    → (e : Endpoint) → f (new e) ≡ f (old e)
put-same f old new at w puts same e = put-less f old new at w 0 puts (omega arith) e ∙ no-less (is_one at e) (f (old e))

-- of what is counted there is something
pub some-counted : (o : Option EndpointCounts) → 0 < open_of o → o ≡ None → ⊥
some-counted o some none = let zero : open_of o ≡ 0 = ap open_of none in omega arith
