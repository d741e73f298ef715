-- What becomes of a request: the codes of refusals, and which requests may be forwarded.
use Rattle.std.proofs.Common.{◌≡◌, ◌≢◌, ℕ, ◌+◌, ◌≤◌, Bool, true, false, cond, List, length, Option, Some, None, Result, Ok, Err, refl, sym, ◌∙◌, ap, subst, arith}
use Rattle.std.proofs.lemmas.Bool.{leb-true}
use Rattle.coap_message.specs.declared.code.Code.{Code}
use Rattle.coap_message.specs.declared.code.TheConstants.Code.{REQUEST_ENTITY_TOO_LARGE}
use Rattle.coap_message.specs.Message.{Message}
use Rattle.coap_message.specs.Spelling.{spelling}
use Rattle.coap_message.proofs.Spellings.{spelling-length}
use Rattle.coap_option.specs.declared.side.Side.TheVariants.{Request}
use Rattle.coap_option.specs.Screening.{first_refused}
use Rattle.coap_endpoint.specs.declared.target.Target.{Target}
use Rattle.coap_endpoint.specs.Target.{IsTarget}
use Rattle.coap_store.specs.declared.key.CacheKey.{CacheKey}
use Rattle.coap_target.specs.declared.error.TargetError.{TargetError}
use Rattle.coap_target.specs.declared.error.TargetError.TheVariants.{BadUri, NotProxied, NotFound, OutOfMemory}
use Rattle.coap_target.specs.declared.routes.Routes.{Routes}
use Rattle.coap_target.specs.Request.{request_target}
use Rattle.coap_target.specs.Routes.{AreRoutes}
use Rattle.coap_target.proofs.Requests.{request_target-is}
use Rattle.coap_forward.specs.Messages.{eight_zeros, is_method}
use Rattle.coap_forward.specs.Forms.{forwarded, form_fits}
use Rattle.coap_model.specs.declared.deed.Refusal.{Refusal}
use Rattle.coap_model.specs.declared.deed.Refusal.TheVariants as refusals
use Rattle.coap_model.specs.Deeds.{code_of}
use Rattle.coap_model.specs.Keys.{request_key}
use Rattle.coap_model.specs.Verdicts.{Verdict, refused_with, may_ask, refusal_of, verdict_of_target, verdict_of_options, verdict_of}
use Rattle.coap_model.specs.Setting.{Setting}
use Rattle.coap_model.specs.History.{Action}
use Rattle.coap_model.specs.Justified.{Deserves, by_verdict, by_length}

-- which requests may be forwarded: those with a known method that pass the screening, with their
-- target and its key
pub record IsAskable (routes : Routes) (m : Message) (key : CacheKey) : Type 0 where
  pub method : is_method m.code ≡ true
  pub screened : first_refused Request m.options ≡ None
  pub target_is : request_target routes m ≡ Ok key.target
  pub key_is : key ≡ request_key key.target m
  pub sound : IsTarget key.target

-- a forwarded request is as long as one with a token of eight zeros, plus the difference of the
-- tokens
pub form-length : (token : List ℕ) (t : Target) (tag : Option (List ℕ)) (m : Message) → length (spelling (forwarded token t tag m 0)) + 8 ≡ length (spelling (forwarded eight_zeros t tag m 0)) + length token
form-length token t tag m = omega (arith, spelling-length (forwarded token t tag m 0), spelling-length (forwarded eight_zeros t tag m 0))

-- what fits a datagram fits it with any token of eight bytes
pub form-short : (most : ℕ) (t : Target) (tag : Option (List ℕ)) (m : Message) → form_fits most t tag m ≡ true → (token : List ℕ) → length token ≡ 8 → length (spelling (forwarded token t tag m 0)) ≤ most
unfolding form_fits
form-short most t tag m fits token eight = omega (arith, form-length token t tag m, eight, leb-true _ _ fits)

-- codes with the same number are equal
pub code-same : (a b : Code) → a.0 ≡ b.0 → a ≡ b
code-same a b e = let same : ◌≡◌ {A = Code} (record { 0 = a.0 }) (record { 0 = b.0 }) = rw e refl in same

-- no refusal for the target has the code 0.00
refusal-coded : (e : TargetError) → (code_of (refusal_of e)).0 ≢ 0
refusal-coded BadUri = λ z. absurd (omega arith)
refusal-coded NotProxied = λ z. absurd (omega arith)
refusal-coded NotFound = λ z. absurd (omega arith)
refusal-coded OutOfMemory = λ z. absurd (omega arith)

-- a verdict is right: a refusal has a code, and what may be forwarded is as described
abbrev Right : Routes → Message → Verdict → Type 0
Right routes m (refused_with why) = (code_of why).0 ≢ 0
Right routes m (may_ask key) = IsAskable routes m key

module _ (routes : Routes) (m : Message) (are : AreRoutes routes) where
  -- the verdict on a target is right
  target-right : is_method m.code ≡ true → first_refused Request m.options ≡ None → (r : Result Target TargetError) → request_target routes m ≡ r → Right routes m (verdict_of_target m r)
  target-right method screened (Err e) is = refusal-coded e
  target-right method screened (Ok t) is = record { method = method; screened = screened; target_is = is; key_is = refl; sound = request_target-is routes m t are screened is }

  -- so is the verdict on the options
  options-right : is_method m.code ≡ true → (o : Option ℕ) → first_refused Request m.options ≡ o → Right routes m (verdict_of_options routes m o)
  options-right method (Some number) refused = λ z. absurd (omega arith)
  options-right method None screened = target-right method screened (request_target routes m) refl

  -- and so is the verdict on the request
  verdict-right : Right routes m (verdict_of routes m)
  unfolding verdict_of
  verdict-right = go (is_method m.code) refl
    where
      go : (b : Bool) → is_method m.code ≡ b → Right routes m (cond b (verdict_of_options routes m (first_refused Request m.options)) (refused_with refusals.Method))
      go true e = options-right e (first_refused Request m.options) refl
      go false e = λ z. absurd (omega arith)

  -- what may be forwarded is as described
  pub askable : (key : CacheKey) → verdict_of routes m ≡ may_ask key → IsAskable routes m key
  askable key e = subst (Right routes m) e verdict-right

  -- the code of a refusal isn't 0.00
  pub refused-code : (why : Refusal) → verdict_of routes m ≡ refused_with why → (code_of why).0 ≢ 0
  refused-code why e = subst (Right routes m) e verdict-right

-- nor is a code that a request deserves
pub deserved-code : (setting : Setting) (past : List Action) (now : ℕ) (m : Message) → AreRoutes setting.routes → (code : Code) → Deserves setting past now m code → code.0 ≢ 0
deserved-code setting past now m are code (by_verdict why verdict is) = subst (λ (c : Code). c.0 ≢ 0) (sym is) (refused-code setting.routes m are why verdict)
deserved-code setting past now m are code (by_length key verdict miss fits is) = λ zero. let big : REQUEST_ENTITY_TOO_LARGE.0 ≡ 0 = ap (λ (c : Code). c.0) (sym is) ∙ zero in absurd (omega arith)
