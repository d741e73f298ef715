-- Changes: what a mark or a taint says stays right as the history grows.
use Rattle.std.proofs.Common.{◌≡◌, ◌≢◌, ◌⊎◌, inl, inr, ⊎_elim, ℕ, ◌<◌, ◌≤◌, Bool, true, false, List, [], ◌∷◌, refl, sym, ap, ◌∙◌, subst, arith}
use Rattle.std.specs.Prelude.{◌||◌, ◌&&◌, ◌/◌, ◌==◌, cond, not, nat_lt, if◌then◌else◌, Option}
use Rattle.std.proofs.lemmas.Bool.{eqb-true, and_parts}
use Rattle.coap_message.specs.declared.code.Code.{Code}
use Rattle.coap_message.specs.declared.code.TheConstants.Code.{CREATED, DELETED, CHANGED, VALID}
use Rattle.coap_message.specs.Codes.{is_code}
use Rattle.coap_option.specs.Selection.{max_age_of}
use Rattle.coap_store.specs.Showing.{is_content, is_cacheable}
use Rattle.coap_forward.specs.Messages.{is_rst}
use Rattle.coap_forward.specs.Answers.{validates, is_passed_on, without_observe, bad_gateway, own_answer, origin_answer, validated, answer_of, is_storable}
use Rattle.coap_message.specs.Message.{Message}
use Rattle.coap_message.specs.Spelling.{Spells}
use Rattle.coap_endpoint.specs.declared.target.Target.{Target}
use Rattle.coap_forward.specs.Changes.{is_change, created_by, changed_by, concerns}
use Rattle.coap_model.specs.Setting.{Setting}
use Rattle.coap_model.specs.Keys.{key_sent}
use Rattle.coap_model.specs.History.{Action, Position, index, Never, accepts_answer, Sends, Gets}
use Rattle.coap_model.specs.Changed.{asked_of, key_asked, to_get, Changes, ChangesAfter, Unchanged, WasChanged, IsTold}
use Rattle.coap_message.proofs.WholeMessages.{one_message}
use Rattle.coap_model.proofs.Positions.{here, index_below, same_moves, first-once, one-brought, never-from, Never-at}

-- ---- the answer at a position is unique

-- two accounts of the answer of an exchange at a position agree
pub record AreOneGetting {setting : Setting} {x y : ℕ} {p : Position} (g : Gets setting x p) (h : Gets setting y p) : Type 0 where
  pub exchange : x ≡ y
  pub asking : g.meets.asking ≡ h.meets.asking
  pub asked : asked_of g ≡ asked_of h
  pub key : key_asked g ≡ key_asked h
  pub message : g.meets.message ≡ h.meets.message

-- any two accounts agree
pub one-getting : {setting : Setting} {x y : ℕ} {p : Position} (g : Gets setting x p) (h : Gets setting y p) → AreOneGetting g h
one-getting {setting} {x} {y} {p} g h =
    record {
      exchange = number;
      asking = position;
      asked = one;
      key = λ i. key_sent (to i) (one i);
      message = (one-brought g.meets.brings h.meets.brings).1;
    }
  where
    number : x ≡ y
    number = same_moves x y (sym g.act ∙ h.act)

    position : g.meets.asking ≡ h.meets.asking
    position =
        let first : Never (Sends setting.salt y) g.meets.asking.before = subst (λ (n : ℕ). Never (Sends setting.salt n) g.meets.asking.before) number g.meets.asks.first in
        first-once (Sends setting.salt y) p.before g.meets.asking h.meets.asking g.meets.was_asked h.meets.was_asked (subst (λ (n : ℕ). Sends setting.salt n g.meets.asking) number g.meets.asks.sends) h.meets.asks.sends first h.meets.asks.first

    to : g.meets.asks.sends.to ≡ h.meets.asks.sends.to
    to = let sent = sym g.meets.asks.sends.sent ∙ ap (λ (q : Position). q.action.observation.report.send) position ∙ h.meets.asks.sends.sent in cc

    one : g.meets.asks.sends.message ≡ h.meets.asks.sends.message
    one = one_message h.meets.asking.action.observation.bytes g.meets.asks.sends.message h.meets.asks.sends.message (subst (λ (q : Position). Spells q.action.observation.bytes g.meets.asks.sends.message) position g.meets.asks.sends.spells) h.meets.asks.sends.spells

-- ---- observations that accept no answer

-- an observation that accepts no answer changes nothing
pub quiet-unchanged : {setting : Setting} {history : List Action} {d : Action} {target : Target} → accepts_answer d.observation.report.outcome ≡ false → Changes setting target (here history d) → ⊥
quiet-unchanged none c = let e = sym none ∙ c.gets.outcome in absurd cc

-- so what a mark says stays right
pub told-stays : (told : Bool) (setting : Setting) (target : Target) (since : Position) (history : List Action) (d : Action) → accepts_answer d.observation.report.outcome ≡ false → IsTold told setting target since history → IsTold told setting target since (d ∷ history)
told-stays false setting target since history d none t = ((λ c. quiet-unchanged none c.0), t)
told-stays true setting target since history d none t = record { position = t.position; is_there = inr t.is_there; holds = t.holds }

-- ---- an observation that accepts an answer

-- a mark stays right after an answer: it stays set, or is set if the answer changes the target
pub told-on : {setting : Setting} {x : ℕ} {history : List Action} {d : Action} (told : Bool) (target : Target) (since : Position) (gets : Gets setting x (here history d)) → index since < index (here history d) → IsTold told setting target since history
    → IsTold (told || concerns (changed_by (key_asked gets).target gets.meets.message) target) setting target since (d ∷ history)
told-on {setting} {x} {history} {d} told target since gets before t = go told (concerns (changed_by (key_asked gets).target gets.meets.message) target) refl t
  where
    go : (b c : Bool) → concerns (changed_by (key_asked gets).target gets.meets.message) target ≡ c → IsTold b setting target since history → IsTold (b || c) setting target since (d ∷ history)
    go true c is u = record { position = u.position; is_there = inr u.is_there; holds = u.holds }
    go false true is u = record { position = here history d; is_there = inl refl; holds = (record { exchange = x; gets = gets; concerned = is }, before) }
    go false false is u = ((λ h. other h.0), u)
      where
        other : Changes setting target (here history d) → ⊥
        other h =
            let one = one-getting h.gets gets in
            let same : concerns (changed_by (key_asked h.gets).target h.gets.meets.message) target ≡ concerns (changed_by (key_asked gets).target gets.meets.message) target = λ i. concerns (changed_by (one.key i).target (one.message i)) target in
            let e = sym h.concerned ∙ same ∙ is in
            absurd cc

-- ---- a target isn't both changed and unchanged

-- a target that was changed isn't unchanged
pub told-contrary : {setting : Setting} {target : Target} (since : Position) {history : List Action} → Unchanged setting target since history → WasChanged setting target since history → ⊥
told-contrary {setting} {target} since {history} never was = Never-at (ChangesAfter setting target since) history was.position never was.is_there was.holds

-- nothing was changed after the newest position
pub newest-unchanged : (setting : Setting) (target : Target) (history : List Action) (d : Action) → accepts_answer d.observation.report.outcome ≡ false → Unchanged setting target (here history d) (d ∷ history)
newest-unchanged setting target history d none = ((λ c. quiet-unchanged none c.0), never-from (ChangesAfter setting target (here history d)) history (λ p at c. let lower = index_below history p at in let above = c.1 in omega (arith, lower, above)))

-- ---- an answer that may be stored changes nothing

-- the codes that say that something was changed
change-code : (code : Code) → is_change code ≡ true → (code.0 ≡ 65) ⊎ (code.0 ≡ 66) ⊎ (code.0 ≡ 68)
change-code code e = go (is_code code CREATED) refl (is_code code DELETED) refl (is_code code CHANGED) refl e
  where
    go : (a : Bool) → is_code code CREATED ≡ a → (b : Bool) → is_code code DELETED ≡ b → (c : Bool) → is_code code CHANGED ≡ c → (a || (b || c)) ≡ true → (code.0 ≡ 65) ⊎ (code.0 ≡ 66) ⊎ (code.0 ≡ 68)
    go true f b g c h any = inl (eqb-true code.0 65 f)
    go false f true g c h any = inr (inl (eqb-true code.0 66 g))
    go false f false g true h any = inr (inr (eqb-true code.0 68 h))
    go false f false g false h any = absurd cc

-- a code with a Max-Age isn't one of these, nor is 2.03
lasting-code : (code : Code) → is_cacheable code ≡ true → is_change code ≡ true → ⊥
lasting-code code e change = go (is_content code) refl (code.0 / 32 == 4) refl (code.0 / 32 == 5) refl e
  where
    no : (n : ℕ) → code.0 ≡ n → (n ≢ 65) × (n ≢ 66) × (n ≢ 68) → ⊥
    no n is other = ⊎_elim (λ (a : code.0 ≡ 65). other.0 (sym is ∙ a)) (λ (bc : (code.0 ≡ 66) ⊎ (code.0 ≡ 68)). ⊎_elim (λ (b : code.0 ≡ 66). other.1 (sym is ∙ b)) (λ (c : code.0 ≡ 68). other.2 (sym is ∙ c)) bc) (change-code code change)

    class : (k : ℕ) → code.0 / 32 ≡ k → 4 ≤ k → ⊥
    class k is high = ⊎_elim (λ (a : code.0 ≡ 65). omega (arith, a, is, high)) (λ (bc : (code.0 ≡ 66) ⊎ (code.0 ≡ 68)). ⊎_elim (λ (b : code.0 ≡ 66). omega (arith, b, is, high)) (λ (c : code.0 ≡ 68). omega (arith, c, is, high)) bc) (change-code code change)

    go : (a : Bool) → is_content code ≡ a → (b : Bool) → (code.0 / 32 == 4) ≡ b → (c : Bool) → (code.0 / 32 == 5) ≡ c → (a || (b || c)) ≡ true → ⊥
    go true f b g c h any = no 69 (eqb-true code.0 69 f) ((λ k. omega (arith, k)), (λ k. omega (arith, k)), (λ k. omega (arith, k)))
    go false f true g c h any = class 4 (eqb-true (code.0 / 32) 4 g) (omega arith)
    go false f false g true h any = class 5 (eqb-true (code.0 / 32) 5 h) (omega arith)
    go false f false g false h any = absurd cc

valid-code : (code : Code) → is_code code VALID ≡ true → is_change code ≡ true → ⊥
valid-code code e change =
    let is = eqb-true code.0 67 e in
    ⊎_elim (λ (a : code.0 ≡ 65). omega (arith, a, is)) (λ (bc : (code.0 ≡ 66) ⊎ (code.0 ≡ 68)). ⊎_elim (λ (b : code.0 ≡ 66). omega (arith, b, is)) (λ (c : code.0 ≡ 68). omega (arith, c, is)) bc) (change-code code change)

-- so the code of a response that may be stored isn't one of them
storable-code : (most now : ℕ) (to_get : Bool) (copy : Option Message) (m : Message) → is_storable (answer_of most to_get copy now m) ≡ true → is_change m.code ≡ true → ⊥
unfolding answer_of
storable-code most now to_get copy m e change = go (not (is_rst m.kind) && is_passed_on most to_get m) (validates to_get m) refl e
  where
    go : (p v : Bool) → validates to_get m ≡ v
        → is_storable (cond p (cond v (validated most now copy (cond v (record (without_observe m) { payload = [] }) (without_observe m))) (origin_answer now (cond v (record (without_observe m) { payload = [] }) (without_observe m)))) (own_answer now bad_gateway)) ≡ true → ⊥
    go false v is f = absurd cc
    go true true is f = valid-code m.code (and_parts to_get (is_code m.code VALID) is).1 change
    go true false is f = lasting-code m.code (and_parts (is_cacheable m.code) (nat_lt 0 (max_age_of (without_observe m))) f).0 change

-- and the response changes no target
pub storable-quiet : (most now : ℕ) (to_get : Bool) (copy : Option Message) (m : Message) (t u : Target) → is_storable (answer_of most to_get copy now m) ≡ true → concerns (changed_by t m) u ≡ false
unfolding changed_by
storable-quiet most now to_get copy m t u e = go (is_change m.code) refl
  where
    go : (b : Bool) → is_change m.code ≡ b → concerns (if b then t ∷ created_by t m else []) u ≡ false
    go true change = absurd (storable-code most now to_get copy m e change)
    go false none = refl
