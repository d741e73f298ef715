-- Nothing is done for a waiter that is finished.
use Rattle.std.proofs.Common.{◌≡◌, ℕ, ◌+◌, ◌≤◌, List, [], ◌∷◌, Some, refl, sym, ap, ◌∙◌, subst, arith}
use Rattle.std.specs.Prelude.{not}
use Rattle.std.specs.List.{AllByRecursion}
use Rattle.coap_model.specs.declared.report.Outcome.{Outcome}
use Rattle.coap_model.specs.declared.report.Outcome.TheVariants.{Ignored, Rejected, Again, NoRecordRoom, Refused, Hit, Joined, Opened, Overloaded, NoId, Answered, Acked, SentRequest, Resent, GaveUp, Delivered, Idle}
use Rattle.coap_model.specs.Setting.{Setting}
use Rattle.coap_model.specs.History.{admits, serves, Action, Position, IsPositionOf, Never, admits_one, admitted_in, finishes, Serves, Finishes}
use Rattle.coap_model.specs.Standing.{delivering, service_of, standing_in}
use Rattle.coap_model.specs.Justified.{Settles, a_request, an_answer, IsToSendAgain, request_again, answer_again, IsGivingUp, overdue, unheard, unacknowledged, IsDelivery, JustifiedBy, AllJustified}
use Rattle.coap_model.proofs.OwedActions.{taken-so}
use Rattle.coap_model.proofs.Positions.{same_serves, same_admits, Never-at, never-from, position-before, justified-at, Admits-number}
use Rattle.coap_model.proofs.Services.{All-standing, standing-holds, delivering-served}
use Rattle.coap_model.proofs.Stages.{all-before}

-- ---- what is done for a waiter

-- what is done for a waiter: it is served, or it hasn't acknowledged its answer yet
data IsFor (setting : Setting) (past : List Action) (d : Action) (v : ℕ) : Outcome → Type 0 where
  serving : (j : IsDelivery setting past d) → j.waiter ≡ v → IsFor setting past d v Delivered
  telling : {o : Outcome} → service_of v past ≡ Some delivering → IsFor setting past d v o

-- nothing else is
for-waiter : (setting : Setting) (past : List Action) (d : Action) (v : ℕ) (o : Outcome) → JustifiedBy o setting past d → d.act ≡ serves v → IsFor setting past d v o
for-waiter setting past d v Ignored j is = absurd (let e = sym j.act ∙ is in cc)
for-waiter setting past d v Rejected j is = absurd (let e = sym j.act ∙ is in cc)
for-waiter setting past d v Again j is = absurd (let e = sym j.act ∙ is in cc)
for-waiter setting past d v NoRecordRoom j is = absurd (let e = sym j.act ∙ is in cc)
for-waiter setting past d v (Refused code) j is = absurd (let e = sym j.act ∙ is in cc)
for-waiter setting past d v Hit j is = absurd (let e = sym j.act ∙ is in cc)
for-waiter setting past d v Joined j is = absurd (let e = sym j.act ∙ is in cc)
for-waiter setting past d v Opened j is = absurd (let e = sym j.act ∙ is in cc)
for-waiter setting past d v Overloaded j is = absurd (let e = sym j.act ∙ is in cc)
for-waiter setting past d v NoId j is = absurd (let e = sym j.act ∙ is in cc)
for-waiter setting past d v (Answered s) j is = absurd (let e = sym (taken-so s setting past d j).gets.act ∙ is in cc)
for-waiter setting past d v Acked j is = go j.settles
  where
    go : Settles setting past d → IsFor setting past d v Acked
    go (a_request x act k) = absurd (let e = sym act ∙ is in cc)
    go (an_answer u act k) = telling (subst (λ (n : ℕ). service_of n past ≡ Some delivering) (same_serves u v (sym act ∙ is)) k.service)
for-waiter setting past d v SentRequest j is = absurd (let e = sym j.act ∙ is in cc)
for-waiter setting past d v Resent j is = go j.again
  where
    go : {at : ℕ} → IsToSendAgain setting past d at → IsFor setting past d v Resent
    go (request_again x act repeat timely) = absurd (let e = sym act ∙ is in cc)
    go (answer_again u act again) = telling (subst (λ (n : ℕ). service_of n past ≡ Some delivering) (same_serves u v (sym act ∙ is)) again.service)
for-waiter setting past d v GaveUp j is = go j
  where
    go : IsGivingUp setting past d → IsFor setting past d v GaveUp
    go (overdue x at acting act end come silent) = absurd (let e = sym act ∙ is in cc)
    go (unheard x at acting act repeat first come stops silent) = absurd (let e = sym act ∙ is in cc)
    go (unacknowledged u acting act again stops silent) = telling (subst (λ (n : ℕ). service_of n past ≡ Some delivering) (same_serves u v (sym act ∙ is)) again.service)
for-waiter setting past d v Delivered j is = serving j (same_serves j.waiter v (sym j.act ∙ is))
for-waiter setting past d v Idle j is = absurd (let e = sym j.act ∙ is in cc)

-- a waiter that is finished at a position was served there or before
record WasServed (history : List Action) (v : ℕ) : Type 0 where
  pub position : Position
  pub is_there : IsPositionOf history position
  pub serves_it : Serves v position

gone-served : (setting : Setting) (history : List Action) (v : ℕ) (p : Position) → AllJustified setting history → IsPositionOf history p → Finishes v p → WasServed history v
gone-served setting history v p all at g = go p.action.observation.report.outcome refl (for-waiter setting p.before p.action v p.action.observation.report.outcome (justified-at setting history p p.action.observation.report.outcome all at refl) g.act)
  where
    go : (o : Outcome) → p.action.observation.report.outcome ≡ o → IsFor setting p.before p.action v o → WasServed history v
    go _ is (serving j same) = record { position = p; is_there = at; serves_it = record { act = g.act; outcome = is } }
    go _ is (telling service) = let s = delivering-served v p.before service in record { position = s.position; is_there = position-before history p s.position at s.is_there; serves_it = s.holds }

-- so it was admitted
gone-number : (setting : Setting) (history : List Action) (v : ℕ) (p : Position) → AllJustified setting history → IsPositionOf history p → Finishes v p → v ≤ admitted_in history
gone-number setting history v p all at g =
    let s = gone-served setting history v p all at g in
    let j : IsDelivery setting s.position.before s.position.action = justified-at setting history s.position Delivered all s.is_there s.serves_it.outcome in
    let a = j.to_serve.admitted in
    let same = same_serves j.waiter v (sym j.act ∙ s.serves_it.act) in
    let number = Admits-number history a.admission j.waiter a.exchange (position-before history s.position a.admission s.is_there a.was_admitted) a.admits in
    omega (arith, same, number.1)

-- ---- the waiters that are there

-- a waiter that is admitted has the next number
comes-next : (setting : Setting) (past : List Action) (d : Action) (v x : ℕ) (o : Outcome) → JustifiedBy o setting past d → admits_one o ≡ 1 → d.act ≡ admits v x → v ≡ admitted_in past + 1
comes-next setting past d v x Joined j one is = (same_admits v _ x _ (sym is ∙ j.act)).0
comes-next setting past d v x Opened j one is = (same_admits v _ x _ (sym is ∙ j.act)).0
comes-next setting past d v x _ j one is = absurd (omega (arith, one))

-- no waiter that is there is finished
all-stay : (setting : Setting) (history : List Action) → AllJustified setting history → AllByRecursion (λ s. Never (Finishes s.number) history) (standing_in history)
all-stay setting [] all = tt
all-stay setting (d ∷ past) all =
    All-standing (λ s. Never (Finishes s.number) past) (λ s. Never (Finishes s.number) (d ∷ past)) d.observation.report.outcome d.act d.observation.event d.observation.bytes (standing_in past)
    (λ client came v x brings one is. (
      (λ g. let e = sym is ∙ g.act in cc),
      never-from (Finishes v) past (λ p at g. let next = comes-next setting past d v x d.observation.report.outcome all.0 one is in let below = gone-number setting past v p all.1 at g in omega (arith, next, below)),
    ))
    (λ v is con act s h same. ((λ g. let e = sym g.outcome ∙ ap (λ (o : Outcome). finishes o d.observation.bytes) is ∙ ap not con in cc), h))
    (λ s h stays. ((λ g. stays g.outcome g.act), h))
    (all-stay setting past all.1)

-- nothing is done for a waiter after it is finished
pub gone-for-good : (setting : Setting) (history : List Action) (v : ℕ) (p : Position) → AllJustified setting history → IsPositionOf history p → p.action.act ≡ serves v → Never (Finishes v) p.before
gone-for-good setting history v p all at is = go (for-waiter setting p.before p.action v p.action.observation.report.outcome (justified-at setting history p p.action.observation.report.outcome all at refl) is)
  where
    before : AllJustified setting p.before
    before = all-before setting history p all at

    go : {o : Outcome} → IsFor setting p.before p.action v o → Never (Finishes v) p.before
    go (serving j same) = never-from (Finishes v) p.before (λ q there g. let s = gone-served setting p.before v q before there g in Never-at (Serves v) p.before s.position (subst (λ (n : ℕ). Never (Serves n) p.before) same j.to_serve.unserved) s.is_there s.serves_it)
    go (telling service) =
        let h = standing-holds (λ s. Never (Finishes s.number) p.before) v delivering p.before (all-stay setting p.before before) service in
        subst (λ (n : ℕ). Never (Finishes n) p.before) h.2 h.1
