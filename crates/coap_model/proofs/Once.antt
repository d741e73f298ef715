-- What is done at only one position.
use Rattle.std.proofs.Common.{◌≡◌, ⊎_elim, ℕ, ◌+◌, true, List, refl, sym, ap, ◌∙◌, subst}
use Rattle.coap_model.specs.declared.report.Outcome.{Outcome}
use Rattle.coap_model.specs.declared.report.Outcome.TheVariants.{Opened, Answered, SentRequest, GaveUp, Delivered}
use Rattle.coap_store.specs.declared.key.CacheKey.{CacheKey}
use Rattle.coap_model.specs.Setting.{Setting}
use Rattle.coap_model.specs.History.{moves, Action, Position, IsPositionOf, Never, opened_in, ends, Sends, Ends, Serves}
use Rattle.coap_model.specs.Changed.{ChangesAfter}
use Rattle.coap_model.specs.Justified.{verdict_on, IsGet, IsJoinable, IsOpening, IsForwarding, IsDelivery, IsGivingUp, overdue, unheard, unacknowledged, JustifiedBy, AllJustified}
use Rattle.coap_model.proofs.OwedActions.{one_key, taken-so}
use Rattle.coap_model.proofs.Positions.{first-once, same_moves, same_serves, never-before, position-before, in-order, request-unique, justified-at}
use Rattle.coap_model.proofs.Stages.{all-before, queued-unsent}

-- the request of an exchange wasn't sent before the position where it is first sent
pub sent-first : (setting : Setting) (history : List Action) (x : ℕ) (p : Position) → AllJustified setting history → IsPositionOf history p → Sends setting.salt x p → Never (Sends setting.salt x) p.before
sent-first setting history x p all at s =
    let j : IsForwarding setting p.before p.action = justified-at setting history p SentRequest all at s.outcome in
    let same = same_moves j.exchange x (sym j.act ∙ s.act) in
    subst (λ (n : ℕ). Never (Sends setting.salt n) p.before) same (queued-unsent setting p.before j.exchange (all-before setting history p all at) j.to_send.stage)

-- an exchange that is given up hasn't ended before
given_up-first : (setting : Setting) (past : List Action) (d : Action) (x : ℕ) → IsGivingUp setting past d → d.act ≡ moves x → Never (Ends x) past
given_up-first setting past d x (overdue y m acting act to_end come silent) is = subst (λ (n : ℕ). Never (Ends n) past) (same_moves y x (sym act ∙ is)) to_end.unended
given_up-first setting past d x (unheard y m acting act to_repeat first come stops silent) is = subst (λ (n : ℕ). Never (Ends n) past) (same_moves y x (sym act ∙ is)) first
given_up-first setting past d x (unacknowledged v acting act to_serve stops silent) is = absurd (let e = sym act ∙ is in cc)

-- an exchange hasn't ended before the position where it ends
pub ended-first : (setting : Setting) (history : List Action) (x : ℕ) (p : Position) → AllJustified setting history → IsPositionOf history p → Ends x p → Never (Ends x) p.before
ended-first setting history x p all at e = go p.action.observation.report.outcome e.outcome (justified-at setting history p p.action.observation.report.outcome all at refl)
  where
    go : (o : Outcome) → ends o ≡ true → JustifiedBy o setting p.before p.action → Never (Ends x) p.before
    go (Answered s) is j =
        let a = taken-so s setting p.before p.action j in
        subst (λ (n : ℕ). Never (Ends n) p.before) (same_moves a.exchange x (sym a.gets.act ∙ e.act)) a.first
    go GaveUp is j = given_up-first setting p.before p.action x j e.act
    go _ is j = absurd cc

-- a waiter wasn't served before the position where it is served
pub served-first : (setting : Setting) (history : List Action) (v : ℕ) (p : Position) → AllJustified setting history → IsPositionOf history p → Serves v p → Never (Serves v) p.before
served-first setting history v p all at s =
    let j : IsDelivery setting p.before p.action = justified-at setting history p Delivered all at s.outcome in
    subst (λ (n : ℕ). Never (Serves n) p.before) (same_serves j.waiter v (sym j.act ∙ s.act)) j.to_serve.unserved

-- the request of an exchange is sent for the first time at one position
pub sent-once : (setting : Setting) (history : List Action) (x : ℕ) (a b : Position) → AllJustified setting history → IsPositionOf history a → IsPositionOf history b → Sends setting.salt x a → Sends setting.salt x b → a ≡ b
sent-once setting history x a b all at_a at_b sends_a sends_b =
    first-once (Sends setting.salt x) history a b at_a at_b sends_a sends_b (sent-first setting history x a all at_a sends_a) (sent-first setting history x b all at_b sends_b)

-- an exchange is answered or given up at one position
pub ended-once : (setting : Setting) (history : List Action) (x : ℕ) (a b : Position) → AllJustified setting history → IsPositionOf history a → IsPositionOf history b → Ends x a → Ends x b → a ≡ b
ended-once setting history x a b all at_a at_b ends_a ends_b =
    first-once (Ends x) history a b at_a at_b ends_a ends_b (ended-first setting history x a all at_a ends_a) (ended-first setting history x b all at_b ends_b)

-- a waiter is served at one position
pub served-once : (setting : Setting) (history : List Action) (v : ℕ) (a b : Position) → AllJustified setting history → IsPositionOf history a → IsPositionOf history b → Serves v a → Serves v b → a ≡ b
served-once setting history v a b all at_a at_b serves_a serves_b =
    first-once (Serves v) history a b at_a at_b serves_a serves_b (served-first setting history v a all at_a serves_a) (served-first setting history v b all at_b serves_b)

-- an exchange that may be joined could be joined at each position after it was opened
joinable-before : (setting : Setting) (history : List Action) (key : CacheKey) (x : ℕ) (p : Position) → IsPositionOf history p → (j : IsJoinable setting history key x) → IsPositionOf p.before j.opened.opening → IsJoinable setting p.before key x
joinable-before setting history key x p at j before =
    let o = j.opened in
    record {
      opened = record { opening = o.opening; client = o.client; request = o.request; was_opened = before; opens = o.opens; asked = o.asked };
      method = j.method;
      verdict = j.verdict;
      unended = never-before (Ends x) history p j.unended at;
      unchanged = λ asking was asks. never-before (ChangesAfter setting key.target asking) history p (j.unchanged asking (position-before history p asking at was) asks) at;
    }

-- so no exchange was opened after it for its key
none-after : {A : Type 0} (setting : Setting) (history : List Action) (key : CacheKey) (x y : ℕ) → AllJustified setting history → (later : IsJoinable setting history key x) (former : IsJoinable setting history key y) → IsPositionOf later.opened.opening.before former.opened.opening → A
none-after setting history key x y all later former before =
    let o = later.opened in
    let p = o.opening in
    let j : IsOpening setting p.before p.action = justified-at setting history p Opened all o.was_opened o.opens.0 in
    let one = (request-unique setting p.action.observation.event o.client j.client o.request j.request o.asked j.asked).1 in
    let same : key ≡ j.key = one_key (sym later.verdict ∙ ap (verdict_on setting) one ∙ j.verdict) in
    absurd (j.unanswered.alone (subst IsGet one later.method) y (subst (λ (k : CacheKey). IsJoinable setting p.before k y) same (joinable-before setting history key y p o.was_opened former before)))

-- at most one exchange with a key may be joined
pub one-joinable : (setting : Setting) (history : List Action) (key : CacheKey) (x y : ℕ) → AllJustified setting history → IsJoinable setting history key x → IsJoinable setting history key y → x ≡ y
one-joinable setting history key x y all a b =
    ⊎_elim
    (λ (same : a.opened.opening ≡ b.opened.opening). a.opened.opens.1 ∙ ap (λ (p : Position). opened_in p.before + 1) same ∙ sym b.opened.opens.1)
    (λ order.
    ⊎_elim
    (λ (before : IsPositionOf a.opened.opening.before b.opened.opening). none-after setting history key x y all a b before)
    (λ (before : IsPositionOf b.opened.opening.before a.opened.opening). none-after setting history key y x all b a before)
    order)
    (in-order history a.opened.opening b.opened.opening a.opened.was_opened b.opened.was_opened)
