-- Places of histories.
use Rattle.std.proofs.Common.{◌≡◌, ◌⊎◌, inl, inr, refl, ⊎_elim, ℕ, ◌+◌, ◌<◌, ◌≤◌, List, [], ◌∷◌, length, sym, ap, ◌∙◌, subst, arith}
use Rattle.coap_message.specs.Message.{Message}
use Rattle.coap_message.specs.Spelling.{Spells}
use Rattle.coap_message.proofs.WholeMessages.{one_message}
use Rattle.coap_endpoint.specs.declared.endpoint.Endpoint.{Endpoint}
use Rattle.coap_model.specs.Events.{Event, arrival}
use Rattle.coap_model.specs.Setting.{Setting}
use Rattle.coap_model.specs.History.{Observation, Act, admits, moves, serves, Action, Position, index, IsPositionOf, Never, count_in, opens_one, opened_in, admits_one, admitted_in, Opens, Admits, Brings, IsRequestOf, WasOpened, WasAdmitted}
use Rattle.coap_model.specs.Justified.{JustifiedBy, AllJustified}
use Rattle.coap_model.specs.declared.report.Outcome.{Outcome}

-- the newest position
abbrev pub here : List Action → Action → Position
here past e = record { before = past; action = e }

-- an action with this act
abbrev pub doing : Act → Observation → Action
doing act observation = record { observation = observation; act = act }

-- a position has fewer observations before it than the history has
pub index_below : (history : List Action) (p : Position) → IsPositionOf history p → index p < length history
index_below [] p h = absurd h
index_below (e ∷ past) p h =
    ⊎_elim
    (λ (same : record { before = past; action = e } ≡ p). let i : length past ≡ index p = ap index same in omega arith)
    (λ (there : IsPositionOf past p). let i = index_below past p there in omega arith)
    h

-- what never holds doesn't hold at a position
pub Never-at : (P : Position → Type 0) (history : List Action) (p : Position) → Never P history → IsPositionOf history p → P p → ⊥
Never-at P [] p never h at = h
Never-at P (e ∷ past) p never h at =
    ⊎_elim
    (λ (same : record { before = past; action = e } ≡ p). never.0 (subst P (sym same) at))
    (λ (there : IsPositionOf past p). Never-at P past p never.1 there at)
    h

-- an act is of only one exchange
pub same_moves : (x y : ℕ) → moves x ≡ moves y → x ≡ y
same_moves x y e = cc

-- or of only one waiter
pub same_serves : (x y : ℕ) → serves x ≡ serves y → x ≡ y
same_serves x y e = cc

-- what holds at no position of the history never holds
pub never-from : (P : Position → Type 0) (history : List Action) → ((p : Position) → IsPositionOf history p → ¬ P p) → Never P history
never-from P [] none = tt
never-from P (e ∷ past) none = (none (here past e) (inl refl), never-from P past (λ p there. none p (inr there)))

-- what is before a position is before everything after it
pub position-before : (history : List Action) (p q : Position) → IsPositionOf history p → IsPositionOf p.before q → IsPositionOf history q
position-before [] p q at_p at_q = absurd at_p
position-before (e ∷ past) p q at_p at_q =
    ⊎_elim
    (λ (same : record { before = past; action = e } ≡ p). inr (subst (λ (r : Position). IsPositionOf r.before q) (sym same) at_q))
    (λ (there : IsPositionOf past p). inr (position-before past p q there at_q))
    at_p

-- what never holds doesn't hold before a position either
pub never-before : (P : Position → Type 0) (history : List Action) (p : Position) → Never P history → IsPositionOf history p → Never P p.before
never-before P [] p never at = absurd at
never-before P (e ∷ past) p never at =
    ⊎_elim
    (λ (same : record { before = past; action = e } ≡ p). subst (λ (r : Position). Never P r.before) same never.1)
    (λ (there : IsPositionOf past p). never-before P past p never.1 there)
    at

-- two positions are equal, or one of them is before the other
pub in-order : (history : List Action) (p q : Position) → IsPositionOf history p → IsPositionOf history q → (p ≡ q) ⊎ (IsPositionOf p.before q ⊎ IsPositionOf q.before p)
in-order [] p q at_p at_q = absurd at_p
in-order (e ∷ past) p q at_p at_q =
    ⊎_elim
    (λ (here_p : record { before = past; action = e } ≡ p).
    ⊎_elim
    (λ (here_q : record { before = past; action = e } ≡ q). inl (sym here_p ∙ here_q))
    (λ (there_q : IsPositionOf past q). inr (inl (subst (λ (r : Position). IsPositionOf r.before q) here_p there_q)))
    at_q)
    (λ (there_p : IsPositionOf past p).
    ⊎_elim
    (λ (here_q : record { before = past; action = e } ≡ q). inr (inr (subst (λ (r : Position). IsPositionOf r.before p) here_q there_p)))
    (λ (there_q : IsPositionOf past q). in-order past p q there_p there_q)
    at_q)
    at_p

-- each position is justified by what came before it
pub justified-at : (setting : Setting) (history : List Action) (p : Position) (o : Outcome) → AllJustified setting history → IsPositionOf history p → p.action.observation.report.outcome ≡ o → JustifiedBy o setting p.before p.action
justified-at setting [] p o all at is = absurd at
justified-at setting (e ∷ past) p o all at is =
    ⊎_elim
    (λ (same : record { before = past; action = e } ≡ p). subst (λ (u : Outcome). JustifiedBy u setting p.before p.action) is (subst (λ (q : Position). JustifiedBy q.action.observation.report.outcome setting q.before q.action) same all.0))
    (λ (there : IsPositionOf past p). justified-at setting past p o all.1 there is)
    at

-- if a property never holds, a stronger one never holds either
pub Never-weaken : (P Q : Position → Type 0) (history : List Action) → ((p : Position) → Q p → P p) → Never P history → Never Q history
Never-weaken P Q [] less never = tt
Never-weaken P Q (e ∷ past) less never = ((λ q. never.0 (less _ q)), Never-weaken P Q past less never.1)

-- the n-th observation that is counted
abbrev pub Nth : (Outcome → ℕ) → ℕ → Position → Type 0
Nth counts n p = (counts p.action.observation.report.outcome ≡ 1) × (n ≡ count_in counts p.before + 1)

-- numbers count from 1, and none is greater than the count
pub nth-number : (counts : Outcome → ℕ) (history : List Action) (p : Position) (n : ℕ) → IsPositionOf history p → Nth counts n p → (0 < n) × (n ≤ count_in counts history)
nth-number counts [] p n h o = absurd h
nth-number counts (e ∷ past) p n h o =
    ⊎_elim
    (λ (same : record { before = past; action = e } ≡ p).
    let at = subst (Nth counts n) (sym same) o in
    let one = at.0 in
    let is = at.1 in
    (omega arith, omega arith))
    (λ (there : IsPositionOf past p). let i = nth-number counts past p n there o in (omega (arith, i.0), omega (arith, i.1)))
    h

-- each number is given out at only one position
pub nth-unique : (counts : Outcome → ℕ) (history : List Action) (p q : Position) (n : ℕ) → IsPositionOf history p → IsPositionOf history q → Nth counts n p → Nth counts n q → p ≡ q
nth-unique counts [] p q n at_p at_q is_p is_q = absurd at_p
nth-unique counts (e ∷ past) p q n at_p at_q is_p is_q =
    ⊎_elim
    (λ (same_p : record { before = past; action = e } ≡ p).
    ⊎_elim
    (λ (same_q : record { before = past; action = e } ≡ q). sym same_p ∙ same_q)
    (λ (there : IsPositionOf past q).
    let at = subst (Nth counts n) (sym same_p) is_p in
    let is = at.1 in
    let i = nth-number counts past q n there is_q in
    absurd (omega (arith, i.1)))
    at_q)
    (λ (there_p : IsPositionOf past p).
    ⊎_elim
    (λ (same_q : record { before = past; action = e } ≡ q).
    let at = subst (Nth counts n) (sym same_q) is_q in
    let is = at.1 in
    let i = nth-number counts past p n there_p is_p in
    absurd (omega (arith, i.1)))
    (λ (there_q : IsPositionOf past q). nth-unique counts past p q n there_p there_q is_p is_q)
    at_q)
    at_p

-- the numbers of exchanges
pub Opens-number : (history : List Action) (p : Position) (x : ℕ) → IsPositionOf history p → Opens x p → (0 < x) × (x ≤ opened_in history)
Opens-number history p x h o = nth-number opens_one history p x h (ap opens_one o.0, o.1)

-- an exchange is opened at only one position
pub Opens-unique : (history : List Action) (p q : Position) (x : ℕ) → IsPositionOf history p → IsPositionOf history q → Opens x p → Opens x q → p ≡ q
Opens-unique history p q x at_p at_q o k = nth-unique opens_one history p q x at_p at_q (ap opens_one o.0, o.1) (ap opens_one k.0, k.1)

-- the numbers of waiters
pub Admits-number : (history : List Action) (p : Position) (v x : ℕ) → IsPositionOf history p → Admits v x p → (0 < v) × (v ≤ admitted_in history)
Admits-number history p v x h a = nth-number admits_one history p v h (a.outcome, a.number)

-- and a waiter is admitted at only one position
pub Admits-unique : (history : List Action) (p q : Position) (v x y : ℕ) → IsPositionOf history p → IsPositionOf history q → Admits v x p → Admits v y q → p ≡ q
Admits-unique history p q v x y at_p at_q a b = nth-unique admits_one history p q v at_p at_q (a.outcome, a.number) (b.outcome, b.number)

-- what never held before holds at only one position
pub first-once : (P : Position → Type 0) (history : List Action) (p q : Position) → IsPositionOf history p → IsPositionOf history q → P p → P q → Never P p.before → Never P q.before → p ≡ q
first-once P [] p q at_p at_q is_p is_q first_p first_q = absurd at_p
first-once P (e ∷ past) p q at_p at_q is_p is_q first_p first_q =
    ⊎_elim
    (λ (here_p : record { before = past; action = e } ≡ p).
    ⊎_elim
    (λ (here_q : record { before = past; action = e } ≡ q). sym here_p ∙ here_q)
    (λ (there_q : IsPositionOf past q). absurd (Never-at P past q (subst (λ (r : Position). Never P r.before) (sym here_p) first_p) there_q is_q))
    at_q)
    (λ (there_p : IsPositionOf past p).
    ⊎_elim
    (λ (here_q : record { before = past; action = e } ≡ q). absurd (Never-at P past p (subst (λ (r : Position). Never P r.before) (sym here_q) first_q) there_p is_p))
    (λ (there_q : IsPositionOf past q). first-once P past p q there_p there_q is_p is_q first_p first_q)
    at_q)
    at_p

-- an event brings only one datagram from one source
pub arrival-same : (a b : Endpoint) (xs ys : List ℕ) → arrival a xs ≡ arrival b ys → (a ≡ b) × (xs ≡ ys)
arrival-same a b xs ys e = (cc, cc)

-- an event brings only one message from one source
pub one-brought : {event : Event} {most : ℕ} {a b : Endpoint} {m n : Message} → Brings most a m event → Brings most b n event → (a ≡ b) × (m ≡ n)
one-brought {a = a} {b = b} {m = m} {n = n} p q =
    let same = arrival-same a b p.bytes q.bytes (sym p.came ∙ q.came) in
    (same.0, one_message q.bytes m n (subst (λ (bytes : List ℕ). Spells bytes m) same.1 p.spells) q.spells)

-- an event brings only one request from one client
pub request-unique : (setting : Setting) (event : Event) (a b : Endpoint) (r s : Message) → IsRequestOf setting a r event → IsRequestOf setting b s event → (a ≡ b) × (r ≡ s)
request-unique setting event a b r s p q = one-brought p.brings q.brings

-- ---- what opened an exchange

-- its number is one of those that were used
pub opened-number : {setting : Setting} {history : List Action} {x : ℕ} → WasOpened setting history x → (0 < x) × (x ≤ opened_in history)
opened-number {history = history} {x = x} o = Opens-number history o.opening x o.was_opened o.opens

-- it stays as the history grows
abbrev pub opened-later : {setting : Setting} {history : List Action} {x : ℕ} (e : Action) → WasOpened setting history x → WasOpened setting (e ∷ history) x
opened-later e o = record { opening = o.opening; client = o.client; request = o.request; was_opened = inr o.was_opened; opens = o.opens; asked = o.asked }

-- an exchange is opened at only one position, by one request from one client
pub one-opened : {setting : Setting} {history : List Action} {x y : ℕ} → x ≡ y → (a : WasOpened setting history x) (b : WasOpened setting history y) → (a.opening ≡ b.opening) × (a.client ≡ b.client) × (a.request ≡ b.request)
one-opened {setting = setting} {history = history} {y = y} number a b =
    let position = Opens-unique history a.opening b.opening y a.was_opened b.was_opened (subst (λ (n : ℕ). Opens n a.opening) number a.opens) b.opens in
    let asked = subst (λ (p : Position). IsRequestOf setting a.client a.request p.action.observation.event) position a.asked in
    let one = request-unique setting b.opening.action.observation.event a.client b.client a.request b.request asked b.asked in
    (position, one.0, one.1)

-- ---- what admitted a waiter

-- a waiter that was admitted has one of the numbers that were used
pub admitted-number : {setting : Setting} {history : List Action} {v : ℕ} → WasAdmitted setting history v → (0 < v) × (v ≤ admitted_in history)
admitted-number {history = history} {v = v} a = Admits-number history a.admission v a.exchange a.was_admitted a.admits

-- and was admitted in a longer history
abbrev pub admitted-later : {setting : Setting} {history : List Action} {v : ℕ} (e : Action) → WasAdmitted setting history v → WasAdmitted setting (e ∷ history) v
admitted-later e a = record { exchange = a.exchange; admission = a.admission; client = a.client; request = a.request; was_admitted = inr a.was_admitted; admits = a.admits; asked = a.asked }

-- an act is of only one waiter and one exchange
pub same_admits : (v u x y : ℕ) → admits v x ≡ admits u y → (v ≡ u) × (x ≡ y)
same_admits v u x y e = (cc, cc)

-- a waiter is admitted at only one position, to one exchange, by one request from one endpoint
pub one-admitted : {setting : Setting} {history : List Action} {v u : ℕ} → v ≡ u → (a : WasAdmitted setting history v) (b : WasAdmitted setting history u) → (a.admission ≡ b.admission) × (a.client ≡ b.client) × (a.request ≡ b.request) × (a.exchange ≡ b.exchange)
one-admitted {setting = setting} {history = history} {v = v} {u = u} number a b =
    let position = Admits-unique history a.admission b.admission u a.exchange b.exchange a.was_admitted b.was_admitted (subst (λ (n : ℕ). Admits n a.exchange a.admission) number a.admits) b.admits in
    let asked = subst (λ (p : Position). IsRequestOf setting a.client a.request p.action.observation.event) position a.asked in
    let one = request-unique setting b.admission.action.observation.event a.client b.client a.request b.request asked b.asked in
    let act = sym a.admits.act ∙ ap (λ (p : Position). p.action.act) position ∙ b.admits.act in
    (position, one.0, one.1, (same_admits v u a.exchange b.exchange act).1)
