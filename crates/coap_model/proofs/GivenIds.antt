-- Message ids: windows, the ids that are given out in them, and that none is reused too soon.
use Rattle.std.proofs.Common.{◌≡◌, ◌⊎◌, inl, inr, ⊎_elim, ℕ, ◌+◌, ◌<◌, ◌≤◌, List, [], ◌∷◌, Bool, true, false, cond, eqb, refl, sym, ap, ◌∙◌, subst, arith}
use Rattle.std.specs.Prelude.{◌/◌, ◌%◌}
use Rattle.std.proofs.lemmas.Bool.{eqb-true, eqb-false, ne_eqb, cases_lt}
use Rattle.coap_message.specs.Message.{Message}
use Rattle.coap_message.proofs.WholeMessages.{one_message}
use Rattle.coap_pending.specs.declared.ids.Ids.{Ids as Given}
use Rattle.coap_pending.specs.Ids.{window, given_in, left_of, called}
use Rattle.coap_model.specs.State.{State}
use Rattle.coap_model.specs.Standing.{window_ids}
use Rattle.coap_model.specs.History.{Observation, Action, Position, IsPositionOf, gives_id, ids_in, last_of, IsInOrder, Gives, AreIds}
use Rattle.coap_model.specs.Carries.{Clock, Ids}
use Rattle.coap_model.specs.MessageIds.{GivesId, IdsDiffer}
use Rattle.coap_model.proofs.Positions.{position-before, in-order}
use Rattle.coap_model.proofs.Moments.{not-later, in-order-at}

-- ---- windows

-- no id was given out in a window that hasn't begun
none-yet : (history : List Action) (v : ℕ) → IsInOrder history → last_of history / 247000 < v → window_ids v history ≡ 0
none-yet [] v o later = refl
none-yet (d ∷ past) v o later =
    let earlier : last_of past / 247000 < v = let first = o.0 in omega (arith, later, first) in
    let i = none-yet past v o.1 earlier in
    let other : eqb (d.observation.now / 247000) v ≡ false = ne_eqb _ _ (λ same. omega (arith, same, later)) in
    rw other (omega arith)

-- the number of ids given out in the window of a moment, as the table counts them
abbrev pub AreGiven : Given → List Action → Type 0
AreGiven ids history = (now : ℕ) → last_of history ≤ now → given_in now ids ≡ window_ids (now / 247000) history

-- no further ids are given out in the window of a later moment
pub given-later : (ids : Given) (history : List Action) → AreGiven ids history → IsInOrder history → (now n : ℕ) → last_of history ≤ now → now ≤ n → given_in n ids ≤ given_in now ids
given-later ids history given o now n first later = go (eqb (now / 247000) (n / 247000)) refl
  where
    go : (b : Bool) → eqb (now / 247000) (n / 247000) ≡ b → given_in n ids ≤ given_in now ids
    go true t =
        let here = given now first in
        let there = given n (omega arith) in
        let same : window_ids (now / 247000) history ≡ window_ids (n / 247000) history = ap (λ (v : ℕ). window_ids v history) (eqb-true _ _ t) in
        omega arith
    go false t =
        let other = eqb-false _ _ t in
        let there = given n (omega arith) in
        let none = none-yet history (n / 247000) o (⊎_elim (λ (lt : now / 247000 < n / 247000). omega (arith, lt)) (λ (ge : n / 247000 ≤ now / 247000). absurd (other (omega (arith, ge)))) (cases_lt (now / 247000) (n / 247000))) in
        omega arith

-- if an id is left, one is given out
pub called-one : (now : ℕ) (ids : Given) → given_in now ids < 32768 → called now ids ≡ record { following = (ids.following + 1) % 65536; window = window now; given = given_in now ids + 1 }
called-one now ids less =
    let some : eqb (left_of now ids) 0 ≡ false = ne_eqb _ _ (λ e. omega arith) in
    rw some refl

-- how many ids are then given out in the window of a later moment
given-called : (now n : ℕ) (ids : Given) → given_in now ids < 32768 → given_in n (called now ids) ≡ cond (eqb (window now) (window n)) (given_in now ids + 1) 0
given-called now n ids less = ap (given_in n) (called-one now ids less)

-- reserved ids can still be given out after one was given out
pub room-called : (ids : Given) (now kept : ℕ) → given_in now ids + 1 + kept ≤ 32768 → (n : ℕ) → given_in n (called now ids) + kept ≤ 32768
room-called ids now kept room n = go (eqb (window now) (window n)) (given-called now n ids (omega arith))
  where
    go : (b : Bool) → given_in n (called now ids) ≡ cond b (given_in now ids + 1) 0 → given_in n (called now ids) + kept ≤ 32768
    go true e = omega arith
    go false e = omega arith

-- ---- one more observation

module _ (history : List Action) (w v : State) (e : Action) (clock : Clock history w) (i : Ids history w) (onward : w.last ≤ e.observation.now) (same : v.setting.first_id ≡ w.setting.first_id) where
  since : last_of history ≤ e.observation.now
  since = let h = clock.last in omega arith

  -- an observation that gives out no id leaves the ids as they are
  pub ids-kept : gives_id e.observation ≡ 0 → v.ids ≡ w.ids → Ids (e ∷ history) v
  ids-kept none ids_are =
      record {
        following = let f = i.following in ap (λ (g : Given). g.following) ids_are ∙ f ∙ due (omega (arith, none));
        given = λ now later. let g = i.given now (omega arith) in ap (given_in now) ids_are ∙ nothing (eqb (e.observation.now / 247000) (now / 247000)) (window_ids (now / 247000) history) g;
        windows = λ u. let h = i.windows u in few (eqb (e.observation.now / 247000) u) (window_ids u history) h;
        are_ids = ((λ one. absurd (omega arith)), subst (λ (n : ℕ). AreIds n history) (sym same) i.are_ids);
      }
    where
      due : {n : ℕ} → ids_in history ≡ n → (w.setting.first_id + ids_in history) % 65536 ≡ (v.setting.first_id + n) % 65536
      due more = λ k. (sym same k + more k) % 65536

      nothing : (b : Bool) (n : ℕ) {m : ℕ} → m ≡ n → m ≡ n + cond b (gives_id e.observation) 0
      nothing true n eq = omega arith
      nothing false n eq = omega arith

      few : (b : Bool) (n : ℕ) → n ≤ 32768 → n + cond b (gives_id e.observation) 0 ≤ 32768
      few true n le = omega arith
      few false n le = omega arith

  -- an observation that gives out an id gives out the next one
  pub ids-given : gives_id e.observation ≡ 1 → v.ids ≡ called e.observation.now w.ids → given_in e.observation.now w.ids < 32768 → Gives ((w.setting.first_id + ids_in history) % 65536) e.observation → Ids (e ∷ history) v
  ids-given one ids_are less gives =
      let now = e.observation.now in
      let here = i.given now since in
      let call = ids_are ∙ called-one now w.ids less in
      record {
        following = let f = i.following in ap (λ (ids : Given). ids.following) call ∙ (let k : (w.ids.following + 1) % 65536 ≡ (w.setting.first_id + (ids_in history + gives_id e.observation)) % 65536 = omega (arith, one, f) in k) ∙ ap (λ (n : ℕ). (n + (ids_in history + gives_id e.observation)) % 65536) (sym same);
        given = λ n later. ap (given_in n) ids_are ∙ counted n later (eqb (now / 247000) (n / 247000)) refl;
        windows = λ u. full u (eqb (now / 247000) u) refl;
        are_ids = ((λ g. subst (λ (n : ℕ). Gives ((n + ids_in history) % 65536) e.observation) (sym same) gives), subst (λ (n : ℕ). AreIds n history) (sym same) i.are_ids);
      }
    where
      counted : (n : ℕ) → e.observation.now ≤ n → (b : Bool) → eqb (e.observation.now / 247000) (n / 247000) ≡ b → given_in n (called e.observation.now w.ids) ≡ window_ids (n / 247000) history + cond b (gives_id e.observation) 0
      counted n later true t =
          let here = i.given e.observation.now since in
          let windows : window_ids (e.observation.now / 247000) history ≡ window_ids (n / 247000) history = ap (λ (u : ℕ). window_ids u history) (eqb-true _ _ t) in
          given-called e.observation.now n w.ids less ∙ rw t (omega arith)
      counted n later false t =
          let other = eqb-false _ _ t in
          let none = none-yet history (n / 247000) clock.in_order (⊎_elim (λ (lt : e.observation.now / 247000 < n / 247000). let s = since in omega (arith, lt)) (λ (ge : n / 247000 ≤ e.observation.now / 247000). absurd (other (omega (arith, ge, later)))) (cases_lt (e.observation.now / 247000) (n / 247000))) in
          given-called e.observation.now n w.ids less ∙ rw t (omega arith)

      full : (u : ℕ) (b : Bool) → eqb (e.observation.now / 247000) u ≡ b → window_ids u history + cond b (gives_id e.observation) 0 ≤ 32768
      full u true t =
          let here = i.given e.observation.now since in
          let windows : window_ids (e.observation.now / 247000) history ≡ window_ids u history = ap (λ (x : ℕ). window_ids x history) (eqb-true _ _ t) in
          omega arith
      full u false t = let h = i.windows u in omega arith

-- ---- two ids that were given out

-- the observation at a position gave out an id
abbrev GivesAt : Position → Type 0
GivesAt p = gives_id p.action.observation ≡ 1

-- the id at a position is the one that was next there
pub id-at : (first : ℕ) (history : List Action) (p : Position) → AreIds first history → IsPositionOf history p → GivesAt p → Gives ((first + ids_in p.before) % 65536) p.action.observation
id-at first [] p ids h g = absurd h
id-at first (e ∷ past) p ids h g =
    ⊎_elim
    (λ (same : record { before = past; action = e } ≡ p). subst (λ (q : Position). GivesAt q → Gives ((first + ids_in q.before) % 65536) q.action.observation) same ids.0 g)
    (λ (there : IsPositionOf past p). id-at first past p ids.1 there g)
    h

-- from a position on, ids were given out in its window and in the next one, as long as that lasts
since-position : (history : List Action) (p : Position) → IsPositionOf history p → IsInOrder history → last_of history / 247000 ≤ p.action.observation.now / 247000 + 1
    → ids_in history ≤ ids_in p.before + (window_ids (p.action.observation.now / 247000) history + window_ids (p.action.observation.now / 247000 + 1) history)
since-position [] p at o near = absurd at
since-position (d ∷ past) p at o near =
    ⊎_elim
    (λ (same : record { before = past; action = d } ≡ p).
    let before : ids_in past ≡ ids_in p.before = ap (λ (q : Position). ids_in q.before) same in
    let now : d.observation.now ≡ p.action.observation.now = ap (λ (q : Position). q.action.observation.now) same in
    counted (ids_in p.before) (omega arith) (inl (ap (λ (n : ℕ). n / 247000) now)))
    (λ (there : IsPositionOf past p).
    let first = o.0 in
    let earlier = not-later past p o.1 there in
    let i = since-position past p there o.1 (omega (arith, first, near)) in
    counted (ids_in p.before) i (⊎_elim (λ (lt : d.observation.now / 247000 < p.action.observation.now / 247000 + 1). inl (omega (arith, lt, first, earlier))) (λ (ge : p.action.observation.now / 247000 + 1 ≤ d.observation.now / 247000). inr (omega (arith, ge, near))) (cases_lt (d.observation.now / 247000) (p.action.observation.now / 247000 + 1))))
    at
  where
    one : (u : ℕ) (b : Bool) → d.observation.now / 247000 ≡ u → eqb (d.observation.now / 247000) u ≡ b → gives_id d.observation ≤ cond b (gives_id d.observation) 0
    one u true e t = omega arith
    one u false e t = absurd (eqb-false _ _ t e)

    counted : (n : ℕ) → ids_in past ≤ n + (window_ids (p.action.observation.now / 247000) past + window_ids (p.action.observation.now / 247000 + 1) past)
        → (d.observation.now / 247000 ≡ p.action.observation.now / 247000) ⊎ (d.observation.now / 247000 ≡ p.action.observation.now / 247000 + 1)
        → ids_in past + gives_id d.observation ≤ n + (window_ids (p.action.observation.now / 247000) (d ∷ past) + window_ids (p.action.observation.now / 247000 + 1) (d ∷ past))
    counted n i h =
        ⊎_elim
        (λ (e : d.observation.now / 247000 ≡ p.action.observation.now / 247000). let k = one _ (eqb (d.observation.now / 247000) (p.action.observation.now / 247000)) e refl in omega arith)
        (λ (e : d.observation.now / 247000 ≡ p.action.observation.now / 247000 + 1). let k = one _ (eqb (d.observation.now / 247000) (p.action.observation.now / 247000 + 1)) e refl in omega arith)
        h

-- fewer ids were given out before a position that gave one out
ids-below : (history : List Action) (p : Position) → IsPositionOf history p → GivesAt p → ids_in p.before < ids_in history
ids-below [] p h g = absurd h
ids-below (e ∷ past) p h g =
    ⊎_elim
    (λ (same : record { before = past; action = e } ≡ p).
    let one : gives_id e.observation ≡ 1 = subst GivesAt (sym same) g in
    let before : ids_in past ≡ ids_in p.before = ap (λ (q : Position). ids_in q.before) same in
    omega arith)
    (λ (there : IsPositionOf past p). omega (arith, ids-below past p there g))
    h

-- up to a position, no more ids were given out in a window than in the whole history
window-within : (v : ℕ) (history : List Action) (q : Position) → IsPositionOf history q → window_ids v (q.action ∷ q.before) ≤ window_ids v history
window-within v [] q at = absurd at
window-within v (d ∷ past) q at =
    ⊎_elim
    (λ (same : record { before = past; action = d } ≡ q). let e = ap (λ (r : Position). window_ids v (r.action ∷ r.before)) same in omega arith)
    (λ (there : IsPositionOf past q). let i = window-within v past q there in omega arith)
    at

-- and moments never decreased up to it
order-within : (history : List Action) (q : Position) → IsInOrder history → IsPositionOf history q → IsInOrder (q.action ∷ q.before)
order-within [] q o at = absurd at
order-within (d ∷ past) q o at =
    ⊎_elim
    (λ (same : record { before = past; action = d } ≡ q). subst (λ (r : Position). IsInOrder (r.action ∷ r.before)) same o)
    (λ (there : IsPositionOf past q). order-within past q o.1 there)
    at

-- an observation gives out only one id
one-id : (e : Observation) (a b : ℕ) → Gives a e → Gives b e → a ≡ b
one-id e a b g h = sym g.id_is ∙ ap (λ (m : Message). m.id) (one_message e.bytes g.message h.message g.spells h.spells) ∙ h.id_is

module _ (first : ℕ) (history : List Action) (ids : AreIds first history) (windows : (v : ℕ) → window_ids v history ≤ 32768) (o : IsInOrder history) where
  -- the id of a position isn't reused less than 247 seconds after it
  not-again : (p q : Position) (id : ℕ) → IsPositionOf history q → IsPositionOf q.before p → GivesId id p → GivesId id q → q.action.observation.now < p.action.observation.now + 247000 → ⊥
  not-again p q id at_q before g h soon =
      let at_p = position-before history q p at_q before in
      let id_p = one-id p.action.observation id ((first + ids_in p.before) % 65536) g (id-at first history p ids at_p g.gives) in
      let id_q = one-id q.action.observation id ((first + ids_in q.before) % 65536) h (id-at first history q ids at_q h.gives) in
      let sums : (first + ids_in p.before) % 65536 ≡ (first + ids_in q.before) % 65536 = sym id_p ∙ id_q in
      let below = ids-below q.before p before g.gives in
      let v = p.action.observation.now / 247000 in
      let many = since-position (q.action ∷ q.before) p (inr before) (order-within history q o at_q) (omega (arith, soon)) in
      let one = h.gives in
      let few = windows v in
      let more = windows (v + 1) in
      let few_there = window-within v history q at_q in
      let more_there = window-within (v + 1) history q at_q in
      differ (first + ids_in p.before) (first + ids_in q.before) sums (omega (arith, below)) (omega (arith, many, one, few, more, few_there, more_there))
    where
      differ : (a b : ℕ) → a % 65536 ≡ b % 65536 → a < b → b < a + 65536 → ⊥
      differ a b same less near = omega arith

  -- so two positions with the same id, less than 247 seconds apart, are the same position
  pub ids-differ : IdsDiffer history
  ids-differ p q id at_p at_q g h ordered soon =
      ⊎_elim
      (λ (same : p ≡ q). same)
      (λ (other : IsPositionOf p.before q ⊎ IsPositionOf q.before p).
      absurd (⊎_elim
      (λ (earlier : IsPositionOf p.before q). let no_later = in-order-at history p q o at_p earlier in not-again q p id at_p earlier h g (omega (arith, no_later, ordered)))
      (λ (later : IsPositionOf q.before p). not-again p q id at_q later g h soon)
      other))
      (in-order history p q at_p at_q)
