-- Moments of a history: they never decrease.
use Rattle.std.proofs.Common.{◌≡◌, ⊎_elim, ◌≤◌, List, [], ◌∷◌, sym, ap, subst, arith}
use Rattle.coap_model.specs.History.{Action, Position, IsPositionOf, last_of, IsInOrder}

-- no action is later than the newest one
pub not-later : (history : List Action) (p : Position) → IsInOrder history → IsPositionOf history p → p.action.observation.now ≤ last_of history
not-later [] p o at = absurd at
not-later (d ∷ past) p o at =
    ⊎_elim
    (λ (same : record { before = past; action = d } ≡ p). let now = ap (λ (q : Position). q.action.observation.now) same in omega (arith, now))
    (λ (there : IsPositionOf past p). let earlier = not-later past p o.1 there in let first = o.0 in omega (arith, earlier, first))
    at

-- so a position isn't earlier than those before it
pub in-order-at : (history : List Action) (p q : Position) → IsInOrder history → IsPositionOf history p → IsPositionOf p.before q → q.action.observation.now ≤ p.action.observation.now
in-order-at [] p q o at before = absurd at
in-order-at (d ∷ past) p q o at before =
    ⊎_elim
    (λ (same : record { before = past; action = d } ≡ p).
    let now = ap (λ (r : Position). r.action.observation.now) same in
    let earlier = not-later past q o.1 (subst (λ (r : Position). IsPositionOf r.before q) (sym same) before) in
    let first = o.0 in
    omega (arith, now, earlier, first))
    (λ (there : IsPositionOf past p). in-order-at past p q o.1 there before)
    at
