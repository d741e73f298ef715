-- The counts of a run as numbers of its turns.
use Rattle.std.proofs.Common.{◌≡◌, ◌+◌, ◌≤◌, ℕ, Bool, true, false, cond, List, [], ◌∷◌, length, refl, sym, ap, ◌∙◌, arith}
use Rattle.std.specs.Prelude.{count_by, is_some}
use Rattle.std.proofs.lemmas.List.Sums.{sum_by-cons}
use Rattle.coap_model.specs.State.{State}
use Rattle.coap_port.specs.Driven.{Given, sent_at, stats_of, state_by}
use Rattle.coap_port.specs.Stats.{more, with_turn}
use Rattle.coap_port.specs.declared.stats.Stats.{Stats}
use Rattle.test_ports.specs.Computed.{was_lost}

-- each turn is counted
pub turns-are : (w : State) (givens : List Given) → (stats_of w givens).turns ≡ length givens
turns-are w [] = refl
turns-are w (g ∷ before) = let rest = turns-are w before in omega (arith, rest)

-- one more, or none
one-more : (b : Bool) (n : ℕ) → more b n ≡ cond b 1 0 + n
one-more true n = omega arith
one-more false n = omega arith

-- each lost turn is counted as lost
pub lost-are : (w : State) (givens : List Given) → (stats_of w givens).lost ≡ count_by was_lost givens
lost-are w [] = refl
lost-are w (g ∷ before) =
    ap (more g.lost) (lost-are w before)
    ∙ one-more g.lost (count_by was_lost before)
    ∙ sym (sum_by-cons (λ (h : Given). cond (was_lost h) 1 0) g before)

-- a lost turn sends nothing
lost-sends-nothing : (w : State) (g : Given) → g.lost ≡ true → is_some (sent_at w g) ≡ false
lost-sends-nothing w g lost = rw lost refl

-- no turn is counted twice, if those before weren't
counted-once : (lost sent went : Bool) (s : Stats) → (lost ≡ true → sent ≡ false) → s.lost + s.sent + s.send_faults ≤ s.turns
    → (with_turn lost sent went s).lost + (with_turn lost sent went s).sent + (with_turn lost sent went s).send_faults ≤ (with_turn lost sent went s).turns
counted-once true true went s none few = absurd (let e : true ≡ false = none refl in cc)
counted-once true false went s none few = omega (arith, few)
counted-once false true true s none few = omega (arith, few)
counted-once false true false s none few = omega (arith, few)
counted-once false false went s none few = omega (arith, few)

-- so none is
pub once-each : (w : State) (givens : List Given) → (stats_of w givens).lost + (stats_of w givens).sent + (stats_of w givens).send_faults ≤ (stats_of w givens).turns
once-each w [] = omega arith
once-each w (g ∷ before) = counted-once g.lost (is_some (sent_at (state_by w before) g)) g.went (stats_of w before) (lost-sends-nothing (state_by w before) g) (once-each w before)
