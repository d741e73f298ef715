-- A proxy that is driven turn by turn.
use Rattle.std.proofs.Common.{◌≡◌, ℕ, Bool, true, false, cond, List, [], ◌∷◌, refl, ap, ◌∙◌, subst}
use Rattle.coap_model.specs.Carries.{Carries}
use Rattle.coap_model.proofs.Word.{keeps-word}
use Rattle.coap_model.specs.History.{Observation}
use Rattle.coap_model.specs.Runs.{Run, Turn, one_turn, step_taken}
use Rattle.coap_model.specs.Ticks.{next_due}
use Rattle.coap_model.specs.State.{State}
use Rattle.coap_endpoint.specs.declared.endpoint.Endpoint.{Endpoint}
use Rattle.std.specs.Prelude.{is_some}
use Rattle.coap_core.specs.Told.{Told}
use Rattle.coap_core.specs.Watched.{WasTold}
use Rattle.coap_port.specs.Driven.{taken_of, takes_some, told_by, tolds_of, DidTurn, DidWatched, DoesTurn, Given, IsDriven, IsWatched, came_last, last_moment, run_at, run_by, run_given, sent_at, stats_of, wait_for, state_by}
use Rattle.coap_port.specs.Stats.{no_stats, with_turn}
use Rattle.coap_port.specs.declared.stats.Stats.{Stats}

-- the tables after a turn don't depend on the history before it
given-apart : (r q : Run) (g : Given) → r.state ≡ q.state → (run_given r g).state ≡ (run_given q g).state
given-apart r q g e = go g.lost
  where
    go : (lost : Bool) → (cond lost r (one_turn r (taken_of g))).state ≡ (cond lost q (one_turn q (taken_of g))).state
    go true = e
    go false = ap (λ (w : State). (step_taken w (taken_of g)).state) e

-- nor do those after several turns
run-apart : (r q : Run) (givens : List Given) → r.state ≡ q.state → (run_by r givens).state ≡ (run_by q givens).state
run-apart r q [] e = e
run-apart r q (g ∷ before) e = given-apart (run_by r before) (run_by q before) g (run-apart r q before e)

module _ {P : Type 0} (gives : P → ℕ → Turn → P → Type 0) (takes : P → Endpoint → List ℕ → Bool → P → Type 0) (clock failures : P → ℕ) where
  -- the state of a loop: what was done, whether a datagram came last, and the last moment
  pub record IsAt (first : ℕ) (w : State) (p : P) (v : State) (q : P) (s : Stats) (came : Bool) : Type 0 where
    pub driven : IsDriven gives takes first w p v q s
    pub told : came ≡ came_last driven.givens
    pub moment : clock q ≡ last_moment first driven.givens

  -- at first nothing was done
  pub at-start : (w : State) (p : P) → IsAt (clock p) w p w p no_stats false
  at-start w p = record {
    driven = record {
      givens = [];
      leads = refl;
      asked = tt;
      lost = tt;
      state = refl;
      carries = λ history c. c;
      word = λ history c. keeps-word history w c;
      counted = refl;
    };
    told = refl;
    moment = refl;
  }

  module _ (first : ℕ) (w : State) (p : P) (v : State) (q : P) (s : Stats) (came : Bool) (at : IsAt first w p v q s came)
      (v' : State) (q' : P) (s' : Stats) (arrived : Bool) (did : DidTurn gives takes clock failures came v q s v' q' s' arrived) where
    abbrev givens : List Given
    givens = at.driven.givens

    abbrev g : Given
    g = did.given

    -- the tables before the turn
    before : v ≡ state_by w givens
    before = at.driven.state

    leads : DoesTurn gives takes (state_by w givens) q g q'
    leads = subst (λ (u : State). DoesTurn gives takes u q g q') before did.does

    asked : g.wait ≡ wait_for (came_last givens) (last_moment first givens) (next_due (state_by w givens))
    asked =
        did.asked
        ∙ ap (λ (b : Bool). wait_for b (clock q) (next_due v)) at.told
        ∙ ap (λ (n : ℕ). wait_for (came_last givens) n (next_due v)) at.moment
        ∙ ap (λ (u : State). wait_for (came_last givens) (last_moment first givens) (next_due u)) before

    lost : g.lost ≡ true → takes_some (state_by w givens) g.turn ≡ true
    lost = subst (λ (u : State). g.lost ≡ true → takes_some u g.turn ≡ true) before did.lost

    state : v' ≡ state_by w (g ∷ givens)
    state = did.state ∙ given-apart (run_at v []) (run_by (run_at w []) givens) g before

    carries : (history : List Observation) → Carries history w → Carries (run_by (run_at w history) (g ∷ givens)).history v'
    carries history c =
        let run : Run = run_by (run_at w history) givens in
        let tables : v ≡ run.state = before ∙ run-apart (run_at w []) (run_at w history) givens refl in
        let same : run_at v run.history ≡ run = ap (λ (u : State). run_at u run.history) tables in
        subst (λ (r : Run). Carries (run_given r g).history v') same (did.carries run.history (at.driven.carries history c))

    counted : s' ≡ stats_of w (g ∷ givens)
    counted =
        did.counted
        ∙ ap (λ (u : State). with_turn g.lost (is_some (sent_at u g)) g.went s) before
        ∙ ap (with_turn g.lost (is_some (sent_at (state_by w givens) g)) g.went) at.driven.counted

    -- one more turn was done
    pub one-more : IsAt first w p v' q' s' arrived
    one-more = record {
      driven = record {
        givens = g ∷ givens;
        leads = (q, at.driven.leads, leads);
        asked = (asked, at.driven.asked);
        lost = (lost, at.driven.lost);
        state = state;
        carries = carries;
        word = λ history c. keeps-word (run_by (run_at w history) (g ∷ givens)).history v' (carries history c);
        counted = counted;
      };
      told = did.told;
      moment = did.moment;
    }

module _ {P W : Type 0} (gives : P → ℕ → Turn → P → Type 0) (takes : P → Endpoint → List ℕ → Bool → P → Type 0) (sees : W → Told → W → Type 0) (clock failures : P → ℕ) where
  -- the same, with a watcher that was told what was done
  pub record IsAtWatched (first : ℕ) (w : State) (p : P) (a : W) (v : State) (q : P) (b : W) (s : Stats) (came : Bool) : Type 0 where
    pub at : IsAt gives takes clock failures first w p v q s came
    pub told : WasTold sees a (tolds_of w at.driven.givens) b

  pub watched-start : (w : State) (p : P) (a : W) → IsAtWatched (clock p) w p a w p a no_stats false
  unfolding at-start
  watched-start w p a = record { at = at-start gives takes clock failures w p; told = refl }

  pub watched-more : (first : ℕ) (w : State) (p : P) (a : W) (v : State) (q : P) (b : W) (s : Stats) (came : Bool) → IsAtWatched first w p a v q b s came
      → (v' : State) (q' : P) (b' : W) (s' : Stats) (arrived : Bool) → DidWatched gives takes sees clock failures came v q b s v' q' b' s' arrived
      → IsAtWatched first w p a v' q' b' s' arrived
  unfolding one-more
  watched-more first w p a v q b s came at v' q' b' s' arrived did = record {
    at = one-more gives takes clock failures first w p v q s came at.at v' q' s' arrived did.did;
    told = (b, at.told, subst (λ (u : State). sees b (told_by u did.did.given) b') at.at.driven.state did.told);
  }

  -- what was done so far, and told
  pub watched-now : (first : ℕ) (w : State) (p : P) (a : W) (v : State) (q : P) (b : W) (s : Stats) (came : Bool) → IsAtWatched first w p a v q b s came → IsWatched gives takes sees first w p a v q b s
  watched-now first w p a v q b s came at = record { driven = at.at.driven; told = at.told }
