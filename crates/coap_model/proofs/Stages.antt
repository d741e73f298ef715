-- How far an exchange has come, and what was done for it: the request of one that waits for its
-- turn was never sent, and one that isn't done was neither answered nor given up.
use Rattle.std.proofs.Common.{◌≡◌, ◌≢◌, ◌⊎◌, inl, inr, ⊎_elim, ℕ, ◌≤◌, Bool, true, false, List, [], ◌∷◌, Option, Some, None, refl, sym, ap, ◌∙◌, subst, arith}
use Rattle.std.specs.Prelude.{◌==◌, find, option_map, if◌then◌else◌}
use Rattle.std.specs.List.{AllByRecursion, list_any}
use Rattle.std.proofs.lemmas.Bool.{eqb-true, eqb-false}
use Rattle.coap_endpoint.proofs.Lists.{All-append, All-weaken}
use Rattle.coap_endpoint.specs.declared.endpoint.Endpoint.{Endpoint}
use Rattle.coap_forward.specs.Messages.{token_of}
use Rattle.coap_model.specs.declared.report.Outcome.{Outcome}
use Rattle.coap_model.specs.declared.report.Outcome.TheVariants.{Opened, Answered, Acked, SentRequest, GaveUp, Delivered}
use Rattle.coap_model.specs.Setting.{Setting}
use Rattle.coap_model.specs.Events.{Event, arrival, tick}
use Rattle.coap_model.specs.History.{Act, admits, moves, Action, Position, IsPositionOf, Never, opened_in, ends, Sends, Ends}
use Rattle.coap_model.specs.Standing.{WaiterStanding, Stage, queued, sent, acked, done, Open, staged, waits_for, awaited, open_since, open_by, open_in, standing_in, stage_of}
use Rattle.coap_model.specs.Justified.{IsOpening, IsSettled, Settles, a_request, an_answer, IsForwarding, IsGivingUp, overdue, unheard, unacknowledged, JustifiedBy, AllJustified}
use Rattle.coap_model.proofs.Lists.{find-holds, All-filter}
use Rattle.coap_model.proofs.Positions.{here, same_moves, same_admits, never-from, justified-at, opened-number}
use Rattle.coap_model.proofs.OwedActions.{taken-so}

-- ---- what holds of the open exchanges

-- what holds of all exchanges holds of those that are awaited
All-awaited : (P : Open → Type 0) (standing : List WaiterStanding) (xs : List Open) → AllByRecursion P xs → AllByRecursion P (awaited standing xs)
All-awaited P standing xs all =
    All-weaken (λ o. P o × (list_any (λ s. waits_for o.number s.service) standing ≡ true)) P (awaited standing xs) (λ o h. h.0) (All-filter P (λ o. list_any (λ s. waits_for o.number s.service) standing) xs all)

-- what holds of the exchange with this number as it enters a stage, and of the others, holds of all
All-staged : (P Q : Open → Type 0) (x : ℕ) (stage : Stage) (xs : List Open) → ((o : Open) → P o → o.number ≡ x → Q (record o { stage = stage })) → ((o : Open) → P o → o.number ≢ x → Q o) → AllByRecursion P xs → AllByRecursion Q (staged x stage xs)
All-staged P Q x stage [] this others all = tt
All-staged P Q x stage (o ∷ xs) this others all = (go (o.number == x) refl, All-staged P Q x stage xs this others all.1)
  where
    go : (b : Bool) → (o.number == x) ≡ b → Q (if b then record o { stage = stage } else o)
    go true e = this o all.0 (eqb-true o.number x e)
    go false e = others o all.0 (eqb-false o.number x e)

-- What held of all open exchanges holds, as they change, of all after an action: of a new one, of
-- the one that is sent, of the one that is acknowledged, of the one that ends, and of each one that
-- the action leaves as it is.
pub All-open : (P Q : Open → Type 0) (o : Outcome) (act : Act) (event : Event) (send : Option Endpoint) (standing : List WaiterStanding) (xs : List Open)
    → ((client : Endpoint) (came : List ℕ) (v x : ℕ) → event ≡ arrival client came → o ≡ Opened → act ≡ admits v x → Q (record { number = x; client = client; stage = queued }))
    → ((x : ℕ) (to : Endpoint) → o ≡ SentRequest → act ≡ moves x → send ≡ Some to → (q : Open) → P q → q.number ≡ x → Q (record q { stage = sent to }))
    → ((x : ℕ) → o ≡ Acked → act ≡ moves x → (q : Open) → P q → q.number ≡ x → Q (record q { stage = acked }))
    → ((x : ℕ) → ends o ≡ true → act ≡ moves x → (q : Open) → P q → q.number ≡ x → Q (record q { stage = done }))
    → ((q : Open) → P q → (((o ≡ SentRequest) × (send ≢ None)) ⊎ (ends o ≡ true) → act ≢ moves q.number) → Q q)
    → AllByRecursion P xs → AllByRecursion Q (open_by o act event send standing xs)
All-open P Q Opened (admits v x) event send standing xs new sending acking ending others all =
    All-append Q xs (open_since event x) (All-weaken P Q xs (λ q h. others q h (λ either same. cc)) all) (since event refl)
  where
    since : (f : Event) → event ≡ f → AllByRecursion Q (open_since f x)
    since (arrival source came) brings = (new source came v x brings refl refl, tt)
    since tick brings = tt
All-open P Q SentRequest (moves x) event None standing xs new sending acking ending others all = All-weaken P Q xs (λ q h. others q h (λ either same. ⊎_elim (λ e. e.1 refl) (λ e. cc) either)) all
All-open P Q SentRequest (moves x) event (Some to) standing xs new sending acking ending others all =
    All-staged P Q x (sent to) xs (sending x to refl refl refl) (λ q h other. others q h (λ either same. other (sym (same_moves x q.number same)))) all
All-open P Q Acked (moves x) event send standing xs new sending acking ending others all =
    All-staged P Q x acked xs (acking x refl refl) (λ q h other. others q h (λ either same. other (sym (same_moves x q.number same)))) all
All-open P Q (Answered s) (moves x) event send standing xs new sending acking ending others all =
    All-staged P Q x done xs (ending x refl refl) (λ q h other. others q h (λ either same. other (sym (same_moves x q.number same)))) all
All-open P Q GaveUp (moves x) event send standing xs new sending acking ending others all =
    All-staged P Q x done xs (ending x refl refl) (λ q h other. others q h (λ either same. other (sym (same_moves x q.number same)))) all
All-open P Q Delivered act event send standing xs new sending acking ending others all =
    All-awaited Q standing xs (All-weaken P Q xs (λ q h. others q h (λ either same. ⊎_elim (λ e. let f = e.0 in cc) (λ e. cc) either)) all)
All-open P Q _ _ event send standing xs new sending acking ending others all =
    All-weaken P Q xs (λ q h. others q h (λ either same. ⊎_elim (λ e. let f = e.0 in cc) (λ e. cc) either)) all

-- the property of an exchange that has a stage
pub record HasStage (P : Open → Type 0) (x : ℕ) (stage : Stage) : Type 0 where
  pub found : Open
  pub holds : P found
  pub number : found.number ≡ x
  pub stage_is : found.stage ≡ stage

-- an exchange that has a stage is one of them
pub stage-holds : (P : Open → Type 0) (x : ℕ) (stage : Stage) (history : List Action) → AllByRecursion P (open_in history) → stage_of x history ≡ Some stage → HasStage P x stage
stage-holds P x stage history all e = go (find (λ (q : Open). q.number == x) (open_in history)) refl e
  where
    go : (f : Option Open) → find (λ (q : Open). q.number == x) (open_in history) ≡ f → option_map (λ (q : Open). q.stage) f ≡ Some stage → HasStage P x stage
    go None found is = absurd cc
    go (Some o) found is =
        let h = find-holds P (λ (q : Open). q.number == x) (open_in history) o all found in
        record { found = o; holds = h.0; number = eqb-true o.number x h.1; stage_is = cc }

-- ---- numbers

-- no open exchange has a number above those that were used
pub open-numbers : (setting : Setting) (history : List Action) → AllJustified setting history → AllByRecursion (λ o. o.number ≤ opened_in history) (open_in history)
open-numbers setting [] all = tt
open-numbers setting (d ∷ past) all =
    All-open (λ o. o.number ≤ opened_in past) (λ o. o.number ≤ opened_in (d ∷ past)) d.observation.report.outcome d.act d.observation.event d.observation.report.send (standing_in (d ∷ past)) (open_in past)
    (λ client came v x brings is act. new v x is act)
    (λ x to is act sent_to q h same. omega (arith, h))
    (λ x is act q h same. omega (arith, h))
    (λ x is act q h same. omega (arith, h))
    (λ q h not. omega (arith, h))
    (open-numbers setting past all.1)
  where
    new : (v x : ℕ) → d.observation.report.outcome ≡ Opened → d.act ≡ admits v x → x ≤ opened_in (d ∷ past)
    new v x is act =
        let j : IsOpening setting past d = subst (λ (o : Outcome). JustifiedBy o setting past d) is all.0 in
        let number = (same_admits v _ x _ (sym act ∙ j.act)).1 in
        rw is (omega (arith, number))

-- what is before a position is justified
pub all-before : (setting : Setting) (history : List Action) (p : Position) → AllJustified setting history → IsPositionOf history p → AllJustified setting p.before
all-before setting [] p all at = absurd at
all-before setting (d ∷ past) p all at =
    ⊎_elim
    (λ (same : record { before = past; action = d } ≡ p). subst (λ (q : Position). AllJustified setting q.before) same all.1)
    (λ (there : IsPositionOf past p). all-before setting past p all.1 there)
    at

-- no more exchanges were opened before a position
pub opened-before : (history : List Action) (p : Position) → IsPositionOf history p → opened_in p.before ≤ opened_in history
opened-before [] p at = absurd at
opened-before (d ∷ past) p at =
    ⊎_elim
    (λ (same : record { before = past; action = d } ≡ p). let before : opened_in past ≡ opened_in p.before = ap (λ (q : Position). opened_in q.before) same in omega (arith, before))
    (λ (there : IsPositionOf past p). omega (arith, opened-before past p there))
    at

-- an exchange whose request is sent was opened before
pub sent-number : (setting : Setting) (history : List Action) (p : Position) (x : ℕ) → AllJustified setting history → IsPositionOf history p → Sends setting.salt x p → x ≤ opened_in p.before
sent-number setting history p x all at s =
    let j : IsForwarding setting p.before p.action = justified-at setting history p SentRequest all at s.outcome in
    let same = same_moves x j.exchange (sym s.act ∙ j.act) in
    let number = opened-number j.to_send.opened in
    omega (arith, same, number.1)

-- so was one that ends
pub ended-number : (setting : Setting) (history : List Action) (p : Position) (x : ℕ) → AllJustified setting history → IsPositionOf history p → Ends x p → x ≤ opened_in p.before
ended-number setting history p x all at e = go p.action.observation.report.outcome e.outcome (justified-at setting history p p.action.observation.report.outcome all at refl)
  where
    before : AllJustified setting p.before
    before = all-before setting history p all at

    given_up : IsGivingUp setting p.before p.action → x ≤ opened_in p.before
    given_up (overdue y m acting act to_end come silent) =
        let same = same_moves x y (sym e.act ∙ act) in
        let number = opened-number to_end.opened in
        omega (arith, same, number.1)
    given_up (unheard y m acting act to_repeat first come stops silent) =
        let same = same_moves x y (sym e.act ∙ act) in
        let h = stage-holds (λ o. o.number ≤ opened_in p.before) y (sent to_repeat.to) p.before (open-numbers setting p.before before) to_repeat.stage in
        omega (arith, same, h.holds, h.number)
    given_up (unacknowledged v acting act again stops silent) = absurd (let f = sym e.act ∙ act in cc)

    go : (o : Outcome) → ends o ≡ true → JustifiedBy o setting p.before p.action → x ≤ opened_in p.before
    go (Answered s) is j =
        let g = (taken-so s setting p.before p.action j).gets in
        let m = g.meets in
        let same = same_moves x _ (sym e.act ∙ g.act) in
        let number = sent-number setting p.before m.asking _ before m.was_asked m.asks.sends in
        omega (arith, same, number, opened-before p.before m.asking m.was_asked)
    go GaveUp is j = given_up j
    go _ is j = absurd cc

-- ---- stages

-- the request of an exchange was sent to an endpoint
pub record WasSentTo (salt : ℕ) (history : List Action) (x : ℕ) (to : Endpoint) : Type 0 where
  pub position : Position
  pub is_there : IsPositionOf history position
  pub sends : Sends salt x position
  pub to_is : sends.to ≡ to

-- how far an exchange has come: the request of one that waits for its turn was never sent, the
-- request of one that waits for an acknowledgement was sent to the endpoint of its stage, and one
-- that isn't done hasn't ended
pub record HasCome (salt : ℕ) (history : List Action) (o : Open) : Type 0 where
  pub unsent : o.stage ≡ queued → Never (Sends salt o.number) history
  pub was_sent : (to : Endpoint) → o.stage ≡ sent to → WasSentTo salt history o.number to
  pub unended : o.stage ≢ done → Never (Ends o.number) history

-- what was sent stays so as the history grows
sent-later : {salt : ℕ} {history : List Action} {x : ℕ} {to : Endpoint} (d : Action) → WasSentTo salt history x to → WasSentTo salt (d ∷ history) x to
sent-later d w = record { position = w.position; is_there = inr w.is_there; sends = w.sends; to_is = w.to_is }

-- an exchange that waits for its turn hasn't ended
queued-come : (setting : Setting) (history : List Action) (x : ℕ) → AllJustified setting history → AllByRecursion (HasCome setting.salt history) (open_in history) → stage_of x history ≡ Some queued → Never (Ends x) history
queued-come setting history x all come stage =
    let h = stage-holds (HasCome setting.salt history) x queued history come stage in
    subst (λ (n : ℕ). Never (Ends n) history) h.number (h.holds.unended (λ e. let f = sym h.stage_is ∙ e in cc))

-- nor has one that waits for an acknowledgement
sent-come : (setting : Setting) (history : List Action) (x : ℕ) (to : Endpoint) → AllJustified setting history → AllByRecursion (HasCome setting.salt history) (open_in history) → stage_of x history ≡ Some (sent to) → Never (Ends x) history
sent-come setting history x to all come stage =
    let h = stage-holds (HasCome setting.salt history) x (sent to) history come stage in
    subst (λ (n : ℕ). Never (Ends n) history) h.number (h.holds.unended (λ e. let f = sym h.stage_is ∙ e in cc))

-- all open exchanges have come as far as their stages say
pub all-come : (setting : Setting) (history : List Action) → AllJustified setting history → AllByRecursion (HasCome setting.salt history) (open_in history)
all-come setting [] all = tt
all-come setting (d ∷ past) all =
    All-open (HasCome setting.salt past) (HasCome setting.salt (d ∷ past)) d.observation.report.outcome d.act d.observation.event d.observation.report.send (standing_in (d ∷ past)) (open_in past) new (sending (all-come setting past all.1)) (acking (all-come setting past all.1)) ending others (all-come setting past all.1)
  where
    new : (client : Endpoint) (came : List ℕ) (v x : ℕ) → d.observation.event ≡ arrival client came → d.observation.report.outcome ≡ Opened → d.act ≡ admits v x → HasCome setting.salt (d ∷ past) (record { number = x; client = client; stage = queued })
    new client came v x brings is act =
        let j : IsOpening setting past d = subst (λ (o : Outcome). JustifiedBy o setting past d) is all.0 in
        let number = (same_admits v _ x _ (sym act ∙ j.act)).1 in
        record {
          unsent = λ e. (
            (λ s. let a = sym act ∙ s.act in cc),
            never-from (Sends setting.salt x) past (λ p at s. let below = sent-number setting past p x all.1 at s in omega (arith, number, below, opened-before past p at)),
          );
          was_sent = λ to e. absurd cc;
          unended = λ e. (
            (λ s. let a = sym act ∙ s.act in cc),
            never-from (Ends x) past (λ p at s. let below = ended-number setting past p x all.1 at s in omega (arith, number, below, opened-before past p at)),
          );
        }

    sending : AllByRecursion (HasCome setting.salt past) (open_in past) → (x : ℕ) (to : Endpoint) → d.observation.report.outcome ≡ SentRequest → d.act ≡ moves x → d.observation.report.send ≡ Some to → (q : Open) → HasCome setting.salt past q → q.number ≡ x → HasCome setting.salt (d ∷ past) (record q { stage = sent to })
    sending come x to is act sent_to q h same =
        let j : IsForwarding setting past d = subst (λ (o : Outcome). JustifiedBy o setting past d) is all.0 in
        let number : x ≡ j.exchange = same_moves x j.exchange (sym act ∙ j.act) in
        let was = queued-come setting past j.exchange all.1 come j.to_send.stage in
        let back : j.exchange ≡ q.number = sym number ∙ sym same in
        record {
          unsent = λ e. absurd cc;
          was_sent = λ at e. record {
            position = here past d;
            is_there = inl refl;
            sends = record {
              act = act ∙ ap moves (sym same);
              outcome = is;
              to = to;
              sent = sent_to;
              message = _;
              spells = j.tells.spells;
              token = ap (token_of setting.salt) back;
            };
            to_is = cc;
          };
          unended = λ not. ((λ s. let e = ap ends (sym is) ∙ s.outcome in cc), subst (λ (n : ℕ). Never (Ends n) past) back was);
        }

    acking : AllByRecursion (HasCome setting.salt past) (open_in past) → (x : ℕ) → d.observation.report.outcome ≡ Acked → d.act ≡ moves x → (q : Open) → HasCome setting.salt past q → q.number ≡ x → HasCome setting.salt (d ∷ past) (record q { stage = acked })
    acking come x is act q h same =
        let j : IsSettled setting past d = subst (λ (o : Outcome). JustifiedBy o setting past d) is all.0 in
        record {
          unsent = λ e. absurd cc;
          was_sent = λ to e. absurd cc;
          unended = λ not. ((λ s. let e = ap ends (sym is) ∙ s.outcome in cc), was j.settles);
        }
      where
        was : Settles setting past d → Never (Ends q.number) past
        was (a_request exchange is_act acknowledges) =
            let number : x ≡ exchange = same_moves x exchange (sym act ∙ is_act) in
            let u = acknowledges.unsettled in
            subst (λ (n : ℕ). Never (Ends n) past) (sym number ∙ sym same) (sent-come setting past exchange u.to all.1 come u.stage)
        was (an_answer client is_act closes) = absurd (let e = sym act ∙ is_act in cc)

    ending : (x : ℕ) → ends d.observation.report.outcome ≡ true → d.act ≡ moves x → (q : Open) → HasCome setting.salt past q → q.number ≡ x → HasCome setting.salt (d ∷ past) (record q { stage = done })
    ending x is act q h same = record { unsent = λ e. absurd cc; was_sent = λ to e. absurd cc; unended = λ not. absurd (not refl) }

    others : (q : Open) → HasCome setting.salt past q → (((d.observation.report.outcome ≡ SentRequest) × (d.observation.report.send ≢ None)) ⊎ (ends d.observation.report.outcome ≡ true) → d.act ≢ moves q.number) → HasCome setting.salt (d ∷ past) q
    others q h not =
        record {
          unsent = λ e. ((λ s. not (inl (s.outcome, λ none. let f = sym none ∙ s.sent in cc)) s.act), h.unsent e);
          was_sent = λ to e. sent-later d (h.was_sent to e);
          unended = λ e. ((λ s. not (inr s.outcome) s.act), h.unended e);
        }

-- the request of one that waits for its turn was never sent
pub queued-unsent : (setting : Setting) (history : List Action) (x : ℕ) → AllJustified setting history → stage_of x history ≡ Some queued → Never (Sends setting.salt x) history
queued-unsent setting history x all stage =
    let h = stage-holds (HasCome setting.salt history) x queued history (all-come setting history all) stage in
    subst (λ (n : ℕ). Never (Sends setting.salt n) history) h.number (h.holds.unsent h.stage_is)

-- the request of one that waits for an acknowledgement was sent to the endpoint of its stage
pub stage-sent : (setting : Setting) (history : List Action) (x : ℕ) (to : Endpoint) → AllJustified setting history → stage_of x history ≡ Some (sent to) → WasSentTo setting.salt history x to
stage-sent setting history x to all is =
    let h = stage-holds (HasCome setting.salt history) x (sent to) history (all-come setting history all) is in
    subst (λ (n : ℕ). WasSentTo setting.salt history n to) h.number (h.holds.was_sent to h.stage_is)
