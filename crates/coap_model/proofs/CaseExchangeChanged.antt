-- A step that changes one exchange preserves what is carried.
use Rattle.std.proofs.Common.{◌≡◌, ◌≢◌, inl, inr, ⊎_elim, ℕ, ◌+◌, ◌<◌, ◌≤◌, Bool, true, false, cond, eqb, List, [], ◌∷◌, length, map, Some, refl, sym, ap, ◌∙◌, subst, arith}
use Rattle.std.specs.Prelude.{◌&&◌, ◌||◌}
use Rattle.std.specs.List.{AllByRecursion}
use Rattle.std.proofs.lemmas.List.{length-map}
use Rattle.std.proofs.lemmas.Option.{same_Some}
use Rattle.coap_endpoint.specs.declared.target.Target.{Target}
use Rattle.coap_pending.specs.Table.{Numbered, IsRising, item_at, changed, changed_at, count}
use Rattle.coap_forward.specs.Changes.{changed_by, concerns}
use Rattle.coap_model.specs.Answers.{tainted_all}
use Rattle.coap_model.specs.Changed.{key_asked}
use Rattle.coap_endpoint.specs.declared.endpoint.Endpoint.{Endpoint}
use Rattle.coap_endpoint.proofs.Lists.{All-weaken}
use Rattle.coap_store.specs.Entries as cache
use Rattle.coap_pending.specs.declared.exchange.Exchange.{Exchange}
use Rattle.coap_pending.specs.declared.ids.Ids.{Ids as Given}
use Rattle.coap_pending.specs.Exchanges.{is_queued, is_sent_to}
use Rattle.coap_pending.specs.Ids.{given_in}
use Rattle.coap_pending.specs.Waiters.{is_waiting, waits_for}
use Rattle.coap_pending.proofs.Changes.{length-changed_at, IsRising-changed_at}
use Rattle.coap_model.specs.Cached.{IsStoreOf}
use Rattle.coap_message.specs.declared.kind.Kind.TheVariants.{Con, Non}
use Rattle.coap_dedup.specs.Records.{Records}
use Rattle.coap_model.specs.State.{State, later}
use Rattle.coap_model.specs.History.{moves, serves, Action, opens_one, admits_one, accepts_answer, Gets}
use Rattle.coap_model.specs.Standing.{WaiterStanding, Open, standing_by, open_by, standing_in}
use Rattle.coap_model.specs.Justified.{AllJustified}
use Rattle.coap_model.specs.Carries.{HasNumber, HasExchange, stage_seen, Ids, IsExchangeOf, AreRemembered, AreSchedules, Bears}
use Rattle.coap_model.proofs.Frames.{is_flying, tainted_here, tainted-all, exchange_changed, clock_frame, numbers_frame, exchange_frame, waiters_frame, unused_frame, opened-before, admitted-before}
use Rattle.coap_model.proofs.Lists.{Has, All-map, All-there}
use Rattle.coap_model.proofs.Positions.{here, same_moves, opened-number}
use Rattle.coap_model.proofs.Tables.{item-Has, one-item, changed-cases, HasNumber-changed, HasExchange-on}

-- what must hold of an observation that acts on the exchange with this number
pub record IsMove (n : ℕ) (e : Action) : Type 0 where
  pub act : e.act ≡ moves n
  pub opens : opens_one e.observation.report.outcome ≡ 0
  pub admits : admits_one e.observation.report.outcome ≡ 0
  pub stands : (standing : List WaiterStanding) → standing_by e.observation.report.outcome e.act e.observation.event e.observation.bytes standing ≡ standing

-- What is known of the exchanges before one of them changes: they are those of the table, except
-- for taints, and the others are already right.
pub record AreOthers (w : State) (history : List Action) (e : Action) (n : ℕ) (xs : List (Numbered Exchange)) : Type 0 where
  pub rising : IsRising 0 xs
  pub many : length xs ≡ length w.exchanges
  pub seen : map stage_seen xs ≡ map stage_seen w.exchanges
  pub numbers : (m : ℕ) → HasNumber m w.exchanges → HasNumber m xs
  pub waited : AllByRecursion (λ y. 0 < count (waits_for y.0) w.waiters) xs
  pub others : AllByRecursion (λ y. y.0 ≢ n → IsExchangeOf w.setting (e ∷ history) y) xs

-- if no answer is accepted, they are those of the table
pub others-quiet : (w : State) (history : List Action) (c : Bears history w) (e : Action) (n : ℕ) → e.act ≡ moves n → accepts_answer e.observation.report.outcome ≡ false → AreOthers w history e n w.exchanges
others-quiet w history c e n act none =
    record {
      rising = c.whole.rising;
      many = refl;
      seen = refl;
      numbers = λ m has. has;
      waited = c.whole.waited;
      others = All-weaken (IsExchangeOf w.setting history) (λ y. y.0 ≢ n → IsExchangeOf w.setting (e ∷ history) y) w.exchanges (λ y f other. exchange_frame w.setting history e y none (λ same. other (same_moves y.0 n (sym same ∙ act))) f) c.exchanges;
    }

-- if one is, they are tainted accordingly
pub others-changed : (w : State) (history : List Action) (c : Bears history w) (e : Action) (n : ℕ) (gets : Gets w.setting n (here history e)) → AreOthers w history e n (tainted_all (changed_by (key_asked gets).target gets.meets.message) w.exchanges)
others-changed w history c e n gets = subst (AreOthers w history e n) (sym (tainted-all changed w.exchanges)) (
    record {
      rising = rises 0 w.exchanges c.whole.rising;
      many = length-map w.exchanges (tainted_here changed);
      seen = unseen w.exchanges;
      numbers = λ m has. numbered m w.exchanges has;
      waited = All-map (λ y. 0 < count (waits_for y.0) w.waiters) (λ y. 0 < count (waits_for y.0) w.waiters) (tainted_here changed) w.exchanges (λ y some. some) c.whole.waited;
      others = All-map (IsExchangeOf w.setting history) (λ y. y.0 ≢ n → IsExchangeOf w.setting (e ∷ history) y) (tainted_here changed) w.exchanges (λ y f other. exchange_changed history e y gets (λ same. other (same_moves y.0 n (sym same ∙ gets.act))) f) c.exchanges;
    }
    )
  where
    changed : List Target
    changed = changed_by (key_asked gets).target gets.meets.message

    rises : (least : ℕ) (xs : List (Numbered Exchange)) → IsRising least xs → IsRising least (map (tainted_here changed) xs)
    rises least [] r = r
    rises least (x ∷ xs) r = (r.0, rises x.0 xs r.1)

    unseen : (xs : List (Numbered Exchange)) → map stage_seen (map (tainted_here changed) xs) ≡ map stage_seen xs
    unseen [] = refl
    unseen (x ∷ xs) = ap (λ (os : List Open). stage_seen x ∷ os) (unseen xs)

    numbered : (m : ℕ) (xs : List (Numbered Exchange)) → HasNumber m xs → HasNumber m (map (tainted_here changed) xs)
    numbered m [] has = has
    numbered m (x ∷ xs) has = ⊎_elim (λ (same : m ≡ x.0). inl same) (λ (there : HasNumber m xs). inr (numbered m xs there)) has

-- the exchange that is found with a number is found tainted
pub found-tainted : (changed : List Target) (n : ℕ) (xs : List (Numbered Exchange)) (x : Exchange) → item_at n xs ≡ Some x → item_at n (tainted_all changed xs) ≡ Some (tainted_here changed (n, x)).1
found-tainted changed n xs x e = ap (item_at n) (tainted-all changed xs) ∙ go xs e
  where
    go : (ys : List (Numbered Exchange)) → item_at n ys ≡ Some x → item_at n (map (tainted_here changed) ys) ≡ Some (tainted_here changed (n, x)).1
    go [] f = absurd cc
    go (y ∷ ys) f = by_number (eqb n y.0) (go ys) f
      where
        by_number : (b : Bool) → (item_at n ys ≡ Some x → item_at n (map (tainted_here changed) ys) ≡ Some (tainted_here changed (n, x)).1) → cond b (Some y.1) (item_at n ys) ≡ Some x → cond b (Some (tainted_here changed y).1) (item_at n (map (tainted_here changed) ys)) ≡ Some (tainted_here changed (n, x)).1
        by_number true rest g = ap (λ (a : Exchange). Some (tainted_here changed (n, a)).1) (same_Some y.1 x g)
        by_number false rest g = rest g

-- and as many pass a test that ignores taints
pub count-tainted : (test : Exchange → Bool) → ((x : Exchange) (b : Bool) → test (record x { tainted = b }) ≡ test x) → (changed : List Target) (xs : List (Numbered Exchange)) → count test (tainted_all changed xs) ≡ count test xs
count-tainted test blind changed xs = ap (count test) (tainted-all changed xs) ∙ go xs
  where
    go : (ys : List (Numbered Exchange)) → count test (map (tainted_here changed) ys) ≡ count test ys
    go [] = refl
    go (y ∷ ys) = rw (blind y.1 (y.1.tainted || (is_flying y.1.state && concerns changed y.1.key.target)), go ys) refl

-- the clock advances, one of these exchanges changes, these ids are given out, and this is stored
-- and remembered
abbrev pub moved_state : State → ℕ → List (Numbered Exchange) → ℕ → (Exchange → Exchange) → Given → List cache.Entry → Records → Records → State
moved_state w now xs n f ids store con non =
    record (later w now) { exchanges = changed_at n f xs; ids = ids; store = store; con_records = con; non_records = non }

-- such a step preserves what is carried
pub keeps_moving : (w : State) (history : List Action) (c : Bears history w) (e : Action) (xs : List (Numbered Exchange)) (n : ℕ) (x : Exchange) (f : Exchange → Exchange) (ids : Given) (store : List cache.Entry) (con non : Records) → IsMove n e → AreOthers w history e n xs → item_at n xs ≡ Some x → w.last ≤ e.observation.now
    → IsExchangeOf w.setting (e ∷ history) (n, f x)
    → map stage_seen (changed_at n f xs) ≡ open_by e.observation.report.outcome e.act e.observation.event e.observation.report.send (standing_in (e ∷ history)) (map stage_seen xs)
    → Ids (e ∷ history) (moved_state w e.observation.now xs n f ids store con non)
    → AreSchedules (e ∷ history)
    → ((to : Endpoint) → count (is_sent_to to) (changed_at n f xs) ≤ w.setting.limits.nstart)
    → ((now : ℕ) → e.observation.now ≤ now → given_in now ids + (count is_waiting w.waiters + count is_queued (changed_at n f xs)) ≤ 32768)
    → IsStoreOf w.setting (e ∷ history) store
    → AreRemembered w.setting (e ∷ history) Con con × AreRemembered w.setting (e ∷ history) Non non
    → AllJustified w.setting (e ∷ history) → Bears (e ∷ history) (moved_state w e.observation.now xs n f ids store con non)
keeps_moving w history c e xs n x f ids store con non m are found onward new seen given schedules pace room stored remembered past =
    let opens = m.opens in
    let admits = m.admits in
    let number = opened-number new.opened in
    let unserved : (v : ℕ) → e.act ≢ serves v = λ v same. let g = sym m.act ∙ same in cc in
    record {
      routes = c.routes;
      clock = clock_frame c.clock onward refl refl;
      numbers = numbers_frame c.numbers (omega arith) (omega arith);
      ids = given;
      unused = unused_frame w.setting history e (λ y above same. let k = same_moves n y (sym m.act ∙ same) in omega (arith, k, above, number.1)) (λ v above. unserved v) c.unused;
      schedules = schedules;
      whole = record {
        exchanges = seen ∙ ap (open_by e.observation.report.outcome e.act e.observation.event e.observation.report.send (standing_in (e ∷ history))) (are.seen ∙ c.whole.exchanges);
        waiters = c.whole.waiters ∙ sym (m.stands (standing_in history));
        rising = IsRising-changed_at n f 0 xs are.rising;
        waiters_rise = c.whole.waiters_rise;
        awaited = All-weaken (λ v. HasExchange v.1.state w.exchanges) (λ v. HasExchange v.1.state (changed_at n f xs)) w.waiters (λ v has. HasExchange-on v.1.state w.exchanges (changed_at n f xs) (λ k there. HasNumber-changed n k f xs (are.numbers k there)) has) c.whole.awaited;
        waited = All-map (λ y. 0 < count (waits_for y.0) w.waiters) (λ y. 0 < count (waits_for y.0) w.waiters) (changed n f) xs (λ y some. changed-cases (λ z. 0 < count (waits_for z.0) w.waiters) n f y (λ same. some) (λ other. some)) are.waited;
        unended = λ y s never. HasNumber-changed n y f xs (are.numbers y (c.whole.unended y (opened-before history e y m.opens s) never.1));
        unserved = λ v y s never. c.whole.unserved v y (admitted-before history e v y m.admits s) never.1;
      };
      exchanges =
          All-map (λ y. (y.0 ≢ n → IsExchangeOf w.setting (e ∷ history) y) × Has y xs) (IsExchangeOf w.setting (e ∷ history)) (changed n f) xs
          (λ y g.
          changed-cases (IsExchangeOf w.setting (e ∷ history)) n f y
          (λ same. let one = one-item 0 xs (n, x) y are.rising (item-Has n xs x found) g.1 (sym same) in subst (λ (a : Exchange). IsExchangeOf w.setting (e ∷ history) (y.0, f a)) one (subst (λ (k : ℕ). IsExchangeOf w.setting (e ∷ history) (k, f x)) (sym same) new))
          (λ other. g.0 other))
          (All-there (λ y. y.0 ≢ n → IsExchangeOf w.setting (e ∷ history) y) xs are.others);
      waiters = waiters_frame w.setting history e w.waiters unserved c.waiters;
      store = stored;
      con_records = remembered.0;
      non_records = remembered.1;
      within = record { exchanges = let h = c.within.exchanges in let l = length-changed_at n f xs in let many = are.many in omega arith; waiters = c.within.waiters; pace = pace; ids = room };
      past = past;
    }
