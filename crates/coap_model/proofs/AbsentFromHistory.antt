-- What isn't in the tables isn't in the history: cached entries, and exchanges that may be joined.
use Rattle.std.proofs.Common.{◌≡◌, ℕ, ◌≤◌, Bool, true, false, List, Option, Some, None, refl, sym, ap, ◌∙◌, subst}
use Rattle.std.specs.Prelude.{◌&&◌, not, find, option_map}
use Rattle.std.proofs.lemmas.Bool.{and_parts, and_from}
use Rattle.std.proofs.lemmas.Option.{same_Some}
use Rattle.coap_message.specs.Message.{Message}
use Rattle.coap_endpoint.specs.declared.endpoint.Endpoint.{Endpoint}
use Rattle.coap_store.specs.declared.key.CacheKey.{CacheKey}
use Rattle.coap_store.specs.Freshness.{is_fresh}
use Rattle.coap_store.specs.Keys.{same_key}
use Rattle.coap_store.specs.Alike.{same_key-only, same_key-itself}
use Rattle.coap_endpoint.proofs.Lists.{none-found}
use Rattle.coap_pending.specs.declared.exchange.Exchange.{Exchange}
use Rattle.coap_pending.specs.declared.exchange.ExchangeState.{ExchangeState}
use Rattle.coap_pending.specs.declared.exchange.ExchangeState.TheVariants.{Queued, Sent, Acked, Done}
use Rattle.coap_pending.specs.Exchanges.{answer_in_state, answer_at, is_missing, is_joinable}
use Rattle.coap_pending.specs.Table.{Numbered, first_that}
use Rattle.coap_model.specs.declared.deed.Refusal.{Refusal}
use Rattle.coap_model.specs.Deeds.{code_of}
use Rattle.coap_model.specs.Setting.{Setting}
use Rattle.coap_model.specs.Verdicts.{may_ask}
use Rattle.coap_model.specs.State.{State}
use Rattle.coap_model.specs.History.{Action, Position, IsPositionOf, Never, Sends, Asks, Ends}
use Rattle.coap_forward.specs.Messages.{is_get}
use Rattle.coap_store.specs.Entries.{Entry}
use Rattle.coap_model.specs.Changed.{Unchanged, IsTold}
use Rattle.coap_model.proofs.MarksAndTaints.{told-contrary}
use Rattle.coap_model.specs.Justified.{verdict_on, IsMiss, IsJoinable, IsUnanswered, Deserves, by_verdict, by_length, LacksRoom, to_join, to_open}
use Rattle.coap_model.specs.Carries.{HasNumber, IsInFlight, IsState, IsExchangeOf, Bears}
use Rattle.coap_model.proofs.Rules as rules
use Rattle.coap_model.proofs.Rules.{IsMissed, IsDenied, IsFull}
use Rattle.coap_model.proofs.Lists.{find-holds, Has, All-there, Has-holds}
use Rattle.coap_model.proofs.Positions.{Never-at, first-once, one-opened}
use Rattle.coap_model.proofs.CountsAndRoom.{join-none, room-none}
use Rattle.coap_model.proofs.Tables.{Has-number, at-number}
use Rattle.coap_model.proofs.Stores.{cached-found}

-- a usable entry is fresh, and isn't marked
usable-of : (fresh marked : Bool) → fresh ≡ true → (fresh && not marked) ≡ false → marked ≡ true
usable-of true true e f = refl
usable-of true false e f = absurd cc
usable-of false marked e f = absurd cc

-- if the store has no usable entry, the cache has none
pub missed : (w : State) (history : List Action) (c : Bears history w) (now : ℕ) (key : CacheKey) → IsMissed w now key → IsMiss w.setting history key now
missed w history c now key none =
    let s = c.store in
    record {
      cached = s.cached;
      is_cache = s.is_cache;
      unusable = λ entry found usable.
          let k = cached-found w.setting history w.store s.cached key entry s.each found in
          let fresh : is_fresh now k.entry.1 ≡ true = ap (λ (e : Entry). is_fresh now e.1) k.stored.same ∙ usable.fresh in
          let marked = usable-of (is_fresh now k.entry.1) k.entry.1.marked fresh (none k.entry k.is_there) in
          told-contrary entry.asking usable.unchanged (subst (λ (b : Bool). IsTold b w.setting entry.key.target entry.asking history) marked k.stored.told);
    }

-- ---- exchanges that may be joined

-- an exchange without an answer hasn't ended
unended-missing : (setting : Setting) (history : List Action) (x : Numbered Exchange) (s : ExchangeState) → IsState setting history x s → is_missing (answer_in_state s) ≡ true → Never (Ends x.0) history
unended-missing setting history x Queued s none = s.unended
unended-missing setting history x Sent s none = s.unended
unended-missing setting history x Acked s none = s.unended
unended-missing setting history x (Done a) s none = absurd cc

-- and an exchange that hasn't ended has no answer
missing-unended : (setting : Setting) (history : List Action) (x : Numbered Exchange) (s : ExchangeState) → IsState setting history x s → Never (Ends x.0) history → is_missing (answer_in_state s) ≡ true
missing-unended setting history x Queued s never = refl
missing-unended setting history x Sent s never = refl
missing-unended setting history x Acked s never = refl
missing-unended setting history x (Done a) s never = absurd (Never-at (Ends x.0) history s.ending never s.was_ended s.ends)

-- the target of an exchange that isn't tainted wasn't changed since its request was sent
unchanged-flight : (setting : Setting) (history : List Action) (x : Numbered Exchange) → IsInFlight setting history x → x.1.tainted ≡ false → (asking : Position) → IsPositionOf history asking → Asks setting.salt x.0 asking → Unchanged setting x.1.key.target asking history
unchanged-flight setting history x s clean asking at asks =
    let own = first-once (Sends setting.salt x.0) history s.asked.asking asking s.asked.was_asked at s.asked.asks.sends asks.sends s.asked.asks.first asks.first in
    subst (λ (p : Position). Unchanged setting x.1.key.target p history) own (subst (λ (b : Bool). IsTold b setting x.1.key.target s.asked.asking history) clean s.told)

unchanged-since : (setting : Setting) (history : List Action) (x : Numbered Exchange) (s : ExchangeState) → IsState setting history x s → is_missing (answer_in_state s) ≡ true → x.1.tainted ≡ false → (asking : Position) → IsPositionOf history asking → Asks setting.salt x.0 asking → Unchanged setting x.1.key.target asking history
unchanged-since setting history x Queued s none clean asking at asks = absurd (Never-at (Sends setting.salt x.0) history asking s.never_sent at asks.sends)
unchanged-since setting history x Sent s none clean asking at asks = unchanged-flight setting history x s clean asking at asks
unchanged-since setting history x Acked s none clean asking at asks = unchanged-flight setting history x s clean asking at asks
unchanged-since setting history x (Done a) s none clean asking at asks = absurd cc

-- and an exchange whose target wasn't changed since its request was sent isn't tainted
pub clean-flight : (setting : Setting) (history : List Action) (x : Numbered Exchange) (s : IsInFlight setting history x) → Unchanged setting x.1.key.target s.asked.asking history → x.1.tainted ≡ false
clean-flight setting history x s same = go x.1.tainted refl
  where
    go : (b : Bool) → x.1.tainted ≡ b → b ≡ false
    go false e = refl
    go true e = absurd (told-contrary s.asked.asking same (subst (λ (b : Bool). IsTold b setting x.1.key.target s.asked.asking history) e s.told))

clean-since : (setting : Setting) (history : List Action) (x : Numbered Exchange) (s : ExchangeState) → IsState setting history x s → is_missing (answer_in_state s) ≡ true → ((asking : Position) → IsPositionOf history asking → Asks setting.salt x.0 asking → Unchanged setting x.1.key.target asking history) → x.1.tainted ≡ false
clean-since setting history x Queued s none same = s.untainted
clean-since setting history x Sent s none same = clean-flight setting history x s (same s.asked.asking s.asked.was_asked s.asked.asks)
clean-since setting history x Acked s none same = clean-flight setting history x s (same s.asked.asking s.asked.was_asked s.asked.asks)
clean-since setting history x (Done a) s none same = absurd cc

pub not-true : (b : Bool) → not b ≡ true → b ≡ false
not-true true e = absurd cc
not-true false e = refl

-- the exchange that the search finds may be joined according to the history, and is there
pub joinable-found : (w : State) (history : List Action) (c : Bears history w) (key : CacheKey) (n : ℕ) → first_that (is_joinable key) w.exchanges ≡ Some n → IsJoinable w.setting history key n × HasNumber n w.exchanges
joinable-found w history c key n e = go (find (λ (x : Numbered Exchange). is_joinable key x.1) w.exchanges) refl e
  where
    go : (o : Option (Numbered Exchange)) → find (λ (x : Numbered Exchange). is_joinable key x.1) w.exchanges ≡ o → option_map (λ (x : Numbered Exchange). x.0) o ≡ Some n → IsJoinable w.setting history key n × HasNumber n w.exchanges
    go None is f = absurd cc
    go (Some x) is f =
        let h = find-holds (λ y. IsExchangeOf w.setting history y × Has y w.exchanges) (λ (y : Numbered Exchange). is_joinable key y.1) w.exchanges x (All-there (IsExchangeOf w.setting history) w.exchanges c.exchanges) is in
        let get = and_parts x.1.is_get (not x.1.tainted && (is_missing (answer_at x.1) && same_key x.1.key key)) h.1 in
        let clean = and_parts (not x.1.tainted) (is_missing (answer_at x.1) && same_key x.1.key key) get.1 in
        let rest = and_parts (is_missing (answer_at x.1)) (same_key x.1.key key) clean.1 in
        let keys = same_key-only x.1.key key rest.1 in
        subst (λ (k : ℕ). IsJoinable w.setting history key k × HasNumber k w.exchanges) (same_Some x.0 n f) (
          record {
            opened = h.0.0.opened;
            method = sym h.0.0.method ∙ get.0;
            verdict = h.0.0.verdict ∙ ap may_ask keys;
            unended = unended-missing w.setting history x x.1.state h.0.0.state rest.0;
            unchanged = λ asking at asks. subst (λ (k : CacheKey). Unchanged w.setting k.target asking history) keys (unchanged-since w.setting history x x.1.state h.0.0.state rest.0 (not-true x.1.tainted clean.0) asking at asks);
          },
          Has-number w.exchanges x h.0.1,
        )

-- if the search finds none, none may be joined
pub none-joinable : (w : State) (history : List Action) (c : Bears history w) (key : CacheKey) → first_that (is_joinable key) w.exchanges ≡ None → (x : ℕ) → IsJoinable w.setting history key x → ⊥
none-joinable w history c key e x j = go (find (λ (y : Numbered Exchange). is_joinable key y.1) w.exchanges) refl e
  where
    go : (o : Option (Numbered Exchange)) → find (λ (y : Numbered Exchange). is_joinable key y.1) w.exchanges ≡ o → option_map (λ (y : Numbered Exchange). y.0) o ≡ None → ⊥
    go (Some y) is f = absurd cc
    go None is f =
        let has = c.whole.unended x (record { position = j.opened.opening; is_there = j.opened.was_opened; holds = j.opened.opens }) j.unended in
        let there = at-number (IsExchangeOf w.setting history) x w.exchanges has c.exchanges in
        let y = there.0 in
        let own = there.2 in
        let one = one-opened there.1 j.opened own.opened in
        let keys : may_ask y.1.key ≡ may_ask key = sym own.verdict ∙ ap (verdict_on w.setting) (sym one.2) ∙ j.verdict in
        let same = same_asked y.1.key key keys in
        let get : y.1.is_get ≡ true = own.method ∙ ap (λ (m : Message). is_get m.code) (sym one.2) ∙ j.method in
        let missing = missing-unended w.setting history y y.1.state own.state (subst (λ (k : ℕ). Never (Ends k) history) there.1 j.unended) in
        let clean = clean-since w.setting history y y.1.state own.state missing (λ asking at asks. subst (λ (k : CacheKey). Unchanged w.setting k.target asking history) (sym same) (j.unchanged asking at (subst (λ (k : ℕ). Asks w.setting.salt k asking) (sym there.1) asks))) in
        let passes = and_from y.1.is_get (not y.1.tainted && (is_missing (answer_at y.1) && same_key y.1.key key)) get (and_from (not y.1.tainted) (is_missing (answer_at y.1) && same_key y.1.key key) (ap not clean) (and_from (is_missing (answer_at y.1)) (same_key y.1.key key) missing (subst (λ (k : CacheKey). same_key y.1.key k ≡ true) same (same_key-itself y.1.key)))) in
        let fails = Has-holds (λ (z : Numbered Exchange). is_joinable key z.1 ≡ false) w.exchanges y (none-found (λ (z : Numbered Exchange). is_joinable key z.1) w.exchanges is) there.3 in
        absurd (let both : true ≡ false = sym passes ∙ fails in cc)
      where
        same_asked : (a b : CacheKey) → may_ask a ≡ may_ask b → a ≡ b
        same_asked a b f = cc

-- so a request that has to be forwarded here has to be according to the history
pub unanswered : (w : State) (history : List Action) (c : Bears history w) (now : ℕ) (key : CacheKey) (m : Message) → rules.IsUnanswered w now key m → IsUnanswered w.setting history now key m
unanswered w history c now key m none = record { miss = λ get. missed w history c now key (none.missed get); alone = λ get. none-joinable w history c key (none.alone get) }

-- ---- why a request is turned away

-- a request that is refused deserves its code
pub deserves : (w : State) (history : List Action) (c : Bears history w) (now : ℕ) (m : Message) (why : Refusal) → IsDenied w now m why → Deserves w.setting history now m (code_of why)
deserves w history c now m why (rules.by_verdict verdict) = by_verdict why verdict refl
deserves w history c now m why (rules.by_length key verdict none long is) = by_length key verdict (unanswered w history c now key m none) long (ap code_of is)

-- if the tables have no room for it, there is none according to the history
pub lacks_room : (w : State) (history : List Action) (c : Bears history w) (now : ℕ) (client : Endpoint) (key : CacheKey) (m : Message) → w.last ≤ now → IsFull w now client key m → LacksRoom w.setting history now client key m
lacks_room w history c now client key m onward (rules.to_join exchange get none found full) = to_join exchange get (missed w history c now key none) (joinable-found w history c key exchange found).0 (join-none now client history w c onward full)
lacks_room w history c now client key m onward (rules.to_open none short full) = to_open (unanswered w history c now key m none) short (room-none now client history w c onward full)
