-- An answer that arrives: what the history says about it, and what is stored for it.
use Rattle.std.proofs.Common.{◌≡◌, inr, ℕ, ◌<◌, ◌≤◌, Bool, true, false, List, ◌∷◌, Option, None, refl, sym, ap, ◌∙◌, subst}
use Rattle.std.specs.Prelude.{◌&&◌, not, option_map}
use Rattle.std.proofs.lemmas.Bool.{and_parts, and_from}
use Rattle.coap_message.specs.Message.{Message}
use Rattle.coap_message.specs.Uint.{IsBytes}
use Rattle.coap_option.specs.Selection.{tags_of}
use Rattle.coap_store.specs.declared.key.CacheKey.{CacheKey}
use Rattle.coap_store.specs.Entries.{Entry, entry_key, entry_size}
use Rattle.coap_store.specs.Lists.{of_key, others, put}
use Rattle.coap_pending.specs.declared.exchange.Exchange.{Exchange}
use Rattle.coap_pending.specs.Table.{Numbered}
use Rattle.coap_forward.specs.Answers.{answer_of, is_storable}
use Rattle.coap_forward.specs.Changes.{changed_by, concerns}
use Rattle.coap_forward.specs.Messages.{is_get, token_of}
use Rattle.coap_model.specs.declared.report.Outcome.TheVariants.{Answered}
use Rattle.coap_model.specs.declared.report.Storing.{Storing}
use Rattle.coap_model.specs.declared.report.Storing.TheVariants.{Kept, TooLarge, NoMemory, NotStored}
use Rattle.coap_model.specs.Keys.{key_sent}
use Rattle.coap_model.specs.State.{State}
use Rattle.coap_model.specs.Answers.{marked_all, entry_made, may_store, answer_for}
use Rattle.coap_pending.specs.Exchanges.{asked_of}
use Rattle.coap_model.specs.History.{Action, Position, moves, accepts_answer, Brings, Matches, Gets}
use Rattle.coap_model.specs.Changed.{key_asked, Unchanged, IsTold}
use Rattle.coap_model.specs.Cached.{entry_of_cached, copied, answer_got, entry_got, leaves, WasCacheAt, IsStored, IsStoreOf}
use Rattle.coap_model.specs.Justified.{IsAnswer, IsObtainedHere, JustifiedBy}
use Rattle.coap_model.specs.Carries.{IsInFlight, Bears}
use Rattle.coap_model.proofs.Cached.{former-once}
use Rattle.coap_model.proofs.MarksAndTaints.{one-getting, told-on, storable-quiet}
use Rattle.coap_model.proofs.AbsentFromHistory.{clean-flight, not-true}
use Rattle.coap_model.proofs.Positions.{here, index_below}
use Rattle.coap_model.proofs.Rules.{changed_state, IsStoring, kept, too_large, no_memory, not_stored}
use Rattle.coap_model.proofs.Stores.{marked-on, store-kept, store-too_large, store-marked, none-found}

-- the response that may be renewed only matters for the answer to a GET
answer-same : (most now : ℕ) (m : Message) (to_get : Bool) (a b : Option Message) → (to_get ≡ true → a ≡ b) → answer_of most to_get a now m ≡ answer_of most to_get b now m
unfolding answer_of
answer-same most now m true a b same = ap (λ (o : Option Message). answer_of most true o now m) (same refl)
answer-same most now m false a b same = refl

module _ (w : State) (history : List Action) (c : Bears history w) (now : ℕ) (m : Message) (x : Numbered Exchange) (e : Action) (moment : e.observation.now ≡ now) (flight : IsInFlight w.setting history x) (act : e.act ≡ moves x.0) (outcome : accepts_answer e.observation.report.outcome ≡ true) (brings : Brings w.setting.limits.datagram flight.asked.asks.sends.to m e.observation.event) (matches : Matches (token_of w.setting.salt x.0) flight.asked.asks.sends.message.id m) (fits : IsBytes brings.bytes) where
  -- the answer arrived there
  abbrev pub gets : Gets w.setting x.0 (here history e)
  gets = record {
    act = act;
    outcome = outcome;
    meets = record { asking = flight.asked.asking; was_asked = flight.asked.was_asked; asks = flight.asked.asks; message = m; brings = brings; matches = matches };
    bytes = fits;
  }

  -- the exchange has the answer that the history implies
  pub result-is : answer_for w now m x.1 ≡ answer_got flight.former gets
  result-is =
      let tags = tags_of flight.asked.asks.sends.message in
      answer-same w.setting.limits.datagram now m x.1.is_get (option_map (λ s. s.response) x.1.copy) (copied tags (key_sent flight.asked.asks.sends.to flight.asked.asks.sends.message) flight.former) (λ get. flight.copy_is get ∙ ap (λ (k : CacheKey). copied tags k flight.former) (sym flight.asked.asked_key))
      ∙ (λ i. answer_of w.setting.limits.datagram (sym flight.method i) (copied tags (key_sent flight.asked.asks.sends.to flight.asked.asks.sends.message) flight.former) (sym moment i) m)

  -- the entry that is stored is the entry of the cache
  made : entry_made (changed_state w m x) now x.1 (answer_for w now m x.1) ≡ entry_of_cached (entry_got flight.former gets)
  made = λ i. (
    sym flight.asked.asked_key i,
    record {
      response = (result-is i).message;
      asked = (ap asked_of flight.sending_is ∙ flight.asked.number) i;
      got_no = c.clock.events i;
      got = sym moment i;
      marked = false;
    },
  )

  -- the parts of the test whether an answer may be stored
  pub parts : may_store x.1 (answer_for w now m x.1) ≡ true → (x.1.is_get ≡ true) × (x.1.tainted ≡ false) × (is_storable (answer_for w now m x.1) ≡ true)
  parts can =
      let get = and_parts x.1.is_get (not x.1.tainted && is_storable (answer_for w now m x.1)) can in
      let clean = and_parts (not x.1.tainted) (is_storable (answer_for w now m x.1)) get.1 in
      (get.0, not-true x.1.tainted clean.0, clean.1)

  -- its target wasn't changed since its request was sent
  pub same-target : x.1.tainted ≡ false → Unchanged w.setting (key_asked gets).target flight.asked.asking history
  same-target clean = subst (λ (k : CacheKey). Unchanged w.setting k.target flight.asked.asking history) (sym flight.asked.asked_key) (subst (λ (b : Bool). IsTold b w.setting x.1.key.target flight.asked.asking history) clean flight.told)

  -- so it was obtained
  abbrev pub obtained : may_store x.1 (answer_for w now m x.1) ≡ true → IsObtainedHere w.setting history e
  obtained can =
      let p = parts can in
      record {
        exchange = x.0;
        gets = gets;
        method = flight.method ∙ p.0;
        unchanged = same-target p.1;
        former = flight.former;
        was_cache = flight.was_cache;
        storable = ap is_storable (sym result-is) ∙ p.2;
      }

  -- and if it was obtained, it may be stored
  pub may-store : IsObtainedHere w.setting history e → may_store x.1 (answer_for w now m x.1) ≡ true
  may-store o =
      let one = one-getting o.gets gets in
      let get : x.1.is_get ≡ true = sym flight.method ∙ ap (λ (r : Message). is_get r.code) (sym one.asked) ∙ o.method in
      let key : key_asked o.gets ≡ x.1.key = one.key ∙ flight.asked.asked_key in
      let unchanged : Unchanged w.setting x.1.key.target flight.asked.asking history = subst (λ (p : Position). Unchanged w.setting x.1.key.target p history) one.asking (subst (λ (k : CacheKey). Unchanged w.setting k.target o.gets.meets.asking history) key o.unchanged) in
      let former : o.former ≡ flight.former = former-once (subst (λ (p : Position). WasCacheAt w.setting p.before x.0 o.former) one.asking (subst (λ (n : ℕ). WasCacheAt w.setting o.gets.meets.asking.before n o.former) one.exchange o.was_cache)) flight.was_cache in
      let answer : answer_got o.former o.gets ≡ answer_got flight.former gets = λ i. answer_of w.setting.limits.datagram (is_get (one.asked i).code) (copied (tags_of (one.asked i)) (one.key i) (former i)) e.observation.now (one.message i) in
      and_from x.1.is_get (not x.1.tainted && is_storable (answer_for w now m x.1)) get
      (and_from (not x.1.tainted) (is_storable (answer_for w now m x.1)) (ap not (clean-flight w.setting history x flight unchanged)) (ap is_storable (result-is ∙ sym answer) ∙ o.storable))

  -- the stored entry corresponds to the entry of the cache
  new-stored : may_store x.1 (answer_for w now m x.1) ≡ true → IsStored w.setting (e ∷ history) (entry_made (changed_state w m x) now x.1 (answer_for w now m x.1)) (entry_got flight.former gets)
  new-stored can =
      let p = parts can in
      let target = (key_asked gets).target in
      let quiet : concerns (changed_by target m) target ≡ false = storable-quiet w.setting.limits.datagram now x.1.is_get _ m target target p.2 in
      record {
        same = made;
        was_asked = inr flight.asked.was_asked;
        told =
            subst (λ (b : Bool). IsTold b w.setting target flight.asked.asking (e ∷ history)) quiet
            (told-on false target flight.asked.asking gets (index_below history flight.asked.asking flight.asked.was_asked) (same-target p.1));
      }

  -- the store then corresponds to the cache of the history
  pub stored-then : (grown : Bool) (storing : Storing) (store : List Entry) → e.observation.report.outcome ≡ Answered storing → IsStoring (changed_state w m x) now grown x (answer_for w now m x.1) storing store → IsStoreOf w.setting (e ∷ history) store
  stored-then grown Kept _ is (kept can small) =
      subst (λ (k : CacheKey). IsStoreOf w.setting (e ∷ history) (put entry_key entry_size w.setting.limits.cache_bytes w.setting.limits.cache_entries (entry_made (changed_state w m x) now x.1 (answer_for w now m x.1)) (marked_all (changed_by k.target m) w.store))) flight.asked.asked_key
      (store-kept w.setting history e gets w.store flight.former (entry_made (changed_state w m x) now x.1 (answer_for w now m x.1)) is flight.was_cache (new-stored can) c.store)
  stored-then grown TooLarge _ is (too_large can large) =
      subst (λ (k : CacheKey). IsStoreOf w.setting (e ∷ history) (others entry_key k (marked_all (changed_by k.target m) w.store))) flight.asked.asked_key
      (store-too_large w.setting history e gets w.store is c.store)
  stored-then grown NoMemory _ is (no_memory can small new g) = left (ap leaves is)
    where
      left : leaves e.observation.report.outcome ≡ true → IsStoreOf w.setting (e ∷ history) (marked_all (changed_by x.1.key.target m) w.store)
      left leaving = subst (λ (k : CacheKey). IsStoreOf w.setting (e ∷ history) (marked_all (changed_by k.target m) w.store)) flight.asked.asked_key (store-marked w.setting history e gets w.store leaving c.store)
  stored-then grown NotStored _ is (not_stored can) = subst (λ (k : CacheKey). IsStoreOf w.setting (e ∷ history) (marked_all (changed_by k.target m) w.store)) flight.asked.asked_key (store-marked w.setting history e gets w.store (ap leaves is) c.store)

  -- and the action is justified
  pub answered-so : (grown : Bool) (storing : Storing) (store : List Entry) → IsAnswer w.setting history e → IsStoring (changed_state w m x) now grown x (answer_for w now m x.1) storing store → JustifiedBy (Answered storing) w.setting history e
  answered-so grown Kept _ answer (kept can small) = record { answer = answer; here = obtained can; small = subst (λ (t : Entry). entry_size t ≤ w.setting.limits.cache_bytes) made small }
  answered-so grown TooLarge _ answer (too_large can large) = record { answer = answer; here = obtained can; large = subst (λ (t : Entry). w.setting.limits.cache_bytes < entry_size t) made large }
  answered-so grown NoMemory _ answer (no_memory can small new g) =
      record {
        answer = answer;
        here = obtained can;
        small = subst (λ (t : Entry). entry_size t ≤ w.setting.limits.cache_bytes) made small;
        cached = c.store.cached;
        is_cache = c.store.is_cache;
        new =
            none-found w.setting (e ∷ history) (marked_all (changed_by (key_asked gets).target m) w.store) c.store.cached (key_asked gets) (marked-on w.setting history e gets w.store c.store.cached c.store.each)
            (subst (λ (k : CacheKey). of_key entry_key k (marked_all (changed_by k.target m) w.store) ≡ None) (sym flight.asked.asked_key) new);
      }
  answered-so grown NotStored _ answer (not_stored can) = record { answer = answer; none = λ o. absurd (let f = sym can ∙ may-store o in cc) }
