-- What is done with an answer in the store is determined.
use Rattle.std.proofs.Common.{◌≡◌, ℕ, ◌<◌, ◌≤◌, true, List, refl, sym, ap, ◌∙◌, subst, arith}
use Rattle.coap_option.specs.Selection.{tags_of}
use Rattle.coap_model.specs.declared.report.Outcome.TheVariants.{Answered}
use Rattle.coap_model.specs.declared.report.Storing.{Storing}
use Rattle.coap_model.specs.declared.report.Storing.TheVariants.{Kept, TooLarge, NoMemory, NotStored}
use Rattle.coap_model.specs.Setting.{Setting}
use Rattle.coap_model.specs.Events.{Event}
use Rattle.coap_forward.specs.Answers.{answer_of, is_storable}
use Rattle.coap_forward.specs.Messages.{is_get}
use Rattle.coap_model.specs.History.{Action, Position, accepts_answer, Meets, Gets}
use Rattle.coap_model.specs.Changed.{asked_of, key_asked, to_get}
use Rattle.coap_model.specs.Cached.{Cached, cached_size, cached_here, copied, answer_got, WasCacheAt}
use Rattle.coap_model.specs.Justified.{IsAnswer, IsObtainedHere, entry_here, size_here, JustifiedBy, HaveOneMemory}
use Rattle.coap_model.proofs.Positions.{here}
use Rattle.coap_model.proofs.MarksAndTaints.{one-getting}
use Rattle.coap_model.proofs.Cached.{same-entry, former-once}

-- ---- at one action

-- the cache when the exchange of an answer was opened is unique
pub one-former : {setting : Setting} {x y : ℕ} {p : Position} {a b : List Cached} (g : Gets setting x p) (h : Gets setting y p) → WasCacheAt setting g.meets.asking.before x a → WasCacheAt setting h.meets.asking.before y b → a ≡ b
one-former {setting} {x} {y} {p} {a} g h was also =
    let one = one-getting g h in
    let there : WasCacheAt setting h.meets.asking.before y a = subst (λ (q : Position). WasCacheAt setting q.before y a) one.asking (subst (λ (n : ℕ). WasCacheAt setting g.meets.asking.before n a) one.exchange was) in
    former-once there also

-- so is the answer that arrives
pub one-answer : {setting : Setting} {x y : ℕ} {p : Position} {a b : List Cached} (g : Gets setting x p) (h : Gets setting y p) → a ≡ b → answer_got a g ≡ answer_got b h
one-answer {setting} {x} {y} {p} g h former =
    let one = one-getting g h in
    λ i. answer_of setting.limits.datagram (is_get (one.asked i).code) (copied (tags_of (one.asked i)) (one.key i) (former i)) p.action.observation.now (one.message i)

-- the entry that an action obtains is unique
pub one-entry : {setting : Setting} {past : List Action} {d : Action} (o p : IsObtainedHere setting past d) → entry_here o ≡ entry_here p
one-entry o p = same-entry o.gets p.gets o.former p.former (one-former o.gets p.gets o.was_cache p.was_cache)

-- and so is its size
pub one-size : {setting : Setting} {past : List Action} {d : Action} (o p : IsObtainedHere setting past d) → size_here o ≡ size_here p
one-size o p = ap cached_size (one-entry o p)

-- ---- at two actions of one event

-- a message that is an answer for one action is the answer for the other action with the same event
abbrev meets-over : {setting : Setting} {x : ℕ} {past : List Action} {a b : Event} → b ≡ a → Meets setting x past a → Meets setting x past b
meets-over same m = record {
  asking = m.asking;
  was_asked = m.was_asked;
  asks = m.asks;
  message = m.message;
  brings = record { bytes = m.brings.bytes; came = same ∙ m.brings.came; spells = m.brings.spells; short = m.brings.short };
  matches = m.matches;
}

-- so an answer that arrives for one action arrives for the other
abbrev gets-over : {setting : Setting} {x : ℕ} {past : List Action} (d e : Action) → e.observation.event ≡ d.observation.event → e.act ≡ d.act → accepts_answer e.observation.report.outcome ≡ true → Gets setting x (here past d) → Gets setting x (here past e)
gets-over d e event act took g = record { act = act ∙ g.act; outcome = took; meets = meets-over event g.meets; bytes = g.bytes }

-- and an entry that one obtained is obtained by the other
abbrev obtained-over : (setting : Setting) (past : List Action) (d e : Action) → e.observation.event ≡ d.observation.event → e.observation.now ≡ d.observation.now → e.act ≡ d.act → accepts_answer e.observation.report.outcome ≡ true → IsObtainedHere setting past d → IsObtainedHere setting past e
obtained-over setting past d e event now act took o = record {
  exchange = o.exchange;
  gets = gets-over d e event act took o.gets;
  method = o.method;
  unchanged = o.unchanged;
  former = o.former;
  was_cache = o.was_cache;
  storable = (λ i. is_storable (answer_of setting.limits.datagram (to_get o.gets) (copied (tags_of (asked_of o.gets)) (key_asked o.gets) o.former) (now i) o.gets.meets.message)) ∙ o.storable;
}

module _ (setting : Setting) (past : List Action) (d e : Action) (event : d.observation.event ≡ e.observation.event) (now : d.observation.now ≡ e.observation.now) (act : d.act ≡ e.act) where
  -- it has the same size
  same-size : IsAnswer setting past e → (o : IsObtainedHere setting past d) (p : IsObtainedHere setting past e) → size_here o ≡ size_here p
  same-size k o p =
      let moved : size_here o ≡ size_here (obtained-over setting past d e (sym event) (sym now) (sym act) k.gets.outcome o) = λ i. cached_size (cached_here (key_asked o.gets) (answer_of setting.limits.datagram (to_get o.gets) (copied (tags_of (asked_of o.gets)) (key_asked o.gets) o.former) (now i) o.gets.meets.message).message o.gets.meets.asking past d) in
      moved ∙ one-size (obtained-over setting past d e (sym event) (sym now) (sym act) k.gets.outcome o) p

  -- it isn't both within the limit and too large
  sized : {A : Type 0} → IsAnswer setting past e → (o : IsObtainedHere setting past d) (p : IsObtainedHere setting past e) → size_here o ≤ setting.limits.cache_bytes → setting.limits.cache_bytes < size_here p → A
  sized k o p small large = absurd (let same = same-size k o p in omega (arith, small, large, same))

  -- nor too large and within the limit
  sized-other : {A : Type 0} → IsAnswer setting past e → (o : IsObtainedHere setting past d) (p : IsObtainedHere setting past e) → setting.limits.cache_bytes < size_here o → size_here p ≤ setting.limits.cache_bytes → A
  sized-other k o p large small = absurd (let same = same-size k o p in omega (arith, small, large, same))

  -- nor obtained there and not here
  here-too : IsAnswer setting past e → IsObtainedHere setting past d → IsObtainedHere setting past e
  here-too k o = obtained-over setting past d e (sym event) (sym now) (sym act) k.gets.outcome o

  there-too : IsAnswer setting past d → IsObtainedHere setting past e → IsObtainedHere setting past d
  there-too k o = obtained-over setting past e d event now act k.gets.outcome o

  -- equal answers are stored in the same way
  pub one-storing : (s t : Storing) → JustifiedBy (Answered s) setting past d → JustifiedBy (Answered t) setting past e → HaveOneMemory (Answered s) (Answered t) → s ≡ t
  one-storing Kept Kept j k one = refl
  one-storing Kept TooLarge j k one = sized k.answer j.here k.here j.small k.large
  one-storing Kept NoMemory j k one = absurd one
  one-storing Kept NotStored j k one = absurd (k.none (here-too k.answer j.here))
  one-storing TooLarge Kept j k one = sized-other k.answer j.here k.here j.large k.small
  one-storing TooLarge TooLarge j k one = refl
  one-storing TooLarge NoMemory j k one = sized-other k.answer j.here k.here j.large k.small
  one-storing TooLarge NotStored j k one = absurd (k.none (here-too k.answer j.here))
  one-storing NoMemory Kept j k one = absurd one
  one-storing NoMemory TooLarge j k one = sized k.answer j.here k.here j.small k.large
  one-storing NoMemory NoMemory j k one = refl
  one-storing NoMemory NotStored j k one = absurd (k.none (here-too k.answer j.here))
  one-storing NotStored Kept j k one = absurd (j.none (there-too j.answer k.here))
  one-storing NotStored TooLarge j k one = absurd (j.none (there-too j.answer k.here))
  one-storing NotStored NoMemory j k one = absurd (j.none (there-too j.answer k.here))
  one-storing NotStored NotStored j k one = refl
