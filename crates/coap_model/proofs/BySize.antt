-- Whether an answer is stored depends on its size; an answer that is kept comes first.
use Rattle.std.proofs.Common.{◌≡◌, inl, inr, ℕ, ◌<◌, ◌≤◌, Bool, true, false, List, [], ◌∷◌, refl, ap, ◌∙◌, subst, arith}
use Rattle.coap_option.specs.Selection.{tags_of}
use Rattle.coap_endpoint.specs.declared.target.Target.{Target}
use Rattle.coap_store.specs.Entries.{Entry}
use Rattle.coap_store.specs.Lists.{others, cut}
use Rattle.coap_store.proofs.Cuts.{cut-fits}
use Rattle.coap_forward.specs.Changes.{changed_by, concerns}
use Rattle.coap_model.specs.declared.report.Outcome.{Outcome}
use Rattle.coap_model.specs.declared.report.Outcome.TheVariants.{Answered}
use Rattle.coap_model.specs.declared.report.Storing.TheVariants.{Kept, TooLarge, NoMemory, NotStored}
use Rattle.coap_limits.specs.declared.limits.Limit.TheVariants.{CacheEntries}
use Rattle.coap_limits.specs.Limits.{AreLimits}
use Rattle.coap_model.specs.Setting.{Setting}
use Rattle.coap_model.specs.State.{State}
use Rattle.coap_model.specs.History.{Observation, Action, accepts_answer, Gets}
use Rattle.coap_model.specs.Pairs.{Pairs}
use Rattle.coap_model.specs.Changed.{asked_of, key_asked, to_get, Unchanged, IsTold}
use Rattle.coap_model.specs.Cached.{Cached, cached_key, cached_size, entry_marked, entry_of_cached, copied, entry_got, IsCacheOf, kept, too_large, hit, otherwise, WasCacheAt, StandsFirst, IsStored, IsStoreOf}
use Rattle.coap_model.specs.Justified.{IsObtainedHere, entry_here, size_here, JustifiedBy, AllJustified, IsKeptIfGrown, IsOwed, AllOwed}
use Rattle.coap_model.specs.Carries.{Carries}
use Rattle.coap_model.proofs.Positions.{here, index_below}
use Rattle.coap_model.proofs.MarksAndTaints.{told-on, told-contrary, storable-quiet}
use Rattle.coap_model.proofs.Cached.{same-entry, clash, apart}
use Rattle.coap_model.proofs.OneStoring.{one-former, one-size}
use Rattle.coap_model.proofs.OwedActions.{given_again, given_dropped, given_no_room, given_hit}

module _ (setting : Setting) (past : List Action) (d : Action) where
  -- an answer that is small enough is kept, unless memory runs out
  small-so : (o : Outcome) → JustifiedBy o setting past d → accepts_answer o ≡ true → (h : IsObtainedHere setting past d) → size_here h ≤ setting.limits.cache_bytes → IsKeptIfGrown o
  small-so (Answered Kept) j t h small = inl refl
  small-so (Answered NoMemory) j t h small = inr refl
  small-so (Answered TooLarge) j t h small = absurd (let large = j.large in let same = one-size h j.here in omega (arith, small, large, same))
  small-so (Answered NotStored) j t h small = absurd (j.none h)
  small-so _ j t h small = absurd cc

  -- an answer that is larger than the limit is too large
  large-so : (o : Outcome) → JustifiedBy o setting past d → accepts_answer o ≡ true → (h : IsObtainedHere setting past d) → setting.limits.cache_bytes < size_here h → o ≡ Answered TooLarge
  large-so (Answered Kept) j t h large = absurd (let small = j.small in let same = one-size h j.here in omega (arith, small, large, same))
  large-so (Answered NoMemory) j t h large = absurd (let small = j.small in let same = one-size h j.here in omega (arith, small, large, same))
  large-so (Answered TooLarge) j t h large = refl
  large-so (Answered NotStored) j t h large = absurd (j.none h)
  large-so _ j t h large = absurd cc

  -- an answer that wasn't obtained isn't stored
  other-so : (o : Outcome) → JustifiedBy o setting past d → accepts_answer o ≡ true → ¬ IsObtainedHere setting past d → o ≡ Answered NotStored
  other-so (Answered Kept) j t none = absurd (none j.here)
  other-so (Answered NoMemory) j t none = absurd (none j.here)
  other-so (Answered TooLarge) j t none = absurd (none j.here)
  other-so (Answered NotStored) j t none = refl
  other-so _ j t none = absurd cc

  -- a justified action did what the cache owed
  pub owed-by : JustifiedBy d.observation.report.outcome setting past d → IsOwed setting past d
  owed-by j =
      let o = d.observation.report.outcome in
      record {
        again = λ source m known. given_again o setting past d source m known j;
        no_room = λ client request r. given_dropped o setting past d client request j r;
        no_answer_room = λ exchange awaited. given_no_room o setting past d exchange j awaited;
        hit = λ client request key cached entry r new. given_hit o setting past d client request j r new key cached entry;
        small = λ h. small-so o j h.gets.outcome h;
        large = λ h. large-so o j h.gets.outcome h;
        other = other-so o j;
      }

-- all actions of a justified history did
pub all-owed : (setting : Setting) (actions : List Action) → AllJustified setting actions → AllOwed setting actions
all-owed setting [] all = tt
all-owed setting (d ∷ past) all = (owed-by setting past d all.0, all-owed setting past all.1)

-- ---- what is kept comes first

-- cutting a list keeps its first element, if that fits
first-of-cut : (bytes count : ℕ) (x : Cached) (xs : List Cached) → cached_size x ≤ bytes → 1 ≤ count → StandsFirst x (cut cached_size bytes count (x ∷ xs))
first-of-cut bytes count x xs small some = rw (cut-fits cached_size bytes count x xs small some) refl

-- an answer that is kept comes first in the cache
pub kept-first : (setting : Setting) (past : List Action) (d : Action) (cached : List Cached) → 1 ≤ setting.limits.cache_entries → JustifiedBy d.observation.report.outcome setting past d → d.observation.report.outcome ≡ Answered Kept → (o : IsObtainedHere setting past d) → IsCacheOf setting (d ∷ past) cached
    → StandsFirst (entry_here o) cached
kept-first setting past d _ some j is o (kept {cached = cs} {former = former} _ x gets opening also was opens at c) =
    let new = entry_got former gets in
    let there : WasCacheAt setting gets.meets.asking.before x former = record { opening = opening; was_opened = was; opens = opens; is_cache = at } in
    let entry : new ≡ entry_here o = same-entry gets o.gets former o.former (one-former gets o.gets there o.was_cache) in
    let justified = subst (λ (p : Outcome). JustifiedBy p setting past d) is j in
    let size : cached_size new ≡ size_here justified.here = ap cached_size entry ∙ one-size o justified.here in
    let small = justified.small in
    let first = first-of-cut setting.limits.cache_bytes setting.limits.cache_entries new (others cached_key (key_asked gets) cs) (omega (arith, size, small)) some in
    subst (λ (x : Cached). StandsFirst x (cut cached_size setting.limits.cache_bytes setting.limits.cache_entries (new ∷ others cached_key (key_asked gets) cs))) entry first
kept-first setting past d _ some j is o (too_large _ x gets also c) = absurd (apart _ _ _ (λ f. cc) is also)
kept-first setting past d _ some j is o (hit _ client request target entry also came to found c) = absurd (apart _ _ _ (λ f. cc) is also)
kept-first setting past d _ some j is o (otherwise _ leaving c) = absurd (clash _ _ is refl leaving)

-- the first entry of the store corresponds to this entry
pub record FirstStored (setting : Setting) (history : List Action) (c : Cached) (store : List Entry) : Type 0 where
  pub stored : Entry
  pub is_first : StandsFirst stored store
  pub stored_is : IsStored setting history stored c

first-stored : (setting : Setting) (history : List Action) (store : List Entry) (cs : List Cached) (c : Cached) → Pairs (IsStored setting history) store cs → StandsFirst c cs → FirstStored setting history c store
first-stored setting history [] [] c each first = absurd first
first-stored setting history [] (x ∷ xs) c each first = absurd each
first-stored setting history (s ∷ ss) [] c each first = absurd first
first-stored setting history (s ∷ ss) (x ∷ xs) c each first = record { stored = s; is_first = refl; stored_is = subst (IsStored setting history s) first each.0 }

-- the stored entry of an answer that is kept isn't marked
newest-unmarked : (setting : Setting) (past : List Action) (d : Action) (o : IsObtainedHere setting past d) (stored : Entry) → IsStored setting (d ∷ past) stored (entry_here o) → stored ≡ entry_of_cached (entry_here o)
newest-unmarked setting past d o stored is = is.same ∙ ap (λ (b : Bool). entry_marked b (entry_here o)) (go stored.1.marked is.told)
  where
    gets : Gets setting o.exchange (here past d)
    gets = o.gets

    target : Target
    target = (key_asked gets).target

    quiet : concerns (changed_by target gets.meets.message) target ≡ false
    quiet = storable-quiet setting.limits.datagram d.observation.now (to_get gets) (copied (tags_of (asked_of gets)) (key_asked gets) o.former) gets.meets.message target target o.storable

    unchanged : Unchanged setting target gets.meets.asking (d ∷ past)
    unchanged = subst (λ (b : Bool). IsTold b setting target gets.meets.asking (d ∷ past)) quiet (told-on false target gets.meets.asking gets (index_below past gets.meets.asking gets.meets.was_asked) o.unchanged)

    go : (b : Bool) → IsTold b setting target gets.meets.asking (d ∷ past) → b ≡ false
    go false t = refl
    go true t = absurd (told-contrary gets.meets.asking unchanged t)

-- and it comes first in the store of a proxy
pub stored-first : (w : State) (history : List Observation) (c : Carries history w) (past : List Action) (d : Action) → AreLimits w.setting.limits → c.actions ≡ d ∷ past → d.observation.report.outcome ≡ Answered Kept → (o : IsObtainedHere w.setting past d) → StandsFirst (entry_of_cached (entry_here o)) w.store
stored-first w history c past d limits actions is o =
    let store = subst (λ (ds : List Action). IsStoreOf w.setting ds w.store) actions c.bears.store in
    let all = subst (λ (ds : List Action). AllJustified w.setting ds) actions c.bears.past in
    let some = (limits CacheEntries).0 in
    let first = first-stored w.setting (d ∷ past) w.store store.cached (entry_here o) store.each (kept-first w.setting past d store.cached some all.0 is o store.is_cache) in
    subst (λ (s : Entry). StandsFirst s w.store) (newest-unmarked w.setting past d o first.stored first.stored_is) first.is_first
