-- The cache of a history is unique, and what holds of each entry that is kept holds of all entries.
use Rattle.std.proofs.Common.{◌≡◌, ◌≢◌, ℕ, ◌-◌, ◌&&◌, true, false, Bool, cond, nat_le, List, [], ◌∷◌, Some, Result, Ok, refl, sym, ap, ◌∙◌, subst}
use Rattle.std.specs.List.{AllByRecursion}
use Rattle.coap_message.specs.Message.{Message}
use Rattle.coap_endpoint.specs.declared.endpoint.Endpoint.{Endpoint}
use Rattle.coap_endpoint.specs.declared.target.Target.{Target}
use Rattle.coap_endpoint.proofs.Lists.{All-weaken}
use Rattle.coap_option.specs.Selection.{tags_of}
use Rattle.coap_target.specs.declared.error.TargetError.{TargetError}
use Rattle.coap_target.specs.Request.{request_target}
use Rattle.coap_store.specs.declared.key.CacheKey.{CacheKey}
use Rattle.coap_store.specs.Lists.{has_key, has_other_key, of_key, others, cut, used}
use Rattle.coap_forward.specs.Answers.{answer_of}
use Rattle.coap_forward.specs.Messages.{is_get}
use Rattle.coap_model.specs.declared.report.Outcome.{Outcome}
use Rattle.coap_model.specs.declared.report.Outcome.TheVariants.{Answered}
use Rattle.coap_model.specs.declared.report.Storing.TheVariants.{Kept}
use Rattle.coap_model.specs.Setting.{Setting}
use Rattle.coap_model.specs.Keys.{request_key}
use Rattle.coap_model.specs.History.{Action, Position, IsPositionOf, Opens, Brings, Gets}
use Rattle.coap_model.specs.Changed.{key_asked}
use Rattle.coap_model.specs.Cached.{Cached, cached_key, cached_size, cached_with, cached_here, copied, entry_got, leaves, IsCacheOf, empty, kept, too_large, hit, otherwise, WasCacheAt}
use Rattle.coap_model.proofs.MarksAndTaints.{one-getting}
use Rattle.coap_model.proofs.Lists.{find-holds, All-filter}
use Rattle.coap_model.proofs.Positions.{here, Opens-unique, one-brought}

-- ---- the cache is unique

-- an outcome that leaves the cache isn't one that moves an entry
pub clash : (o p : Outcome) → o ≡ p → leaves p ≡ false → leaves o ≡ true → ⊥
clash o p same no_leave leaving = let e : true ≡ false = sym leaving ∙ ap leaves same ∙ no_leave in cc

-- an observation doesn't have two different outcomes
pub apart : (o p q : Outcome) → p ≢ q → o ≡ p → o ≡ q → ⊥
apart o p q differ is also = differ (sym is ∙ also)

-- equal results have equal targets
same_Ok : (a b : Target) → ◌≡◌ {A = Result Target TargetError} (Ok a) (Ok b) → a ≡ b
same_Ok a b e = cc

-- the request of an event has only one key
one-key : (setting : Setting) (d : Action) (a b : Endpoint) (r s : Message) (t u : Target) → Brings setting.limits.datagram a r d.observation.event → Brings setting.limits.datagram b s d.observation.event → request_target setting.routes r ≡ Ok t → request_target setting.routes s ≡ Ok u → request_key t r ≡ request_key u s
one-key setting d a b r s t u p q e f =
    let request = (one-brought p q).1 in
    let target = same_Ok t u (sym e ∙ ap (request_target setting.routes) request ∙ f) in
    rw (request, target) refl

-- so the entry for an answer is unique
pub same-entry : {setting : Setting} {x y : ℕ} {past : List Action} {d : Action} (g : Gets setting x (here past d)) (h : Gets setting y (here past d)) (a b : List Cached) → a ≡ b → entry_got a g ≡ entry_got b h
same-entry {setting = setting} {past = past} {d = d} g h a b former =
    let one = one-getting g h in
    λ i. cached_here (one.key i) (answer_of setting.limits.datagram (is_get (one.asked i).code) (copied (tags_of (one.asked i)) (one.key i) (former i)) d.observation.now (one.message i)).message (one.asking i) past d

-- a history has at most one cache
pub cache-unique : (setting : Setting) (history : List Action) (a b : List Cached) → IsCacheOf setting history a → IsCacheOf setting history b → a ≡ b
cache-unique setting _ _ _ empty empty = refl
cache-unique setting _ _ _ (kept {past = past} {cached = xs} {former = old} d x g opening is was opens at c) (kept {cached = ys} {former = older} _ y h other also before begins from e) =
    let one = one-getting g h in
    let there = subst (λ (p : Position). IsPositionOf p.before opening) one.asking was in
    let position = Opens-unique h.meets.asking.before opening other y there before (subst (λ (n : ℕ). Opens n opening) one.exchange opens) begins in
    let former : old ≡ older = cache-unique setting opening.before old older at (subst (λ (p : Position). IsCacheOf setting p.before older) (sym position) from) in
    let rest = cache-unique setting past xs ys c e in
    λ i. cached_with setting (same-entry g h old older former i) (rest i)
cache-unique setting _ _ _ (kept d x g opening is was opens at c) (too_large _ y h also e) = absurd (apart _ _ _ (λ f. cc) is also)
cache-unique setting _ _ _ (kept d x g opening is was opens at c) (hit _ client request target entry also came to found e) = absurd (apart _ _ _ (λ f. cc) is also)
cache-unique setting _ _ _ (kept d x g opening is was opens at c) (otherwise _ leaving e) = absurd (clash _ _ is refl leaving)
cache-unique setting _ _ _ (too_large d x g is c) (kept _ y h other also before begins from e) = absurd (apart _ _ _ (λ f. cc) is also)
cache-unique setting _ _ _ (too_large {past = past} {cached = xs} d x g is c) (too_large {cached = ys} _ y h also e) =
    let one = one-getting g h in
    let rest = cache-unique setting past xs ys c e in
    λ i. others cached_key (one.key i) (rest i)
cache-unique setting _ _ _ (too_large d x g is c) (hit _ client request target entry also came to found e) = absurd (apart _ _ _ (λ f. cc) is also)
cache-unique setting _ _ _ (too_large d x g is c) (otherwise _ leaving e) = absurd (clash _ _ is refl leaving)
cache-unique setting _ _ _ (hit d client request target entry is came to found c) (kept _ y h other also before begins from e) = absurd (apart _ _ _ (λ f. cc) is also)
cache-unique setting _ _ _ (hit d client request target entry is came to found c) (too_large _ y h also e) = absurd (apart _ _ _ (λ f. cc) is also)
cache-unique setting _ _ _ (hit {past = past} {cached = xs} d client request target entry is came to found c) (hit {cached = ys} _ other asked aim again also brought at there e) =
    let key = one-key setting d client other request asked target aim came brought to at in
    let rest = cache-unique setting past xs ys c e in
    λ i. used cached_key (key i) (rest i)
cache-unique setting _ _ _ (hit d client request target entry is came to found c) (otherwise _ leaving e) = absurd (clash _ _ is refl leaving)
cache-unique setting _ _ _ (otherwise d leaving c) (kept _ y h other also before begins from e) = absurd (clash _ _ also refl leaving)
cache-unique setting _ _ _ (otherwise d leaving c) (too_large _ y h also e) = absurd (clash _ _ also refl leaving)
cache-unique setting _ _ _ (otherwise d leaving c) (hit _ client request target entry also came to found e) = absurd (clash _ _ also refl leaving)
cache-unique setting _ _ _ (otherwise {past = past} {cached = xs} d leaving c) (otherwise {cached = ys} _ also e) = cache-unique setting past xs ys c e

-- a history that has a cache had one before its newest action
pub cache-before : {setting : Setting} {d : Action} {past : List Action} {cached : List Cached} → IsCacheOf setting (d ∷ past) cached → (former : List Cached) × IsCacheOf setting past former
cache-before (kept d x gets opening is was opens at c) = (_, c)
cache-before (too_large d x gets is c) = (_, c)
cache-before (hit d client request target entry is came to found c) = (_, c)
cache-before (otherwise d leaving c) = (_, c)

-- the cache when an exchange was opened is unique
pub former-once : {setting : Setting} {past : List Action} {x : ℕ} {a b : List Cached} → WasCacheAt setting past x a → WasCacheAt setting past x b → a ≡ b
former-once {setting} {past} {x} {a} {b} p q =
    let position = Opens-unique past p.opening q.opening x p.was_opened q.was_opened p.opens q.opens in
    cache-unique setting q.opening.before a b (subst (λ (r : Position). IsCacheOf setting r.before a) position p.is_cache) q.is_cache

-- ---- what holds of each entry

-- the entries with other keys
All-others : (P : Cached → Type 0) (k : CacheKey) (cs : List Cached) → AllByRecursion P cs → AllByRecursion P (others cached_key k cs)
All-others P k cs all = All-weaken (λ c. P c × (has_other_key cached_key k c ≡ true)) P (others cached_key k cs) (λ c h. h.0) (All-filter P (has_other_key cached_key k) cs all)

-- the entries that are left after a cut
All-cut : (P : Cached → Type 0) (bytes count : ℕ) (cs : List Cached) → AllByRecursion P cs → AllByRecursion P (cut cached_size bytes count cs)
All-cut P bytes count [] all = tt
All-cut P bytes count (c ∷ cs) all = go (nat_le (cached_size c) bytes && nat_le 1 count) (All-cut P (bytes - cached_size c) (count - 1) cs all.1)
  where
    go : (b : Bool) → AllByRecursion P (cut cached_size (bytes - cached_size c) (count - 1) cs) → AllByRecursion P (cond b (c ∷ cut cached_size (bytes - cached_size c) (count - 1) cs) [])
    go true rest = (all.0, rest)
    go false rest = tt

-- the entries after one was moved to the front
All-used : (P : Cached → Type 0) (k : CacheKey) (cs : List Cached) (c : Cached) → of_key cached_key k cs ≡ Some c → AllByRecursion P cs → AllByRecursion P (used cached_key k cs)
All-used P k cs c found all = rw found ((find-holds P (has_key cached_key k) cs c all found).0, All-others P k cs all)

-- If a property holds of the entry for each answer, provided that it held of the entries when the
-- exchange was opened, and keeps holding, it holds of each entry of the cache.
pub cache-holds : (setting : Setting) (P : List Action → Cached → Type 0)
    → ((past : List Action) (d : Action) (c : Cached) → P past c → P (d ∷ past) c)
    → ((past : List Action) (d : Action) (x : ℕ) (gets : Gets setting x (here past d)) (former : List Cached) (was : WasCacheAt setting gets.meets.asking.before x former) → d.observation.report.outcome ≡ Answered Kept → AllByRecursion (P was.opening.before) former → P (d ∷ past) (entry_got former gets))
    → (history : List Action) (cached : List Cached) → IsCacheOf setting history cached → AllByRecursion (P history) cached
cache-holds setting P on new _ _ empty = tt
cache-holds setting P on new _ _ (kept {past = past} {cached = cs} {former = former} d x gets opening is was opens at c) =
    let rest = All-weaken (P past) (P (d ∷ past)) cs (on past d) (cache-holds setting P on new past cs c) in
    let old = cache-holds setting P on new opening.before former at in
    let first = new past d x gets former (record { opening = opening; was_opened = was; opens = opens; is_cache = at }) is old in
    All-cut (P (d ∷ past)) setting.limits.cache_bytes setting.limits.cache_entries (entry_got former gets ∷ others cached_key (key_asked gets) cs) (first, All-others (P (d ∷ past)) (key_asked gets) cs rest)
cache-holds setting P on new _ _ (too_large {past = past} {cached = cs} d x gets is c) =
    All-others (P (d ∷ past)) (key_asked gets) cs (All-weaken (P past) (P (d ∷ past)) cs (on past d) (cache-holds setting P on new past cs c))
cache-holds setting P on new _ _ (hit {past = past} {cached = cs} d client request target entry is came to found c) =
    All-used (P (d ∷ past)) (request_key target request) cs entry found (All-weaken (P past) (P (d ∷ past)) cs (on past d) (cache-holds setting P on new past cs c))
cache-holds setting P on new _ _ (otherwise {past = past} {cached = cs} d leaving c) =
    All-weaken (P past) (P (d ∷ past)) cs (on past d) (cache-holds setting P on new past cs c)

-- so it holds of an entry that is found in the cache
pub found-holds : (P : Cached → Type 0) (cached : List Cached) (key : CacheKey) (c : Cached) → AllByRecursion P cached → of_key cached_key key cached ≡ Some c → P c
found-holds P cached key c all found = (find-holds P (has_key cached_key key) cached c all found).0
