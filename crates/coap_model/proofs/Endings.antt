-- The kept responses, and the answers of exchanges, can be sent to clients.
use Rattle.std.proofs.Common.{◌≡◌, ℕ, List, [], ◌∷◌, Option, Some, None, refl, sym, subst}
use Rattle.std.specs.Prelude.{option_map, IfSome}
use Rattle.std.specs.List.{AllByRecursion}
use Rattle.coap_option.specs.Selection.{tags_of}
use Rattle.coap_store.specs.declared.key.CacheKey.{CacheKey}
use Rattle.coap_store.specs.declared.answer.Answer.{Answer}
use Rattle.coap_store.specs.Lists.{of_key}
use Rattle.coap_model.specs.Setting.{Setting}
use Rattle.coap_model.specs.History.{Action, Position, Gets}
use Rattle.coap_model.specs.Changed.{asked_of, key_asked, to_get}
use Rattle.coap_model.specs.Cached.{Cached, cached_key, kept_for, copied, answer_got, IsCacheOf}
use Rattle.coap_model.specs.Justified.{EndsWith, got, given_up}
use Rattle.coap_model.proofs.Cached.{cache-holds, found-holds}
use Rattle.coap_model.proofs.ShownResponses.{IsHoldable, answer-holdable, matches-response, timeout-is}

-- the response that is kept for a key can be sent, if all kept responses can
pub kept-holdable : (setting : Setting) (key : CacheKey) (cached : List Cached) → AllByRecursion (λ c. IsHoldable setting.limits.datagram c.response) cached → IfSome (kept_for key cached) (IsHoldable setting.limits.datagram)
kept-holdable setting key cached all = go (of_key cached_key key cached) refl
  where
    go : (o : Option Cached) → of_key cached_key key cached ≡ o → IfSome (option_map {T = Cached} (λ c. c.response) o) (IsHoldable setting.limits.datagram)
    go None e = tt
    go (Some c) e = found-holds (λ d. IsHoldable setting.limits.datagram d.response) cached key c all e

-- so can the one that a request may renew
copied-holdable : (setting : Setting) (tags : List (List ℕ)) (key : CacheKey) (former : List Cached) → AllByRecursion (λ c. IsHoldable setting.limits.datagram c.response) former → IfSome (copied tags key former) (IsHoldable setting.limits.datagram)
copied-holdable setting [] key former all = tt
copied-holdable setting (tag ∷ tags) key former all = kept-holdable setting key former all

-- and the answer that arrives
got-holdable : (setting : Setting) (x : ℕ) (p : Position) (gets : Gets setting x p) (former : List Cached) → AllByRecursion (λ c. IsHoldable setting.limits.datagram c.response) former → IsHoldable setting.limits.datagram (answer_got former gets).message
got-holdable setting x p gets former all =
    let m = gets.meets in
    answer-holdable setting.limits.datagram p.action.observation.now (to_get gets) (copied (tags_of (asked_of gets)) (key_asked gets) former) m.brings.bytes m.message gets.bytes m.brings.spells (matches-response m.matches) (copied-holdable setting (tags_of (asked_of gets)) (key_asked gets) former all)

-- all responses of a cache can be sent
pub cache-holdable : (setting : Setting) (history : List Action) (cached : List Cached) → IsCacheOf setting history cached → AllByRecursion (λ c. IsHoldable setting.limits.datagram c.response) cached
cache-holdable setting history cached is =
    cache-holds setting (λ past c. IsHoldable setting.limits.datagram c.response) (λ past d c holdable. holdable)
    (λ past d x gets former was kept old. got-holdable setting x (record { before = past; action = d }) gets former old)
    history cached is

-- the answer with which an exchange ends can be sent
pub ending-holdable : (setting : Setting) (x : ℕ) (key : CacheKey) (p : Position) (a : Answer) → EndsWith setting x key p a → IsHoldable setting.limits.datagram a.message
ending-holdable setting x key p a (got gets former was asked is) =
    subst (λ (b : Answer). IsHoldable setting.limits.datagram b.message) (sym is) (got-holdable setting x p gets former (cache-holdable setting was.opening.before former was.is_cache))
ending-holdable setting x key p a (given_up gives is) = subst (λ (b : Answer). IsHoldable setting.limits.datagram b.message) (sym is) (timeout-is setting.limits.datagram)
