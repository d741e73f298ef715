-- Histories of no proxy that keeps its promise.
use Rattle.std.specs.Prelude.{Bool, true, false, if◌then◌else◌, None}
use Rattle.coap_endpoint.specs.Endpoint.{same_endpoint}
use Rattle.coap_store.specs.declared.key.CacheKey.{CacheKey}
use Rattle.coap_store.specs.Lists.{of_key}
use Rattle.coap_model.specs.Cached.{Cached, cached_key, empty, hit, kept, otherwise, too_large, IsCacheOf}
use Rattle.coap_model.specs.Keys.{request_key}
use Rattle.coap_model.proofs.Cached.{cache-unique}
use Rattle.std.proofs.Common.{◌≡◌, inl, ℕ, ◌≤◌, List, [], ◌∷◌, length, get_or, Some, refl, sym, ap, ◌∙◌, subst, arith}
use Rattle.coap_message.specs.Message.{Message}
use Rattle.coap_message.specs.Reading.{read_message, body_at, options_within, option_at, extended}
use Rattle.coap_message.specs.Spelling.{Spells}
use Rattle.coap_message.proofs.WholeMessages.{read_is}
use Rattle.coap_message.specs.declared.kind.Kind.TheVariants.{Con}
use Rattle.coap_endpoint.specs.declared.endpoint.Endpoint.{Endpoint}
use Rattle.coap_model.specs.declared.report.Outcome.TheVariants.{Hit}
use Rattle.coap_model.specs.Duplicates.{Repeats}
use Rattle.coap_model.specs.Examples.{client}
use Rattle.coap_model.specs.Forged.{opened_con, setting}
use Rattle.coap_model.specs.ForgedHits.{reply}
use Rattle.coap_model.specs.History.{Action, Observation, IsPositionOf, Position, told_by}
use Rattle.coap_model.specs.Justified.{Comes}
use Rattle.coap_model.specs.Setting.{Setting}
use Rattle.coap_model.specs.State.{State}
use Rattle.coap_model.specs.Word.{IsCacheWithin, IsWithin, IsFromCache, IsRepliedAgain, KeepsItsWord}
use Rattle.coap_model.specs.WordExamples.{again, con_read}
use Rattle.coap_model.proofs.CacheExamples.{are-bytes}
use Rattle.coap_model.proofs.Positions.{here}
use Rattle.test_promises.specs.Promises.{acknowledges_another, begins_with_a_hit, only_a_hit, IsOtherwiseWithin}

-- one of the observations of a history
abbrev nth : ℕ → List Observation → Observation
nth n es = get_or es n opened_con.observation

-- a history doesn't begin with a reply from the cache
pub no_hit : (w : State) → ¬ KeepsItsWord begins_with_a_hit w
no_hit w word = go word.actions word.told word.from_cache
  where
    go : (actions : List Action) → told_by actions ≡ begins_with_a_hit → ((p : Position) → IsPositionOf actions p → p.action.observation.report.outcome ≡ Hit → IsFromCache w.setting p.before p.action.observation) → ⊥
    go [] told hits = absurd (let few = ap (λ (es : List Observation). length es) told in omega (arith, few))
    go (d ∷ []) told hits =
        let hit : d.observation.report.outcome ≡ Hit = ap (λ (es : List Observation). (nth 0 es).report.outcome) told in
        (hits (here [] d) (inl refl) hit).received.was_got
    go (d ∷ e ∷ more) told hits = absurd (let few = ap (λ (es : List Observation). length es) told in omega (arith, few))

-- the Confirmable request arrives
con_spelled : Spells (0x40 ∷ 1 ∷ 0 ∷ 7 ∷ 0xB1 ∷ 0x74 ∷ []) con_read
unfolding read_message body_at options_within option_at extended
con_spelled = read_is (0x40 ∷ 1 ∷ 0 ∷ 7 ∷ 0xB1 ∷ 0x74 ∷ []) con_read (are-bytes (0x40 ∷ 1 ∷ 0 ∷ 7 ∷ 0xB1 ∷ 0x74 ∷ []) refl) refl

con_comes : (chosen : Setting) → 6 ≤ chosen.limits.datagram → Comes chosen (client 1) con_read opened_con.observation.event
con_comes chosen long = record { brings = record { bytes = 0x40 ∷ 1 ∷ 0 ∷ 7 ∷ 0xB1 ∷ 0x74 ∷ []; came = refl; spells = con_spelled; short = long }; recorded = refl }

-- the one after half a second repeats it
con_repeats : (d : Action) → d.observation ≡ opened_con.observation → Repeats 500 (client 1) con_read (here [] d)
con_repeats d is = subst (λ (e : Observation). Repeats 500 (client 1) con_read (here [] (record { observation = e; act = d.act }))) (sym is) (record {
  bytes = 0x40 ∷ 1 ∷ 0 ∷ 7 ∷ 0xB1 ∷ 0x74 ∷ [];
  former = record { kind = Con; code = con_read.code; id = 7 };
  came = refl;
  head = refl;
  kind = refl;
  id = refl;
  remembered = refl;
  alive = omega arith;
})

-- and gets an acknowledgement with the id 7
pub no_other_acknowledgement : (w : State) → 6 ≤ w.setting.limits.datagram → ¬ KeepsItsWord acknowledges_another w
no_other_acknowledgement w long word = go word.actions word.told word.duplicates
  where
    go : (actions : List Action) → told_by actions ≡ acknowledges_another → ((p former : Position) (source : Endpoint) (m : Message) → IsPositionOf actions p → IsPositionOf p.before former → Comes w.setting source m p.action.observation.event → Repeats p.action.observation.now source m former → IsRepliedAgain source m former p.action.observation) → ⊥
    go [] told duplicates = absurd (let few = ap (λ (es : List Observation). length es) told in omega (arith, few))
    go (d ∷ []) told duplicates = absurd (let few = ap (λ (es : List Observation). length es) told in omega (arith, few))
    go (d ∷ e ∷ []) told duplicates =
        let later : d.observation ≡ again (Some (client 1)) (0x60 ∷ 0 ∷ 0 ∷ 8 ∷ []) = ap (nth 0) told in
        let first : e.observation ≡ opened_con.observation = ap (nth 1) told in
        let comes : Comes w.setting (client 1) con_read d.observation.event = subst (λ (x : Observation). Comes w.setting (client 1) con_read x.event) (sym later) (con_comes w.setting long) in
        let repeats : Repeats d.observation.now (client 1) con_read (here [] e) = subst (λ (x : Observation). Repeats x.now (client 1) con_read (here [] e)) (sym later) (con_repeats e first) in
        let told_again = (duplicates (here (e ∷ []) d) (here [] e) (client 1) con_read (inl refl) (inl refl) comes repeats).again in
        let id : 8 ≡ 7 = sym (ap (λ (x : Observation). get_or x.bytes 3 0) later) ∙ ap (λ (l : List ℕ). get_or l 3 0) told_again.1 ∙ ap (λ (x : Observation). get_or x.bytes 3 0) first in
        omega (arith, id)
    go (d ∷ e ∷ f ∷ more) told duplicates = absurd (let few = ap (λ (es : List Observation). length es) told in omega (arith, few))

-- ---- a history without a cache

-- nothing is found in the cache of an empty history
none-found : (cached : List Cached) (key : CacheKey) (entry : Cached) → IsCacheOf setting [] cached → of_key cached_key key cached ≡ Some entry → ⊥
none-found cached key entry cache found = absurd (let e : None ≡ Some entry = subst (λ (cs : List Cached). of_key cached_key key cs ≡ Some entry) (cache-unique setting [] cached [] cache empty) found in cc)

-- so a history that begins with a hit has no cache
no-cache : (cached : List Cached) → ¬ IsCacheOf setting (reply 25 9 ∷ []) cached
no-cache _ (kept _ x gets opening is was opens former now) = absurd cc
no-cache _ (too_large _ x gets is cache) = absurd cc
no-cache _ (hit {cached = cached} _ client request target entry is brings aims found cache) = none-found cached (request_key target request) entry cache found
no-cache _ (otherwise _ is cache) = absurd cc

-- and isn't within limits
pub not_within : ¬ IsWithin setting only_a_hit
not_within w = no-cache w.cache.cached w.cache.is_cache

-- though it is within the other limits
pub otherwise_within : IsOtherwiseWithin only_a_hit
otherwise_within = record {
  exchanges = omega arith;
  waiters = omega arith;
  con_records = omega arith;
  non_records = omega arith;
  client_exchanges = λ from. omega arith;
  client_waiters = λ from. omega arith;
  client_con_records = λ from. omega arith;
  client_non_records = λ from. one-from _ (same_endpoint (client 4) from);
}
  where
    one-from : {X : Type 0} (x : X) (b : Bool) → length (if b then x ∷ [] else []) ≤ 4096
    one-from x true = omega arith
    one-from x false = omega arith

-- which are all that a cache within its limits leaves
pub within-whole : (history : List Action) → IsOtherwiseWithin history → IsCacheWithin setting history → IsWithin setting history
within-whole history is cache = record {
  exchanges = is.exchanges;
  waiters = is.waiters;
  con_records = is.con_records;
  non_records = is.non_records;
  client_exchanges = is.client_exchanges;
  client_waiters = is.client_waiters;
  client_con_records = is.client_con_records;
  client_non_records = is.client_non_records;
  cache = cache;
}
