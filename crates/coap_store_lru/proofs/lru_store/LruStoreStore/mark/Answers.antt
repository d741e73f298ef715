use Rattle.std.proofs.Common.{◌≡◌, ◌&&◌, count_by, false, [], Some, map, length, sym, ap, subst, arith, ◌∙◌}
use Rattle.coap_store.specs.declared.key.CacheKey.{CacheKey}
use Rattle.coap_store.specs.Digested.{digested}
use Rattle.coap_store.specs.Entries.{marked}
use Rattle.coap_store.specs.Digests.{digest_of_target}
use Rattle.coap_store_lru.specs.Indexing.{AreThoseOf, has, in_group, is_indexed, is_of, is_own, keys_in}
use Rattle.coap_store_lru.proofs.Groups.{and_none, distinct-none, in_group-found, length-group, map-marked_group, none-in_group}
use Rattle.coap_store.proofs.Held.{map-length}
use Rattle.coap_store_lru.proofs.Kept.{AreThoseOf-marked}
use Rattle.coap_store_lru.proofs.Marks.{map-same_marks, marked_by_none}
use Rattle.coap_store_lru.proofs.lru_store.LruStoreStore.mark.Goals as goal

pub invariant_of-self : goal.invariant_of-self
invariant_of-self g c =
    let s = c.args.self.now in
    let t = c.args.target.now in
    let es = s.recent.entries in
    let at = digest_of_target s.index.secret t in
    let held = c.in-Some.group.now in
    let group : (k : CacheKey) → (is_of t k && has held (digested s.recent.secret k)) ≡ (is_of t k && in_group s.index.groups at (digested s.index.secret k)) = λ k. ap (λ b. is_of t k && b) (in_group-found s.index.groups at (Some held) c.in-Some.ensures (digested s.recent.secret k) ∙ ap (λ n. in_group s.index.groups at (digested n k)) s.hashed) in
    let are : c.mark_group.new.recent.entries ≡ map (marked t) es = ap (λ m. m.entries) c.mark_group.ensures.marked ∙ map-same_marks (λ k. is_of t k && has held (digested s.recent.secret k)) (λ k. is_of t k && in_group s.index.groups at (digested s.index.secret k)) es group ∙ map-marked_group s.index.secret s.index.groups es t s.are_those.indexed_are in
    record {
      are_those = subst (λ l. AreThoseOf l s.total (is_indexed s.index.secret s.index.groups)) (sym are) (AreThoseOf-marked es s.total (is_indexed s.index.secret s.index.groups) s.are_those t);
      hashed = ap (λ m. m.secret) c.mark_group.ensures.marked ∙ s.hashed;
      within_bytes = s.within_bytes;
      within_entries = omega (arith, s.within_entries, ap length are, map-length (marked t) es);
      small = s.small;
    }

pub returns-in-Some-clause-counted : goal.returns-in-Some-clause-counted
returns-in-Some-clause-counted g c =
    let s = c.args.self.now in
    let t = c.args.target.now in
    let held = c.in-Some.group.now in
    c.mark_group.ensures.counted ∙ ap (λ n. count_by (is_own n t) (keys_in held)) s.hashed ∙ length-group s.index.secret s.index.groups s.recent.entries t s.are_those.indexed_are (keys_in held) s.are_those.distinct c.mark_group.ensures.distinct
    (in_group-found s.index.groups (digest_of_target s.index.secret t) (Some held) c.in-Some.ensures)

pub returns-in-Some-clause-marked : goal.returns-in-Some-clause-marked
returns-in-Some-clause-marked g c =
    let s = c.args.self.now in
    let t = c.args.target.now in
    let es = s.recent.entries in
    let at = digest_of_target s.index.secret t in
    let held = c.in-Some.group.now in
    let group : (k : CacheKey) → (is_of t k && has held (digested s.recent.secret k)) ≡ (is_of t k && in_group s.index.groups at (digested s.index.secret k)) = λ k. ap (λ b. is_of t k && b) (in_group-found s.index.groups at (Some held) c.in-Some.ensures (digested s.recent.secret k) ∙ ap (λ n. in_group s.index.groups at (digested n k)) s.hashed) in
    ap (λ m. m.entries) c.mark_group.ensures.marked ∙ map-same_marks (λ k. is_of t k && has held (digested s.recent.secret k)) (λ k. is_of t k && in_group s.index.groups at (digested s.index.secret k)) es group ∙ map-marked_group s.index.secret s.index.groups es t s.are_those.indexed_are

pub returns-in-None-clause-counted : goal.returns-in-None-clause-counted
returns-in-None-clause-counted g c =
    let s = c.args.self.now in
    let t = c.args.target.now in
    length-group s.index.secret s.index.groups s.recent.entries t s.are_those.indexed_are [] s.are_those.distinct distinct-none (λ k. sym (none-in_group s.index.groups (digest_of_target s.index.secret t) (sym c.in-None.ensures) k))

pub returns-in-None-clause-marked : goal.returns-in-None-clause-marked
returns-in-None-clause-marked g c =
    let s = c.args.self.now in
    let t = c.args.target.now in
    let es = s.recent.entries in
    let at = digest_of_target s.index.secret t in
    marked_by_none es
    ∙ map-same_marks (λ k. false) (λ k. is_of t k && in_group s.index.groups at (digested s.index.secret k)) es (λ k. sym (ap (λ b. is_of t k && b) (none-in_group s.index.groups at (sym c.in-None.ensures) (digested s.index.secret k)) ∙ and_none (is_of t k)))
    ∙ map-marked_group s.index.secret s.index.groups es t s.are_those.indexed_are
