use Rattle.std.proofs.Common.{◌≡◌, List, Option, Some, None, map, true, refl, sym, ap, subst, ◌∙◌}
use Rattle.std.specs.Map.{lookup, set_value}
use Rattle.std.specs.Prelude.{IfSome, IfNone}
use Rattle.lru.specs.LruCache.{LruCache, lru_cache}
use Rattle.coap_store.specs.declared.stored.Stored.{Stored}
use Rattle.coap_store.specs.Digested.{Digested, same_digested}
use Rattle.coap_store.specs.Entries.{Entry, entry_key}
use Rattle.coap_store.specs.Keys.{same_key}
use Rattle.coap_store.specs.Lists.{are_distinct}
use Rattle.coap_store_lru.specs.Indexing.{marked_by}
use Rattle.coap_store_lru.specs.Recent.{AreOf, Recent, recent_of, shown}
use Rattle.coap_store_lru.proofs.Marks.{marked-written, unmarked-unwritten}
use Rattle.coap_store_lru.proofs.Shown.{AreOf-written, lookup-shown, written-shown}
use Rattle.coap_store_lru.proofs.recent.Recent.mark.Goals as goal

module _ (k : Digested) (c new : LruCache Digested Stored) where
  -- what is written, if anything is
  abbrev Writes : Option Stored → Type 0
  Writes found = IfSome found (λ s. new ≡ lru_cache (set_value (same_digested k) c.entries (record s { marked = true })) c.cap) × IfNone found (new ≡ c)

  kept-of : (secret : _) (found : Option Stored) → Writes found → AreOf secret c.entries → AreOf secret new.entries × (new.cap ≡ c.cap)
  kept-of secret (Some s) writes all = (subst (λ m. AreOf secret m.entries) (sym writes.0) (AreOf-written secret (same_digested k) c.entries (record s { marked = true }) all), ap (λ m. m.cap) writes.0)
  kept-of secret None writes all = (subst (λ m. AreOf secret m.entries) (sym writes.1) all, ap (λ m. m.cap) writes.1)

  marks-of : (found : Option Stored) → lookup (same_digested k) c.entries ≡ found → Writes found → AreOf k.secret c.entries → are_distinct entry_key (map shown c.entries) ≡ true
      → map shown new.entries ≡ map (marked_by (λ j. same_key j k.key)) (map shown c.entries)
  marks-of (Some s) e writes all distinct =
      ap (λ m. map shown m.entries) writes.0
      ∙ written-shown k c.entries (record s { marked = true }) all
      ∙ marked-written k.key (map shown c.entries) s distinct (sym (lookup-shown k c.entries all) ∙ e)
  marks-of None e writes all distinct =
      ap (λ m. map shown m.entries) writes.1
      ∙ unmarked-unwritten k.key (map shown c.entries) (sym (lookup-shown k c.entries all) ∙ e)

pub invariant_of-self : goal.invariant_of-self
invariant_of-self c =
    let k = c.args.key.now in
    let old = c.self.inside.entries in
    let kept = kept-of k old c.mark.new.entries c.self.inside.secret (lookup (same_digested k) old.entries) (c.mark.ensures.found, c.mark.ensures.missing) c.self.invariant.0 in
    (kept.0, kept.1 ∙ c.self.invariant.1)

pub returns : goal.returns
returns c =
    let k = c.args.key.now in
    let old = c.self.inside.entries in
    let own : k.secret ≡ c.self.inside.secret = c.requires.own ∙ ap (λ r. r.secret) (sym c.self.view_is) in
    let all : AreOf k.secret old.entries = subst (λ t. AreOf t old.entries) (sym own) c.self.invariant.0 in
    let distinct : are_distinct entry_key (map shown old.entries) ≡ true = subst (λ (r : Recent). are_distinct entry_key r.entries ≡ true) (sym c.self.view_is) c.requires.distinct in
    rw (← c.self.view_is) (ap (λ (l : List Entry). recent_of l c.self.inside.secret) (marks-of k old c.mark.new.entries (lookup (same_digested k) old.entries) refl (c.mark.ensures.found, c.mark.ensures.missing) all distinct))
