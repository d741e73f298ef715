use Rattle.std.proofs.Common.{◌≡◌, ◌&&◌, true, false, sym, ap, ◌∙◌}
use Rattle.std.proofs.lemmas.Bool.{and_parts, eqb-true}
use Rattle.std.specs.Prelude.{◌==◌}
use Rattle.coap_store.specs.Digested.{digested, same_digested}
use Rattle.coap_store.specs.Keys.{same_key}
use Rattle.coap_store_lru.specs.Indexing.{is_of, is_own}
use Rattle.coap_store_lru.specs.Recent.{recent_of}
use Rattle.coap_store_lru.proofs.Groups.{own_none, own_one}
use Rattle.coap_store_lru.proofs.Marks.{map-same_marks, marked_by_none}
use Rattle.coap_store_lru.proofs.lru_store.mark_of.Goals as goal

pub mark-requires-clause-own : goal.mark-requires-clause-own
mark-requires-clause-own c =
    let key = c.args.key.now in
    let secret = c.args.recent.now.secret in
    let own : is_own secret c.args.target.now key ≡ true = ap (λ s. is_own s c.args.target.now key) (sym c.secret.ensures) ∙ sym c.is_own.ensures ∙ c.if-is_own.true in
    eqb-true key.secret secret (and_parts (key.secret == secret) (is_of c.args.target.now key.key) own).0

pub returns-then-is_own-clause-marked : goal.returns-then-is_own-clause-marked
returns-then-is_own-clause-marked c =
    let key = c.args.key.now in
    let target = c.args.target.now in
    let secret = c.args.recent.now.secret in
    let own : is_own secret target key ≡ true = ap (λ s. is_own s target key) (sym c.secret.ensures) ∙ sym c.is_own.ensures ∙ c.if-is_own.true in
    let parts = and_parts (key.secret == secret) (is_of target key.key) own in
    c.mark.ensures ∙ ap (λ l. recent_of l secret) (map-same_marks (λ k. same_key k key.key) (λ k. is_of target k && same_digested (digested secret k) key) c.args.recent.now.entries (λ k. sym (own_one secret target key (eqb-true key.secret secret parts.0) parts.1 k)))

pub returns-else-is_own-clause-marked : goal.returns-else-is_own-clause-marked
returns-else-is_own-clause-marked c =
    let key = c.args.key.now in
    let target = c.args.target.now in
    let secret = c.args.recent.now.secret in
    let es = c.args.recent.now.entries in
    let other : is_own secret target key ≡ false = ap (λ s. is_own s target key) (sym c.secret.ensures) ∙ sym c.is_own.ensures ∙ c.if-is_own.false in
    ap (λ l. recent_of l secret) (marked_by_none es ∙ map-same_marks (λ k. false) (λ k. is_of target k && same_digested (digested secret k) key) es (λ k. sym (own_none secret target key other k)))
