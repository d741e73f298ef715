use Rattle.std.proofs.Common.{sym, ap, ◌∙◌}
use Rattle.coap_store.specs.Keys.{same_key}
use Rattle.coap_store_lru.proofs.Recency.{first-used}
use Rattle.coap_store_lru.proofs.lru_store.is_first.Goals as goal

pub returns-in-Some : goal.returns-in-Some
returns-in-Some c =
    λ yes. first-used c.args.key.now c.args.recent.now.entries (c.in-Some.first.now.key, c.in-Some.field-0-1.now) c.requires (sym c.in-Some.ensures.entry) (ap (λ k. same_key k c.args.key.now) (sym c.key.ensures) ∙ sym c.eq.ensures ∙ yes)
