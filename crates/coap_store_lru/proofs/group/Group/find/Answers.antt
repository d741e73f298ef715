use Rattle.std.proofs.Common.{◌≡◌, ◌||◌, false, sym, ap, ◌∙◌}
use Rattle.coap_store.specs.Digested.{digested, same_digested}
use Rattle.coap_store.specs.DigestedAlike.{same_digested-only}
use Rattle.coap_store_lru.specs.declared.group.Group.{Group}
use Rattle.coap_store_lru.specs.Indexing.{has}
use Rattle.coap_store_lru.proofs.Groups.{same_digested-flips}
use Rattle.coap_store_lru.proofs.group.Group.find.Goals as goal

pub returns-then-is_equal-clause-found : goal.returns-then-is_equal-clause-found
returns-then-is_equal-clause-found g c =
    same_digested-only c.in-One.only (digested c.args.secret c.args.key.now) (sym c.is_equal.ensures ∙ c.if-is_equal.true)

pub returns-else-is_equal-clause-missing : goal.returns-else-is_equal-clause-missing
returns-else-is_equal-clause-missing g c =
    let d = digested c.args.secret c.args.key.now in
    let other : same_digested d c.in-One.only ≡ false = same_digested-flips d c.in-One.only ∙ sym c.is_equal.ensures ∙ c.if-is_equal.false in
    ap (λ (group : Group _ _). has group d) c.in-One.is ∙ ap (λ b. b || false) other
