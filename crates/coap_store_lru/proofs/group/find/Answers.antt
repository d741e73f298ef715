use Rattle.std.proofs.Common.{◌≡◌, ◌||◌, false, List, ◌∷◌, sym, ap, ◌∙◌}
use Rattle.std.specs.List.{list_any}
use Rattle.coap_store.specs.Digested.{Digested, digested, same_digested}
use Rattle.coap_store.specs.DigestedAlike.{same_digested-only}
use Rattle.coap_store_lru.proofs.Groups.{same_digested-flips}
use Rattle.coap_store_lru.proofs.group.find.Goals as goal

pub returns-then-is_equal-clause-found : goal.returns-then-is_equal-clause-found
returns-then-is_equal-clause-found g c =
    same_digested-only c.in-Some.own.now (digested c.args.secret c.args.key.now) (sym c.is_equal.ensures ∙ c.if-is_equal.true)

pub loop-own-preserved : goal.loop-own-preserved
loop-own-preserved g c =
    let d = digested c.args.secret c.args.key.now in
    let other : same_digested d c.in-Some.own.now ≡ false = same_digested-flips d c.in-Some.own.now ∙ sym c.is_equal.ensures ∙ c.if-is_equal.false in
    let passed : list_any (same_digested d) (c.in-Some.own.now ∷ c.next.new.self) ≡ list_any (same_digested d) c.next.new.self = ap (λ b. b || list_any (same_digested d) c.next.new.self) other in
    sym passed ∙ ap (λ (l : List Digested). list_any (same_digested d) l) (sym c.in-Some.ensures.steps) ∙ c.loop-own.invariant
