use Rattle.std.proofs.Common.{◌≡◌, ◌∷◌, [], ◌++◌, ap, ◌∙◌}
use Rattle.coap_message.specs.OptRef.{seen}
use Rattle.coap_message.proofs.Counting.{last_number-push}
use Rattle.coap_store.specs.Renewing.{above, below}
use Rattle.coap_store.proofs.Renewals.{last-before_new, older-above, older-above-in_order, older-from, rest-in_order, updated-step}
use Rattle.coap_store.proofs.updating.updated.Goals as goal

pub push-requires-clause-in_order : goal.push-requires-clause-in_order
push-requires-clause-in_order c =
    let i = c.loop-option.invariant in
    rw c.in_ok-left.ensures.pushed (last-before_new _ _ c.loop-option.left (seen c.in-Some.option) c.in-Some.ensures.steps c.loop-option.list i.newer_in_order i.older_in_order)

pub above-left-requires : goal.above-left-requires
above-left-requires c =
    let i = c.loop-option.invariant in
    rw c.in_ok-left.ensures.rest (older-from _ _ c.loop-option.left (seen c.in-Some.option) c.in-Some.ensures.steps c.loop-option.list i.newer_in_order i.older_in_order)

pub loop-option-preserved : goal.loop-option-preserved
loop-option-preserved c =
    let i = c.loop-option.invariant in
    let x = seen c.in-Some.option in
    let list = c.loop-option.list in
    let older = c.loop-option.left in
    let steps = c.in-Some.ensures.steps in
    let pushed : c.push.new.self ≡ (list ++ below x.number older) ++ x ∷ [] = c.in_ok-push.ensures.ok ∙ ap (λ l. l ++ x ∷ []) c.in_ok-left.ensures.pushed in
    let left : c.above-left.result ≡ above x.number older = c.above-left.ensures ∙ ap (above x.number) c.in_ok-left.ensures.rest ∙ older-above _ _ older x steps list i.newer_in_order i.older_in_order in
    rw (left, pushed, last_number-push 0 (list ++ below x.number older) x) (record {
      newer_in_order = rest-in_order _ _ x steps _ i.newer_in_order;
      older_in_order = older-above-in_order _ _ older x steps list i.newer_in_order i.older_in_order;
      updated_so_far = i.updated_so_far ∙ updated-step _ _ older x steps list i.newer_in_order i.older_in_order;
    })
