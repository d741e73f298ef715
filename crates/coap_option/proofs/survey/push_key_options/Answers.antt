use Rattle.std.proofs.Common.{sym}
use Rattle.std.specs.Prelude.{◌&&◌, not}
use Rattle.coap_option.proofs.Picking.{on_err}
use Rattle.coap_option.proofs.Surveying.{key-first, key-more, key-some}
use Rattle.coap_option.proofs.survey.push_key_options.Goals as goal

pub loop-option-init : goal.loop-option-init
loop-option-init c =
    let options = c.options-option-items.ensures in
    rw (c.into_iter-option-iterator.ensures.into_iter_gives, options.list, c.requires.empty) (key-first c.args.request.now c.requires.screened options.in_order)

pub returns-in_err-push-clause-err : goal.returns-in_err-push-clause-err
returns-in_err-push-clause-err c =
    let on = rw c.code-code.ensures.exact at c.if-is_forwarded.ensures in
    let kept = c.if-not-is_no_cache_key.ensures in
    on_err c.from_residual.result (key-some c.args.request.now _ _ _ _ c.in-Some.ensures.steps c.loop-option.invariant (sym (λ i. on i && not (kept i))))

pub loop-option-preserved-then-not-is_no_cache_key : goal.loop-option-preserved-then-not-is_no_cache_key
loop-option-preserved-then-not-is_no_cache_key c =
    let on = rw c.code-code.ensures.exact at c.if-is_forwarded.ensures in
    let kept = c.if-not-is_no_cache_key.ensures in
    rw c.in_ok-push.ensures.ok (key-more c.args.request.now _ _ _ _ c.in-Some.ensures.steps c.loop-option.invariant (sym (λ i. on i && not (kept i))))
