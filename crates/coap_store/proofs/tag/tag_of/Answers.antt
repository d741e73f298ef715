use Rattle.std.proofs.Common.{sym, ap, ◌∙◌}
use Rattle.coap_message.specs.OptRef.{seen}
use Rattle.coap_store.proofs.Tags.{first_tag, first_tag-yes, first_tag-no, tag_of-first}
use Rattle.coap_store.proofs.tag.tag_of.Goals as goal

pub returns-then-recognised-clause-value : goal.returns-then-recognised-clause-value
returns-then-recognised-clause-value c =
    sym (tag_of-first c.args.options.now ∙ c.loop-option.invariant
    ∙ first_tag-yes _ _ (seen c.in-Some.option) c.in-Some.ensures.steps c.if-option-eq-ETAG.true (sym c.recognised.ensures ∙ c.if-recognised.true))

pub returns-then-option-eq-ETAG-clause-value : goal.returns-then-option-eq-ETAG-clause-value
returns-then-option-eq-ETAG-clause-value c =
    sym (tag_of-first c.args.options.now ∙ c.loop-option.invariant
    ∙ first_tag-no _ _ (seen c.in-Some.option) c.in-Some.ensures.steps c.if-option-eq-ETAG.true (sym c.recognised.ensures ∙ c.if-recognised.false))

pub returns-clause-value : goal.returns-clause-value
returns-clause-value c = sym (tag_of-first c.args.options.now ∙ c.loop-option.invariant ∙ ap first_tag c.in-None.ensures.steps.0)
