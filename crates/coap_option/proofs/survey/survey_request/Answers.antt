use Rattle.std.proofs.Common.{List, refl, ap, arith, option_map, find}
use Rattle.coap_option.specs.declared.side.Side.TheVariants.{Request}
use Rattle.coap_option.specs.Places.{PlacedOption}
use Rattle.coap_option.specs.Screening.{is_refused}
use Rattle.coap_option.specs.Survey.{of_none, with_all}
use Rattle.coap_option.proofs.Passing.{places-after}
use Rattle.coap_option.proofs.Surveying.{surveyed-all}
use Rattle.coap_option.proofs.survey.survey_request.Goals as goal

pub loop-option-init : goal.loop-option-init
loop-option-init c =
    let options = c.options-option-items.ensures in
    let after = places-after c.args.request.now.options options.in_order in
    rw (c.into_iter-option-iterator.ensures.into_iter_gives, options.list, c.new-run.ensures, c.of_none-survey.ensures)
    (record {
      surveyed = ap (with_all c.args.request.now.code of_none) after;
      screened = ap (λ (ps : List PlacedOption). option_map (λ p. p.option.number) (find (is_refused Request) ps)) after;
      at = record { in_order = options.in_order; within = omega (arith, options.few) };
      row = refl;
    })

pub returns-clause-ok : goal.returns-clause-ok
returns-clause-ok c =
    let m = c.args.request.now in
    let known = rw c.in-None.ensures.steps.0 at c.loop-option.invariant in
    surveyed-all m c.loop-option.survey known.surveyed known.screened
