use Rattle.std.proofs.Common.{◌≡◌, option_map, find}
use Rattle.coap_option.specs.declared.side.Side.TheVariants.{Request}
use Rattle.coap_option.specs.Passing.{IsAt, places_after}
use Rattle.coap_option.specs.Places.{places}
use Rattle.coap_option.specs.Screening.{first_refused, is_refused}
use Rattle.coap_option.specs.Survey.{of_none, with_all}
use Rattle.coap_option.specs.Table.{row_of}
use Rattle.coap_option.proofs.survey.survey_request.Given as goal

abbrev pub invariant-loop-option : goal.invariant-loop-option
invariant-loop-option l = record {
  surveyed : with_all l.request.code of_none (places l.request.options) ≡ with_all l.request.code l.survey (places_after l.run l.option-iterator);
  screened : first_refused Request l.request.options ≡ option_map (λ p. p.option.number) (find (is_refused Request) (places_after l.run l.option-iterator));
  at : IsAt l.option-iterator l.run;
  row : l.row ≡ row_of l.run.number;
}
