use Rattle.std.proofs.Common.{◌≡◌, ⊎_elim}
use Rattle.coap_model.specs.declared.report.Outcome.TheVariants.{Answered}
use Rattle.coap_model.specs.declared.report.Storing.TheVariants.{Kept, NoMemory}
use Rattle.coap_model.proofs.OwedThere.{owed-at, again-there}
use Rattle.coap_model.proofs.history_laws.what_is_owed_is_given_at_each_position.Goals as goal

pub returns : goal.returns
returns c =
    record {
      again = λ history w p position former source message there. again-there w.setting position former source message (owed-at w.setting p.actions position p.owed there);
      no_room = λ history w p position client request there. (owed-at w.setting p.actions position p.owed there).no_room client request;
      no_answer_room = λ history w p position x awaited there. (owed-at w.setting p.actions position p.owed there).no_answer_room x awaited;
      hit = λ history w p position client request key cached entry there. (owed-at w.setting p.actions position p.owed there).hit client request key cached entry;
      kept = λ history w p position o there small some. ⊎_elim (λ (kept : position.action.observation.report.outcome ≡ Answered Kept). kept) (λ (none : position.action.observation.report.outcome ≡ Answered NoMemory). absurd (some none)) ((owed-at w.setting p.actions position p.owed there).small o small);
      too_large = λ history w p position o there. (owed-at w.setting p.actions position p.owed there).large o;
      not_stored = λ history w p position there. (owed-at w.setting p.actions position p.owed there).other;
    }
