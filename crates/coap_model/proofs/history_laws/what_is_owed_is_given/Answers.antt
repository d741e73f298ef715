use Rattle.coap_model.proofs.OwedActions.{given_opened, given_joined, given_answered, given_settled, given_closed, given_no_room, given_rejected, given_done}
use Rattle.coap_model.proofs.BySize.{owed-by}
use Rattle.coap_model.proofs.history_laws.what_is_owed_is_given.Goals as goal

pub returns : goal.returns
returns c =
    record {
      owed = owed-by;
      opened = λ setting past d client request key j r new. given_opened d.observation.report.outcome setting past d client request j r new key;
      joined = λ setting past d client request key x j r new. given_joined d.observation.report.outcome setting past d client request j r new key x;
      answered = λ setting past d x awaited j. given_answered d.observation.report.outcome setting past d x j awaited;
      settled = λ setting past d. given_settled d.observation.report.outcome setting past d;
      closed = λ setting past d. given_closed d.observation.report.outcome setting past d;
      no_answer_room = λ setting past d x awaited j. given_no_room d.observation.report.outcome setting past d x j awaited;
      rejected = λ setting past d source bytes head j came. given_rejected d.observation.report.outcome setting past d source bytes j came head;
      done = λ setting past d. given_done d.observation.report.outcome setting past d;
    }
