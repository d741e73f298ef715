use Rattle.coap_model.proofs.OneAnswer.{one-answer}
use Rattle.coap_model.proofs.OneStep.{step-answer}
use Rattle.coap_model.proofs.history_laws.one_answer_is_justified.Goals as goal

pub returns : goal.returns
returns c = record { one = one-answer; of_the_step = step-answer }
