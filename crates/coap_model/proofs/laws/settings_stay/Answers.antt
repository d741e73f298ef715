use Rattle.coap_model.proofs.Runs.{setting_stays}
use Rattle.coap_model.proofs.laws.settings_stay.Goals as goal

pub returns : goal.returns
returns c = record { stays = setting_stays }
