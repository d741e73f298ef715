-- What a proxy is made with, as the model sees it.
use Rattle.coap_model.specs.Setting as model
use Rattle.coap_core.specs.declared.setting.Setting.{Setting}

abbrev pub seen : Setting → model.Setting
seen s = model.setting_of s.limits s.routes s.first_id s.salt
