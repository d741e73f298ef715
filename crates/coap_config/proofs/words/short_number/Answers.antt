use Rattle.coap_config.proofs.Numbers.{not-above}
use Rattle.coap_config.proofs.words.short_number.Goals as goal

pub short-requires : goal.short-requires
short-requires c = not-above _ 65535 _ c.number.result c.number.ensures
