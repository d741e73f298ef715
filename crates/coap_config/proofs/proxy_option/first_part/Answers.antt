use Rattle.coap_config.proofs.Cuts.{parts-cut, parts-whole}
use Rattle.coap_config.proofs.proxy_option.first_part.Goals as goal

pub returns-in-Some-clause-parts : goal.returns-in-Some-clause-parts
returns-in-Some-clause-parts c = parts-cut c.args.text.now c.in-Some.name.now c.in-Some.after.now c.in-Some.ensures

pub returns-in-None-clause-parts : goal.returns-in-None-clause-parts
returns-in-None-clause-parts c = parts-whole c.args.text.now c.in-None.ensures
