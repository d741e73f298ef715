use Rattle.std.proofs.lemmas.Result.{IfOk-weaker}
use Rattle.clap.specs.Words.{app_of, found_of, kind_of, rows_of}
use Rattle.coap_config.proofs.Numbers.{settings-in-range}
use Rattle.coap_config.proofs.Taking.{refused, taken}
use Rattle.coap_config.proofs.words.read_words.Goals as goal

pub returns-in-Ok-clause-exact : goal.returns-in-Ok-clause-exact
returns-in-Ok-clause-exact c =
    taken (app_of c.in_ok-command.command) _ c.in-Ok.matches c.settings.result c.in_ok-command.ensures
    c.in-Ok.ensures.matches c.in-Ok.ensures.kinds c.settings.ensures.ok c.settings.ensures.err

pub returns-in-Ok-clause-in_range : goal.returns-in-Ok-clause-in_range
returns-in-Ok-clause-in_range c =
    IfOk-weaker c.settings.result _ _ (settings-in-range (rows_of (found_of c.in-Ok.matches))) c.settings.ensures.ok

pub returns-in-Err-clause-exact : goal.returns-in-Err-clause-exact
returns-in-Err-clause-exact c =
    refused (app_of c.in_ok-command.command) _ (kind_of c.in-Err.error) c.refusal.result c.in_ok-command.ensures
    c.in-Err.ensures.kinds c.refusal.ensures.memory c.refusal.ensures.other
