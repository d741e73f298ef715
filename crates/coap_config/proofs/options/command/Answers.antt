use Rattle.std.proofs.Common.{◌∙◌, refl, sym}
use Rattle.clap.specs.Words.{app_of}
use Rattle.coap_config.proofs.OptionRows.{added, no_more}
use Rattle.coap_config.proofs.options.command.Goals as goal

pub loop-row-init : goal.loop-row-init
loop-row-init c = rw (c.program-command.ensures, c.rows-row-items.ensures) refl

pub loop-row-preserved : goal.loop-row-preserved
loop-row-preserved c =
    sym (added c.loop-row.command c.in_ok-command.command c.option.result c.rows-row-items.result.now c.loop-row.row-index _ c.in_ok-command.ensures c.option.ensures c.loop-row-test.true)
    ∙ c.loop-row.invariant

pub returns : goal.returns
returns c = sym (no_more (app_of c.loop-row.command) c.rows-row-items.result.now c.loop-row.row-index c.loop-row-test.false) ∙ c.loop-row.invariant
