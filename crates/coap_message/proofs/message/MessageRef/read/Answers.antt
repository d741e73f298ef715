use Rattle.std.proofs.Common.{arith, sym, ◌∙◌}
use Rattle.coap_message.proofs.Refusals.{short_only, version_only, format_only, never_memory}
use Rattle.coap_message.proofs.WholeMessages.{read_is, read_again}
use Rattle.coap_message.proofs.message.MessageRef.read.Goals as goal

pub returns-clause-spelled : goal.returns-clause-spelled
returns-clause-spelled c = λ m. (λ e. read_is c.args.bytes.now m (λ i. omega (arith, c.type_inv.bytes i)) (sym c.read_lent.ensures ∙ e), λ s. c.read_lent.ensures ∙ read_again c.args.bytes.now m s)

pub returns-clause-short : goal.returns-clause-short
returns-clause-short c = rw c.read_lent.ensures (short_only c.args.bytes.now)

pub returns-clause-version : goal.returns-clause-version
returns-clause-version c = rw c.read_lent.ensures (version_only c.args.bytes.now)

pub returns-clause-format : goal.returns-clause-format
returns-clause-format c = rw c.read_lent.ensures (format_only c.args.bytes.now (λ i. omega (arith, c.type_inv.bytes i)))

pub returns-clause-memory : goal.returns-clause-memory
returns-clause-memory c = λ e. never_memory c.args.bytes.now (sym c.read_lent.ensures ∙ e)
