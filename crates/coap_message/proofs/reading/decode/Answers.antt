use Rattle.std.proofs.Common.{arith}
use Rattle.coap_message.specs.Reading.{read_message}
use Rattle.coap_message.specs.declared.error.DecodeError.TheVariants as errors
use Rattle.coap_message.proofs.Refusals.{short_only, version_only, format_only, decodes_spelled, decodes_all, decodes_refused, decodes_memory}
use Rattle.coap_message.proofs.reading.decode.Goals as goal

pub returns-clause-spelled : goal.returns-clause-spelled
returns-clause-spelled c = decodes_spelled c.read_copy.result c.args.bytes.now (λ i. omega (arith, c.type_inv.bytes i)) c.read_copy.ensures

pub returns-clause-read : goal.returns-clause-read
returns-clause-read c = decodes_all c.read_copy.result c.args.bytes.now c.read_copy.ensures

pub returns-clause-short : goal.returns-clause-short
returns-clause-short c =
    let same = decodes_refused c.read_copy.result (read_message c.args.bytes.now) errors.Short (λ e. cc) c.read_copy.ensures in
    let only = short_only c.args.bytes.now in
    (λ e. only.0 (same.0 e), λ h. same.1 (only.1 h))

pub returns-clause-version : goal.returns-clause-version
returns-clause-version c =
    let same = decodes_refused c.read_copy.result (read_message c.args.bytes.now) errors.Version (λ e. cc) c.read_copy.ensures in
    let only = version_only c.args.bytes.now in
    (λ e. only.0 (same.0 e), λ h. same.1 (only.1 h))

pub returns-clause-format : goal.returns-clause-format
returns-clause-format c =
    let same = decodes_refused c.read_copy.result (read_message c.args.bytes.now) errors.Format (λ e. cc) c.read_copy.ensures in
    let only = format_only c.args.bytes.now (λ i. omega (arith, c.type_inv.bytes i)) in
    (λ e. only.0 (same.0 e), λ h. same.1 (only.1 h))

pub returns-clause-memory : goal.returns-clause-memory
returns-clause-memory c = decodes_memory c.read_copy.result c.args.bytes.now (λ i. omega (arith, c.type_inv.bytes i)) c.read_copy.ensures
