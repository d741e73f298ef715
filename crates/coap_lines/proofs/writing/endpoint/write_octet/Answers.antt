use Rattle.std.proofs.Common.{arith}
use Rattle.coap_lines.proofs.OctetTexts.{one-written, three-written, two-written}
use Rattle.coap_lines.proofs.writing.endpoint.write_octet.Goals as goal

pub returns-in-0-to-9-clause-text : goal.returns-in-0-to-9-clause-text
returns-in-0-to-9-clause-text c = one-written c.args.text.now c.args.start c.args.octet c.args.after (omega arith) (omega arith)

pub returns-in-10-to-99-clause-text : goal.returns-in-10-to-99-clause-text
returns-in-10-to-99-clause-text c = two-written c.args.text.now c.args.start c.args.octet c.args.after (omega arith) (omega arith) (omega arith)

pub returns-in_default-clause-text : goal.returns-in_default-clause-text
returns-in_default-clause-text c = three-written c.args.text.now c.args.start c.args.octet c.args.after (omega arith) (omega arith) (omega arith)
