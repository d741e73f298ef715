use Rattle.coap_lines.proofs.HexTexts.{bytes_read-is, bytes_read-written}
use Rattle.coap_lines.proofs.laws.datagrams_are_read.Goals as goal

pub returns : goal.returns
returns c = record { read = bytes_read-written; only = bytes_read-is }
