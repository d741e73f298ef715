use Rattle.coap_lines.proofs.ReadAgain.{bytes_again, endpoint_again}
use Rattle.coap_lines.proofs.laws.written_is_read.Goals as goal

pub returns : goal.returns
returns c = record { datagrams = bytes_again; endpoints = endpoint_again }
