use Rattle.std.proofs.Common.{map, string_bytes}
use Rattle.coap_recording.proofs.Heading.{first-made}
use Rattle.coap_recording.proofs.header.put_first.Goals as goal

pub returns : goal.returns
returns c =
    first-made c.args.out.now.items c.extend_from_slice.new.self.items c.put_word.new.out.items c.put_start.new.out.items c.put_words.new.out.items c.args.version.now c.args.start (map string_bytes c.args.words.now)
    c.in_ok-extend_from_slice.ensures.items (rw c.as_bytes.ensures.value at c.in_ok-put_word.ensures) c.in_ok-put_start.ensures c.in_ok-put_words.ensures
