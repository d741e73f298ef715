use Rattle.std.specs.Option.{option_copied}
use Rattle.coap_recording.proofs.Heading.{one-more}
use Rattle.coap_recording.proofs.header.put_config.Goals as goal

pub loop-rest-preserved : goal.loop-rest-preserved
loop-rest-preserved c =
    one-more c.args.out.now.items c.args.config.now c.loop-rest.out.items c.put_part.new.out.items c.in-Some.text.now c.first_part.result.0.now (option_copied c.first_part.result.1)
    (rw c.in-Some.is at c.loop-rest.invariant) c.first_part.ensures.parts c.in_ok-put_part.ensures.ok c.in_ok-put_part.ensures.short
