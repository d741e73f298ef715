use Rattle.std.proofs.Common.{rules}
use Rattle.coap_port.specs.Given.{given_by}
use Rattle.coap_recording.proofs.Adding.{adds-line, adds-none}
use Rattle.coap_recording.proofs.recording.Recording.add.Goals as goal

pub returns-then-not-self-clause-adds : goal.returns-then-not-self-clause-adds
returns-then-not-self-clause-adds g c =
    adds-line g.W.Write.contents c.args.self.now c.make_room.new.self (given_by c.args.turn c.args.bytes.now) c.size_of-size.result (search rules) c.size_of-size.ensures.size (search rules) c.make_room.ensures.writes _ (search rules) (search rules)

pub returns-else-not-self-clause-adds : goal.returns-else-not-self-clause-adds
returns-else-not-self-clause-adds g c =
    adds-none g.W.Write.contents c.args.self.now c.make_room.new.self (given_by c.args.turn c.args.bytes.now) c.size_of-size.result (search rules) c.size_of-size.ensures.size (search rules) c.make_room.ensures.writes (search rules)
