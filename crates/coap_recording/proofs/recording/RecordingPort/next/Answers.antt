use Rattle.std.proofs.Common.{rules}
use Rattle.coap_recording.proofs.Adding.{gives-turn}
use Rattle.coap_recording.proofs.recording.RecordingPort.next.Goals as goal

pub returns-clause-gives : goal.returns-clause-gives
returns-clause-gives g c =
    let turn = c.in_ok-turn in
    gives-turn g.W.Write.contents g.P.Port.gives g.P.Port.clock c.args.into.now.room c.args.self.now c.write_before.new.self c.args.wait turn.turn c.next.new.into.bytes c.next.new.self c.is_silent-self-inside.result c.add.new.self
    c.write_before.ensures (search rules) (search rules) (c.is_silent-self-inside.ensures c.next.new.into.bytes) (search rules) (search rules)
