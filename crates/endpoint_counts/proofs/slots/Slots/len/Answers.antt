use Rattle.endpoint_counts.proofs.Slotting.{numbered-gapless, numbered-length, slots-is}
use Rattle.endpoint_counts.proofs.slots.Slots.len.Goals as goal

pub returns-clause-all : goal.returns-clause-all
returns-clause-all c = rw (← c.self.view_is) (numbered-length 0 c.self.inside.entries.items)

pub returns-clause-sound : goal.returns-clause-sound
returns-clause-sound c = rw (← c.self.view_is) (slots-is c.self.inside.entries.items c.self.inside.limit c.self.invariant.1)

pub returns-clause-gapless : goal.returns-clause-gapless
returns-clause-gapless c = rw (← c.self.view_is) (numbered-gapless c.self.inside.entries.items)
