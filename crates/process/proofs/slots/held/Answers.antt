-- The two words at a slot's place are the pair that the process reads there.
use Rattle.laws.specs.Reads.{slot_read}
use Rattle.process.proofs.slots.held.Goals as goal

pub returns : goal.returns
returns c = slot_read c.args.run.now c.args.slot c.requires.1
