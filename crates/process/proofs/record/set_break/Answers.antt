-- The words of a process with a new break differ in the second word only.
use Rattle.process.proofs.RecordLaws.{break_does}
use Rattle.process.proofs.record.set_break.Goals as goal

pub returns : goal.returns
returns c = break_does c.args.run.now c.args.to
