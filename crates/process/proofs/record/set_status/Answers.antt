-- The words of a process with a new status differ in the first word only.
use Rattle.types.specs.Meaning.{status_of}
use Rattle.process.proofs.RecordLaws.{status_does, status_cast}
use Rattle.process.proofs.record.set_status.Goals as goal

pub returns : goal.returns
returns c = status_does c.args.run.now (status_of c.args.to) _ (status_cast c.args.to)
