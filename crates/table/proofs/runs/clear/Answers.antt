-- The part that was lent has become the words of a cleared process.
use Rattle.table.specs.Lift.{run_becomes}
use Rattle.table.proofs.runs.clear.Goals as goal

pub returns : goal.returns
returns c = run_becomes _ _ c.requires.1 _ c.run_range.ensures _ _ c.clear.ensures
