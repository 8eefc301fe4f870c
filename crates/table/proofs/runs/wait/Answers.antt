-- What is done to the part that was lent is done to the process, and what is read off it is so of the process.
use Rattle.table.specs.Lift.{holds_lent, run_turns_tells}
use Rattle.table.proofs.runs.wait.Goals as goal

pub wait-requires : goal.wait-requires
wait-requires c = holds_lent _ _ c.requires.1 _ c.run_range.ensures c.requires.0

pub returns : goal.returns
returns c = run_turns_tells _ _ c.requires.1 _ c.run_range.ensures _ _ _ _ c.wait.ensures
