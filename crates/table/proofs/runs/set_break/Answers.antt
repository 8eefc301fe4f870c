-- What is done to the part that was lent is done to the process.
use Rattle.table.specs.Lift.{holds_lent, run_turns}
use Rattle.table.proofs.runs.set_break.Goals as goal

pub set_break-requires : goal.set_break-requires
set_break-requires c = holds_lent _ _ c.requires.1 _ c.run_range.ensures c.requires.0

pub returns : goal.returns
returns c = run_turns _ _ c.requires.1 _ c.run_range.ensures _ _ c.set_break.ensures
