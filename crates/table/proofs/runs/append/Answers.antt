-- What is done to the part that was lent is done to the process; the run has room for an upcall, as every state has.
use Rattle.table.specs.Lift.{holds_lent, run_room, run_turns}
use Rattle.table.proofs.runs.append.Goals as goal

pub append-requires : goal.append-requires
append-requires c = (holds_lent _ _ c.requires.1 _ c.run_range.ensures c.requires.0, run_room _ _ c.requires.1 _ c.run_range.ensures c.requires.0 c.requires.2)

pub returns : goal.returns
returns c = run_turns _ _ c.requires.1 _ c.run_range.ensures _ _ c.append.ensures
