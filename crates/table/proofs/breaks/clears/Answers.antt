-- What is read off the run is so of the process.
use Rattle.definition.specs.Area.{break_clears}
use Rattle.board.specs.Meaning.{areas_of}
use Rattle.table.specs.Lift.{run_reads}
use Rattle.table.proofs.breaks.clears.Goals as goal

pub returns : goal.returns
returns c = run_reads _ _ c.requires.1 _ c.run_of.ensures.words (λ p. break_clears (areas_of c.args.areas) p c.args.new) _ c.buffers_clear.ensures
