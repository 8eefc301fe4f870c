-- What is read off the run is so of the process.
use Rattle.table.specs.Lift.{run_tells}
use Rattle.table.proofs.runs.brk.Goals as goal

pub returns : goal.returns
returns c = run_tells _ _ c.requires.1 _ c.run_of.ensures.words (λ p. p.break) _ c.brk.ensures
