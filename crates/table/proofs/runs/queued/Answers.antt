-- What is read off the run is so of the process.
use lib.ListN.{length}
use Rattle.table.specs.Lift.{run_tells}
use Rattle.table.proofs.runs.queued.Goals as goal

pub returns : goal.returns
returns c = run_tells _ _ c.requires.1 _ c.run_of.ensures.words (λ p. length p.queue) _ c.queued.ensures
