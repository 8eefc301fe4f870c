-- The word that counts the upcalls is read.
use mathlib.Core.Path.{◌∙◌}
use Rattle.process.proofs.QueueLaws.{count_of}
use Rattle.process.proofs.queue.queued.Goals as goal

pub returns : goal.returns
returns c = λ p z w. c.word.ensures ∙ count_of c.args.run.now p w
