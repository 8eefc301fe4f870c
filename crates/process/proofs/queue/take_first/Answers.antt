-- The queue's words, moved to the left by a row, are those of its tail, and the count is one less.
use Rattle.process.proofs.QueueLaws.{take_first_does}
use Rattle.process.proofs.queue.take_first.Goals as goal

pub returns : goal.returns
returns c = take_first_does _ _ _ c.requires.1 c.word-n.ensures c.shift.ensures
