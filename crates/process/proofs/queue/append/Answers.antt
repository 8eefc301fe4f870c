-- The row after the last is the upcall's, and the count is one more.
use Rattle.process.proofs.QueueLaws.{append_does}
use Rattle.process.proofs.queue.append.Goals as goal

pub returns : goal.returns
returns c = append_does _ _ _ _ c.requires.1 c.word-n.ensures c.put_upcall.ensures
