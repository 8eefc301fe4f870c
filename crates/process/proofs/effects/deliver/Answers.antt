-- The count tells whether the queue is empty: then nothing goes, and otherwise its first upcall does.
use Rattle.process.proofs.EffectLaws.{something_queued}
use Rattle.process.proofs.effects.deliver.Goals as goal

pub first-upcall-requires : goal.first-upcall-requires
first-upcall-requires c = (c.requires, something_queued _ _ c.queued.ensures c.if-queued-eq0.false c.requires)

pub take_first-requires : goal.take_first-requires
take_first-requires c = (c.requires, something_queued _ _ c.queued.ensures c.if-queued-eq0.false c.requires)
