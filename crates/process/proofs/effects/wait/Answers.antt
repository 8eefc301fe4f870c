-- The count tells whether the queue is empty: then the status alone changes, and otherwise the delivery follows.
use Rattle.process.specs.RunLaws.{held_after, sized_status}
use Rattle.process.proofs.EffectLaws.{then_does, then_gives, nothing_delivered, nothing_waits, something_runs}
use Rattle.process.proofs.effects.wait.Goals as goal

pub returns-then-queued-eq0 : goal.returns-then-queued-eq0
returns-then-queued-eq0 c = (nothing_waits _ _ c.queued.ensures c.if-queued-eq0.true _ c.set_status.ensures, nothing_delivered _ _ c.queued.ensures c.if-queued-eq0.true _)

pub deliver-requires : goal.deliver-requires
deliver-requires c = held_after _ _ _ (sized_status _) c.requires c.set_status-2.ensures

pub returns : goal.returns
returns c = (
  something_runs _ _ c.queued.ensures c.if-queued-eq0.false _ (then_does _ _ _ (sized_status _) c.set_status-2.ensures _ _ c.deliver.ensures.0),
  then_gives _ _ _ (sized_status _) c.set_status-2.ensures _ _ c.deliver.ensures.1,
)
