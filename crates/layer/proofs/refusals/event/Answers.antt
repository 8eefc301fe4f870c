-- The slot's rows come first; then the pair that it holds, and the length of the queue.
use native.Mathlib.Omega.{arith}
use Rattle.table.specs.TableLaws.{told}
use Rattle.layer.proofs.RefusalLaws.{null_upcall, full_queue, event_accepted}
use Rattle.layer.proofs.refusals.event.Goals as goal

pub returns-then-pair-eq0-clause-number : goal.returns-then-pair-eq0-clause-number
returns-then-pair-eq0-clause-number c x y z =
    let named = c.in_ok-slot.ensures in
    null_upcall _ c.requires _ _ _ x y z named.number _ named.slot c.held-pair.result c.held-pair.ensures c.if-pair-eq0.true

pub returns-then-queued-ge-QUEUE-clause-number : goal.returns-then-queued-ge-QUEUE-clause-number
returns-then-queued-ge-QUEUE-clause-number c x y z =
    let named = c.in_ok-slot.ensures in
    full_queue _ c.requires _ _ _ x y z named.number _ named.slot c.held-pair.result c.held-pair.ensures c.if-pair-eq0.false _ c.queued.ensures c.if-queued-ge-QUEUE.true

pub returns-clause-number : goal.returns-clause-number
returns-clause-number c x y z =
    let named = c.in_ok-slot.ensures in
    event_accepted _ c.requires _ _ _ x y z named.number _ named.slot c.held-pair.result c.held-pair.ensures c.if-pair-eq0.false _ c.queued.ensures c.if-queued-ge-QUEUE.false

pub returns-clause-room : goal.returns-clause-room
returns-clause-room c = omega (arith, told _ c.requires _ _ c.queued.ensures)
