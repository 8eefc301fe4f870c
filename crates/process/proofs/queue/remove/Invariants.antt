-- The invariant: of the rows before the next one those of other slots stand in front, and the rows from it on are as they were.
use Prim.Native.Nat.{◌-◌, ◌≤◌}
use Rattle.process.proofs.CancelLaws.{Kept}
use Rattle.process.proofs.queue.remove.Given as goal

abbrev pub invariant-loop-next : goal.invariant-loop-next
invariant-loop-next l = (1 ≤ l.n) × (l.gone ≤ l.next) × Kept l.place l.number l.next l.initial.rows (l.next - l.gone) l.rows
