-- The invariant: the lines so far, followed by the records from here on, are the run. Each turn passes a byte of the trace at least.
use mathlib.Core.Path.{◌≡◌}
use Prim.Native.Nat.{◌-◌}
use lib.ListN.{length, take}
use Rattle.definition.specs.Replay.{following, play_from}
use Rattle.layer.specs.Replaying.{room_at}
use Rattle.layer.specs.Lending.{lent_in, kept}
use Rattle.layer.proofs.ReplayLaws.{Going}
use Rattle.layer.proofs.replays.Lent.records.Given as goal

abbrev pub invariant-loop-i : goal.invariant-loop-i
invariant-loop-i l = (kept l.self ≡ kept l.initial.self)
    × Going l.trace (following (take l.from l.initial.out) (play_from l.trace (lent_in l.initial.self) l.at (room_at l.from l.initial.out))) l.initial.out (lent_in l.self) l.out l.i l.used

abbrev pub decreases-loop-i : goal.decreases-loop-i
decreases-loop-i l = length l.trace - l.i
