-- The invariant: the first i words are those of the shifted list, and the others as they were.
use mathlib.Core.Path.{◌≡◌}
use mathlib.Core.List.{◌++◌}
use Prim.Native.Nat.{◌≤◌}
use lib.ListN.{length, take, drop}
use Rattle.words.specs.Splice.{shifted}
use Rattle.words.proofs.shift.Given as goal

abbrev pub invariant-loop-i : goal.invariant-loop-i
invariant-loop-i l = (l.i ≤ length l.initial.t) × (length l.t ≡ length l.initial.t) × (l.t ≡ take l.i (shifted l.by l.initial.t) ++ drop l.i l.initial.t)
