-- The invariant: every word below i is zero.
use mathlib.Core.Path.{◌≡◌}
use mathlib.Core.Bool.{true}
use Prim.Native.Nat.{◌≤◌}
use lib.ListN.{length, get_or}
use lib.Dec.{eqb}
use Rattle.definition.specs.Tests.{every_below}
use Rattle.words.proofs.all_zero.Given as goal

abbrev pub invariant-loop-i : goal.invariant-loop-i
invariant-loop-i l = (l.i ≤ length l.t) × (every_below l.i (λ j. eqb (get_or l.t j 0) 0) ≡ true)
