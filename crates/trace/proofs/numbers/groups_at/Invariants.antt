-- The invariant: what is read from here, after the groups so far, is what is read of the whole.
use mathlib.Core.Path.{◌≡◌}
use Prim.Native.Nat.{◌+◌, ◌-◌, ◌≤◌, ◌^◌}
use Rattle.definition.specs.Trace.{max_groups, groups, number, read_at}
use Rattle.trace.proofs.numbers.groups_at.Given as goal

abbrev pub invariant-loop-read : goal.invariant-loop-read
invariant-loop-read l = (l.value + l.weight ≤ 2 ^ 32) × (read_at (groups (max_groups - l._read) l.most l.value l.weight) l.trace l.place ≡ read_at (number l.most) l.trace l.at)
