-- The place grows with each turn and stays in the trace, until there are no more.
use Rattle.std.proofs.Common.{ℕ, suc, ◌-◌, length}
use Rattle.std.specs.Prelude.{None, Some}
use Rattle.std.specs.declared.option.Option.{Option}
use Rattle.replay.proofs.Lent.write_all_lines.Given as goal

-- how many places are left of n, from one on
abbrev pub left : ℕ → Option ℕ → ℕ
left n None = 0
left n (Some k) = suc (n - k)

abbrev pub decreases-loop-more : goal.decreases-loop-more
decreases-loop-more g l = left (length l.trace) l.more
