-- The invariant: the values before this one are written.
use mathlib.Core.List.{map}
use lib.ListN.{take}
use Rattle.definition.specs.Lines.{spaced}
use Rattle.lines.specs.Writes.{Writes}
use Rattle.lines.proofs.Writer.values.Given as goal

abbrev pub invariant-loop-value : goal.invariant-loop-value
invariant-loop-value g l = Writes (spaced (take l.value-index (map g.T.Value.number l.values))) l.initial.self l.self
