-- The invariant: from i on the digits are there, and those before it are those of what is left.
use Rattle.definition.specs.Lines.{decimal}
use Rattle.lines.proofs.LineLaws.{Tail}
use Rattle.lines.proofs.Writer.word.Given as goal

abbrev pub invariant-loop-i : goal.invariant-loop-i
invariant-loop-i l = Tail (decimal l.n) l.i-start l.end l.initial.out l.out l.i l.left
