-- As many digits as the number has are put, the last one first.
use mathlib.Core.Path.{refl}
use native.Mathlib.Omega.{arith}
use Rattle.lines.proofs.LineLaws.{decimal_some, decimal_digit, last_width, tail_none, tail_more, tail_all}
use Rattle.lines.proofs.WriterLaws.{said}
use Rattle.lines.proofs.Writer.word.Goals as goal

pub byte-requires : goal.byte-requires
byte-requires c = omega (arith, c.requires, decimal_some c.args.n)

pub returns-then-n-lt10 : goal.returns-then-n-lt10
returns-then-n-lt10 c = said (decimal_digit _ c.if-n-lt10.true) c.byte.ensures

pub overflow_add-end : goal.overflow_add-end
overflow_add-end c = let width = last_width _ _ c.width_of.ensures in omega (arith, c.requires)

pub loop-i-init : goal.loop-i-init
loop-i-init c = rw c.width_of.ensures (tail_none _ _ _ _)

pub bounds-out-i : goal.bounds-out-i
bounds-out-i c = let width = last_width _ _ c.width_of.ensures in omega (arith, c.requires)

pub loop-i-preserved : goal.loop-i-preserved
loop-i-preserved c = let width = last_width _ _ c.width_of.ensures in tail_more c.loop-i.invariant (omega arith) (omega (arith, c.requires))

pub returns : goal.returns
returns c = record { same = refl; size = c.loop-i.auto.out; put = tail_all c.loop-i.invariant (omega arith) }
