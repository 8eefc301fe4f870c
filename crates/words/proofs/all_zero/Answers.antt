use mathlib.Core.Path.{refl, ap}
use mathlib.Core.Bool.{not}
use native.Mathlib.Omega.{arith}
use lib.ListN.{length, get_or}
use lib.Dec.{eqb}
use borrow.Author.Tests.{eq-eqb, ne_eqb}
use Rattle.laws.specs.Zero.{all_zero}
use Rattle.words.specs.Loops.{below_none, below_stop, below_more, below_done}
use Rattle.words.proofs.all_zero.Goals as goal

pub loop-i-init : goal.loop-i-init
loop-i-init c = (omega arith, below_none _)

pub returns-then-t-i-ne0 : goal.returns-then-t-i-ne0
unfolding all_zero
returns-then-t-i-ne0 c =
    let i = c.loop-i.i in
    let t = c.args.t.now in
    below_stop (λ j. eqb (get_or t j 0) 0) (length t) i (eqb (get_or t i 0) 0) (omega arith) refl (ap not (ne_eqb (get_or t i 0) 0 c.if-t-i-ne0.true))

pub loop-i-preserved : goal.loop-i-preserved
loop-i-preserved c =
    let t = c.args.t.now in
    (omega arith, below_more (λ j. eqb (get_or t j 0) 0) c.loop-i.i (eqb (get_or t c.loop-i.i 0) 0) c.loop-i.invariant.1 refl (ap not (eq-eqb (get_or t c.loop-i.i 0) 0 c.if-t-i-ne0.false)))

pub returns : goal.returns
unfolding all_zero
returns c = below_done _ _ c.loop-i.i (omega arith) (omega arith) c.loop-i.invariant.1
