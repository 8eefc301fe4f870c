use mathlib.Core.Path.{refl, ◌∙◌}
use native.Mathlib.Omega.{arith}
use lib.ListN.{length-set}
use Rattle.words.specs.Splice.{shifted}
use Rattle.words.proofs.Laws.{front_all, shifted_length, shift_turn}
use Rattle.words.proofs.shift.Goals as goal

pub loop-i-init : goal.loop-i-init
loop-i-init c = (omega arith, refl, refl)

pub loop-i-preserved : goal.loop-i-preserved
loop-i-preserved c = (omega arith, simp length-set (omega arith), shift_turn c.args.t.now c.loop-i.t c.args.by c.loop-i.i c.word_or_zero-w.result c.requires (omega arith) c.loop-i.invariant.2 c.word_or_zero-w.ensures)

pub returns : goal.returns
returns c = c.loop-i.invariant.2 ∙ front_all (shifted c.args.by c.args.t.now) c.args.t.now c.loop-i.i (shifted_length c.args.t.now c.args.by c.requires) (omega arith)
