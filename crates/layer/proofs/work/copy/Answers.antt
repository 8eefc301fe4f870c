use mathlib.Core.Path.{refl, ap, ◌∙◌}
use native.Mathlib.Omega.{arith}
use lib.ListN.{get_or, set, length-set}
use lib.Seq.{paste-zero}
use Rattle.layer.proofs.DepositLaws.{copy_more, copy_done}
use Rattle.layer.proofs.work.copy.Goals as goal

pub loop-i-init : goal.loop-i-init
loop-i-init c = (omega arith, refl, paste-zero c.args.to.now 0 c.args.bytes.now)

pub loop-i-preserved : goal.loop-i-preserved
loop-i-preserved c =
    let to = c.args.to.now in
    let bytes = c.args.bytes.now in (
      omega arith,
      simp length-set (omega arith),
      ap (λ (x : _). set x c.loop-i.i (get_or bytes c.loop-i.i 0)) c.loop-i.invariant.2 ∙ copy_more to bytes c.loop-i.i (omega arith) (omega arith),
    )

pub returns : goal.returns
returns c = c.loop-i.invariant.2 ∙ copy_done c.args.to.now c.args.bytes.now c.loop-i.i (omega arith) (omega arith)
