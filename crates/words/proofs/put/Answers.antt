use mathlib.Core.Path.{refl, sym, ap, ◌∙◌}
use Prim.Native.Nat.{◌+◌}
use native.Mathlib.Omega.{arith}
use native.Mathlib.Numerals.{add-one}
use lib.ListN.{get_or, set, length-set}
use lib.Seq.{paste, paste-zero, paste-suc}
use Rattle.words.proofs.Laws.{put_done}
use Rattle.words.proofs.put.Goals as goal

pub loop-i-init : goal.loop-i-init
loop-i-init c = (omega arith, refl, paste-zero c.args.t.now c.args.at c.args.row.now)

pub loop-i-preserved : goal.loop-i-preserved
loop-i-preserved c =
    let t = c.args.t.now in
    let row = c.args.row.now in
    let at = c.args.at in (
      omega arith,
      simp length-set (omega arith),
      ap (λ (x : _). set x (at + c.loop-i.i) (get_or row c.loop-i.i 0)) c.loop-i.invariant.2 ∙ paste-suc t at row c.loop-i.i 0 (omega arith) (omega arith) ∙ ap (paste t at row) (sym (add-one c.loop-i.i)),
    )

pub returns : goal.returns
returns c = c.loop-i.invariant.2 ∙ put_done c.args.t.now c.args.at c.args.row.now c.loop-i.i (omega arith)
