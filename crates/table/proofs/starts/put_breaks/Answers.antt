-- Each turn puts one process's break where its run stands.
use Prim.Native.Nat.{ℕ, ◌+◌}
use mathlib.Core.Path.{ap, ◌∙◌}
use native.Mathlib.Omega.{arith}
use lib.ListN.{length, set}
use Rattle.std.specs.declared.ops.Range.{Range}
use Rattle.definition.specs.Image.{board_of}
use Rattle.laws.specs.ImageBack.{image_length}
use Rattle.table.specs.Starts.{running_first}
use Rattle.table.proofs.StartLaws.{break_put, breaks_put}
use Rattle.table.proofs.starts.put_breaks.Goals as goal

pub loop-p-preserved : goal.loop-p-preserved
loop-p-preserved c =
    ap (λ (r : Range ℕ). set c.loop-p.table (r.start + 1) c.areas-areas.result.first_break) c.run_range.ensures
    ∙ break_put c.args.board.words.now c.requires.1 _ c.loop-p.p _ (omega arith) c.loop-p.invariant c.areas-areas.ensures

pub bounds-table-run_range : goal.bounds-table-run_range
bounds-table-run_range c = omega (arith, ap (λ r. r.start) c.run_range.ensures, ap length c.requires.0 ∙ image_length (running_first 0 (board_of c.args.board.words.now)))

pub returns : goal.returns
returns c = c.loop-p.invariant ∙ breaks_put c.args.board.words.now c.requires.1 c.loop-p.p (omega arith)
