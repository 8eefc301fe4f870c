-- A refused fetch has the line of its number; another has that of its part, which is no longer than an image.
use Prim.Native.Nat.{◌-◌}
use mathlib.Core.Path.{sym}
use native.Mathlib.Omega.{arith}
use lib.ListN.{length}
use borrow.Author.Tests.{leb-true}
use Rattle.definition.specs.Tests.{provided◌then◌else◌}
use Rattle.definition.specs.Trace.{step_of}
use Rattle.definition.specs.Lines.{part_line}
use Rattle.layer.proofs.TurnLaws.{told_refused, told_part, told_short}
use Rattle.layer.proofs.replays.Lent.put_fetch.Goals as goal

pub returns-in-Err : goal.returns-in-Err
unfolding step_of provided◌then◌else◌
returns-in-Err c = told_refused _ _ _ _ _ _ _ _ _ c.in-Err.ensures _ _ _ _ c.requires c.put_given.ensures

pub returns-then-not-part_fits : goal.returns-then-not-part_fits
unfolding step_of provided◌then◌else◌
returns-then-not-part_fits c = told_short _ _ _ _ _ _ _ _ _ c.in-Ok.ensures _ c.part-part.ensures.bytes _ _ (sym c.if-not-part_fits.ensures)

pub put_part-requires : goal.put_part-requires
put_part-requires c =
    let fits = leb-true (part_line (length c.part-part.result.now)) (length c.args.out.now - c.args.used) (sym c.if-not-part_fits.ensures) in
    omega (arith, c.requires)

pub returns : goal.returns
unfolding step_of provided◌then◌else◌
returns c = told_part _ _ _ _ _ _ _ _ _ c.in-Ok.ensures _ c.part-part.ensures.bytes _ _ _ _ (sym c.if-not-part_fits.ensures) c.put_part.ensures
