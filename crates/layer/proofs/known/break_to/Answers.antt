-- The break moves where every test lets it, and else the call answers NOMEM.
use mathlib.Core.Path.{sym, ◌∙◌}
use Rattle.table.specs.TableLaws.{told}
use Rattle.layer.proofs.ReadLaws.{areas_here}
use Rattle.layer.proofs.BreakLaws.{below_ram, above_grant, stopped, let_go, break_fails, break_moves}
use Rattle.layer.proofs.known.break_to.Goals as goal
use Rattle.layer.proofs.known.break_to.Goals.{then-new-areas-via-then-new-areas, then-new-areas-via-else-new-areas+then-new-areas-2, then-new-areas-via-else-new-areas+else-new-areas-2+then-not-clears}

pub returns-then-new-areas : goal.returns-then-new-areas
returns-then-new-areas c =
    break_fails _ c.requires.0 _ _ (areas_here c.board_of.ensures.words c.areas-areas.ensures c.requires.1) _ _
    (elim c.then-new-areas.branch [
      | then-new-areas-via-then-new-areas w ↦ below_ram _ _ _ w.if-new-areas.true
      | then-new-areas-via-else-new-areas+then-new-areas-2 w ↦ above_grant _ _ _ w.if-new-areas-2.true
      | then-new-areas-via-else-new-areas+else-new-areas-2+then-not-clears w ↦
          stopped _ _ _ w.if-new-areas.false w.if-new-areas-2.false (sym (told _ c.requires.0 _ _ w.clears.ensures) ∙ w.if-not-clears.true)
    ])
    _ c.failure.ensures

pub returns : goal.returns
returns c =
    let clears = sym (told _ c.requires.0 _ _ c.clears.ensures) ∙ c.if-not-clears.false in
    break_moves _ c.requires.0 _ _ (areas_here c.board_of.ensures.words c.areas-areas.ensures c.requires.1) _ _ (let_go _ _ _ c.if-new-areas.false c.if-new-areas-2.false clears) _ c.set_break.ensures
