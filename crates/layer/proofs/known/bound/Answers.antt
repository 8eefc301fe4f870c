-- The areas were read, and the bound is of them.
use Rattle.layer.proofs.ReadLaws.{areas_here}
use Rattle.layer.proofs.BreakLaws.{bound_told}
use Rattle.layer.proofs.known.bound.Goals as goal

pub returns : goal.returns
returns c = bound_told _ c.requires.0 _ _ (areas_here c.board_of.ensures.words c.areas-areas.ensures c.requires.1) _ _ c.address_of.ensures _ c.success_with_1.ensures
