-- The claims are freed first, which leaves a table that the process is cleared on; together that is what leaving means.
use Rattle.layer.proofs.ReadLaws.{areas_here}
use Rattle.layer.proofs.YieldLaws.{freed_held, left}
use Rattle.layer.proofs.known.leave.Goals as goal

pub clear-requires : goal.clear-requires
clear-requires c = freed_held _ c.requires.0 _ c.requires.1 _ c.free_all.ensures

pub returns : goal.returns
returns c = left _ c.requires.0 _ c.requires.1 _ c.free_all.ensures _ (areas_here c.board_of.ensures.words c.areas-first_break.ensures c.requires.1) _ _ c.clear.ensures
