-- The slot is below the slots that were read there, of a driver that is there.
use Rattle.layer.proofs.ReadLaws.{slot_within}
use Rattle.layer.proofs.refusals.named.Goals as goal

pub invariant_of-result : goal.invariant_of-result
invariant_of-result c =
    let board = c.board_of-board.ensures in
    let within = slot_within board.words board.place c.in-Some.ensures.within _ c.slots.ensures c.requires.0 c.if-name-slots.false in
    record { place_within = within.0; number_within = within.1 }
