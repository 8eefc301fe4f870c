-- A place past the last driver has none; any other has what was read.
use Rattle.table_check.proofs.SlotLaws.{slots_past, slots_read}
use Rattle.table_check.proofs.checks.slots_in.Goals as goal

pub returns-else-place-drivers : goal.returns-else-place-drivers
returns-else-place-drivers c = slots_past c.args.board.words.now _ _ _ c.drivers.ensures _ c.if-place-drivers.false

pub returns-then-place-drivers : goal.returns-then-place-drivers
returns-then-place-drivers c = slots_read c.args.board.words.now _ _ _ c.drivers.ensures _ c.if-place-drivers.true _ c.slots.ensures
