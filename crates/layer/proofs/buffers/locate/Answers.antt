-- A refusal is that of the rows; else the slot can be read, and its buffer is told.
use Rattle.layer.proofs.RefusalLaws.{named_held}
use Rattle.layer.proofs.QuestionLaws.{asked_refused, asked_told}
use Rattle.layer.proofs.buffers.locate.Goals as goal

pub returns-in_err-slot : goal.returns-in_err-slot
returns-in_err-slot c = asked_refused c.args.table.now _ _ _ _ _ _ c.from_residual.ensures.1 c.in_err-slot.ensures.number

pub returns : goal.returns
returns c =
    let named = c.in_ok-slot.ensures in
    asked_told c.args.table.now _ _ _ _ named.number _ _ (named_held _ c.requires _ _ _ _ _ named.slot c.held-pair.result c.held-pair.ensures) c.area_of-area.ensures
