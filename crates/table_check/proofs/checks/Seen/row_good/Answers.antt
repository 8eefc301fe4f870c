-- Each slot of the row by its test, with what was read once.
use Rattle.std.proofs.Common.{rules, ◌+◌, ◌*◌, Bool, ℕ}
use borrow.Author.Tests.{tests}
use lib.Dec.{ltb}
use lib.ListN.{get_or}
use Rattle.definition.specs.Tests.{provided◌then◌else◌}
use Rattle.definition.specs.Limits.{max_slots}
use Rattle.definition.specs.State.{null, is_null}
use Rattle.definition.specs.Area.{holdable}
use Rattle.definition.specs.WellFormed.{good_slot}
use Rattle.definition.specs.Image.{read_process, board_at}
use Rattle.types.specs.Meaning.{kind_of}
use Rattle.board.specs.Meaning.{areas_of}
use Rattle.board.specs.Below.{all_below}
use Rattle.table_check.specs.Parts.{good_row}
use Rattle.table_check.proofs.SlotLaws.{row_turn}
use Rattle.table_check.proofs.checks.Seen.row_good.Goals as goal

pub returns : goal.returns
unfolding good_row
returns c =
    let process = read_process c.args.self.now.run.now in
    let b = board_at c.args.self.now.board.words.now c.args.self.now.board.at in
    let a = areas_of c.args.self.now.areas in
    let i = c.args.row * max_slots in
    let f : ℕ → Bool = λ j. good_slot b a process.break (i + j) (get_or process.slots (i + j) null) in
    let h : ℕ → Bool = λ j. let x = get_or process.slots (i + j) null in provided ltb j c.slots_in-count.result then holdable (kind_of c.kind_at-kind.result) a (get_or c.args.self.now.run.now 1 0) x else is_null x in
    all_below _ _ _ _ c.all.ensures.ran (cc) f h (λ x b q k. search (rules, tests))
    (λ j l. row_turn c.args.row j l b a c.args.self.now.run.now _ _ _ c.kind_at-kind.ensures c.slots_in-count.ensures)
