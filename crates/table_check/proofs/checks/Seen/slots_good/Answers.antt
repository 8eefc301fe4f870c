-- Each row by its test, which are those of all slots.
use Rattle.std.proofs.Common.{rules, ◌∙◌}
use borrow.Author.Tests.{tests}
use Rattle.board.specs.Below.{all_same}
use Rattle.table_check.proofs.SlotLaws.{rows_good}
use Rattle.table_check.proofs.checks.Seen.slots_good.Goals as goal

pub returns : goal.returns
returns c = all_same _ _ _ _ c.all.ensures.ran (cc) _ (λ x b q k. search (rules, tests)) ∙ rows_good _ _ _
