-- Each claim by the definition's test.
use Rattle.std.proofs.Common.{rules}
use borrow.Author.Tests.{tests}
use Rattle.board.specs.Below.{all_same}
use Rattle.table_check.proofs.checks.Formed.claims_good.Goals as goal

pub returns : goal.returns
returns c = all_same _ _ _ _ c.all.ensures.ran (cc) _ (λ x b q k. search (rules, tests))
