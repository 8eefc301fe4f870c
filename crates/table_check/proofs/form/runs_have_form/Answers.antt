-- Each run by its test.
use Rattle.std.proofs.Common.{rules}
use borrow.Author.Tests.{tests}
use Rattle.definition.specs.Image.{run_of}
use Rattle.laws.specs.Form.{run_form}
use Rattle.board.specs.Below.{all_same}
use Rattle.table_check.proofs.form.runs_have_form.Goals as goal

pub returns : goal.returns
returns c = all_same _ _ _ _ c.all.ensures.ran (cc) (λ p. run_form (run_of c.args.table.now p)) (λ x b q k. search (rules, tests))
