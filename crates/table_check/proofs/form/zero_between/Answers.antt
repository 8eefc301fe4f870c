-- The part that is lent has just these words.
use Rattle.table_check.proofs.FormLaws.{lent_zero}
use Rattle.table_check.proofs.form.zero_between.Goals as goal

pub returns : goal.returns
returns c = lent_zero _ _ _ _ c.all_zero.ensures
