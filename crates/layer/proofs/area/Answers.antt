-- The table is checked; past row 2 the answer is that of the checked table.
use mathlib.Core.Path.{sym, ◌∙◌}
use Rattle.table.specs.TableLaws.{well_formed_holds}
use Rattle.layer.proofs.QuestionLaws.{no_table_lem, on_table_lem}
use Rattle.layer.proofs.area.Goals as goal

pub returns-then-not-well_formed : goal.returns-then-not-well_formed
returns-then-not-well_formed c = no_table_lem _ _ _ _ _ (sym c.if-not-well_formed.ensures)

pub locate-requires : goal.locate-requires
locate-requires c = well_formed_holds _ (sym c.if-not-well_formed.ensures)

pub returns : goal.returns
returns c = c.locate.ensures ∙ on_table_lem _ _ _ _ _ (sym c.if-not-well_formed.ensures)
