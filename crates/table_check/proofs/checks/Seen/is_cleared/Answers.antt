-- Where the break and the queue are right, the words of the slots decide.
use Rattle.std.proofs.Common.{arith, sym, ◌∙◌}
use borrow.Author.Tests.{eqb-true}
use Rattle.board.specs.Meaning.{areas_of}
use Rattle.table_check.proofs.ProcessLaws.{slots_decide}
use Rattle.table_check.proofs.checks.Seen.is_cleared.Goals.{then-self, else-self}
use Rattle.table_check.proofs.checks.Seen.is_cleared.Goals as goal

pub returns-then-self-eq0 : goal.returns-then-self-eq0
returns-then-self-eq0 c = elim c.if-self.branch [
  | then-self w ↦ c.all_zero.ensures ∙ sym (slots_decide (areas_of c.args.self.now.areas) c.args.self.now.run.now c.args.self.now.size w.if-self.true (eqb-true _ _ (sym w.value-is ∙ c.if-self-eq0.true)))
  | else-self w ↦ absurd (grind arith)
]
