-- The break goes by a change where it goes to the place that the change leads to; outside there is none.
use Rattle.layer.proofs.WordLaws.{register_word}
use Rattle.layer.proofs.BreakLaws.{change_fails, change_made}
use Rattle.layer.proofs.known.break_by.Goals as goal

pub returns-in_default : goal.returns-in_default
returns-in_default c = change_fails _ c.requires.0 _ _ _ c.brk-old.ensures _ (rw (register_word _ c.ranges.change) at c.moved.ensures) c.requires.1 c.in_default.is _ c.failure.ensures

pub returns : goal.returns
returns c = change_made _ c.requires.0 _ _ _ c.brk-old.ensures _ (rw (register_word _ c.ranges.change) at c.moved.ensures) _ c.in-Some.is _ c.success_with_1-answer.ensures _ _ c.break_to.ensures
