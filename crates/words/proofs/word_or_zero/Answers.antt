-- Past the end there is only the default, 0.
use mathlib.Core.Path.{sym}
use lib.ListN.{get_or-eq_default}
use Rattle.words.proofs.word_or_zero.Goals as goal

pub returns-else-at-t : goal.returns-else-at-t
returns-else-at-t c = sym (get_or-eq_default c.args.t.now 0 c.if-at-t.false)
