-- The buffer has room for the longest line: so a pause is further on in the trace.
use Rattle.std.proofs.Common.{rules}
use Rattle.layer.specs.StatementLaws.{paused_in_trace, paused_further}
use Rattle.replay.proofs.Lent.write_lines.Goals.{in-Ended, in-Paused}
use Rattle.replay.proofs.Lent.write_lines.Goals as goal

pub returns : goal.returns
returns g c =
    let k = c.replay-progress in
    elim c.match-progress.branch [
      | in-Ended w ↦ rw w.more-is (search rules)
      | in-Paused w ↦ rw w.more-is (paused_further _ _ _ _ _ _ _ k.ensures w.in-Paused.is (search rules), paused_in_trace _ _ _ _ _ _ _ k.ensures w.in-Paused.is)
    ]
