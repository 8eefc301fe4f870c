-- Each known call has its arm, and is made there; these four need a word on what their arm answers.
use Rattle.definition.specs.Answer.{terminated, restarted}
use Rattle.definition.specs.Decide.{decide_known}
use Rattle.layer.proofs.KnownLaws.{found, break_to_made}
use Rattle.layer.proofs.known.known.Goals as goal

pub returns-in-YieldWait : goal.returns-in-YieldWait
unfolding decide_known
returns-in-YieldWait c = found _ _ _ _ _ _ _ _ c.in-YieldWait.is (c.wait.ensures c.args.memory.now)

pub returns-in-BreakTo : goal.returns-in-BreakTo
returns-in-BreakTo c = found _ _ _ _ _ _ _ _ c.in-BreakTo.is (break_to_made _ _ _ _ _ _ c.success.ensures c.break_to.ensures c.args.memory.now)

pub returns-in-Terminate : goal.returns-in-Terminate
unfolding decide_known
returns-in-Terminate c = found _ _ _ _ _ _ _ _ c.in-Terminate.is (c.leave.ensures (terminated _) c.args.memory.now)

pub returns-in-Restart : goal.returns-in-Restart
unfolding decide_known
returns-in-Restart c = found _ _ _ _ _ _ _ _ c.in-Restart.is (c.leave-in-Restart.ensures (restarted _) c.args.memory.now)
