-- The first word reads as running at 0, as waiting at 1, and as exited past that.
use mathlib.Core.Path.{sym, ap}
use native.Mathlib.Omega.{arith}
use lib.ListN.{get_or}
use Rattle.definition.specs.Image.{status_of}
use Rattle.process.proofs.RecordLaws.{status_gives, past_waiting}
use Rattle.process.proofs.record.status.Goals as goal

pub returns-in-0 : goal.returns-in-0
returns-in-0 c = status_gives _ _ (ap status_of (sym c.in-0.is))

pub returns-in-1 : goal.returns-in-1
returns-in-1 c = status_gives _ _ (ap status_of (sym c.in-1.is))

pub returns-in_default : goal.returns-in_default
returns-in_default c = status_gives _ _ (past_waiting (get_or c.args.run.now 0 0) (λ e. omega (arith, e)) (λ e. omega (arith, e)))
