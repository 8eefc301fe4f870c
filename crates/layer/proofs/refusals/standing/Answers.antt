-- A process that the board has is told by the status that was read.
use Rattle.layer.proofs.RefusalLaws.{found}
use Rattle.layer.proofs.refusals.standing.Goals as goal

pub returns-in-Running-clause-number : goal.returns-in-Running-clause-number
returns-in-Running-clause-number c = found _ _ _ _ c.requires c.if-process-table.false _ _ c.status.ensures c.in-Running.is

pub returns-in-Waiting-clause-number : goal.returns-in-Waiting-clause-number
returns-in-Waiting-clause-number c = found _ _ _ _ c.requires c.if-process-table.false _ _ c.status.ensures c.in-Waiting.is

pub returns-in-Exited-clause-number : goal.returns-in-Exited-clause-number
returns-in-Exited-clause-number c = found _ _ _ _ c.requires c.if-process-table.false _ _ c.status.ensures c.in-Exited.is
