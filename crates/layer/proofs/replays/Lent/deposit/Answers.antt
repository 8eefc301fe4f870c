-- It is the step that the fields and the bytes tell.
use mathlib.Core.Path.{refl}
use Rattle.definition.specs.Tests.{provided◌then◌else◌}
use Rattle.definition.specs.Trace.{step_of}
use Rattle.layer.proofs.replays.Lent.deposit.Goals as goal

pub returns : goal.returns
unfolding step_of provided◌then◌else◌
returns c = record { makes = c.deposit.ensures _; same = refl }
