-- The class of a record fits a byte.
use mathlib.Core.Path.{refl}
use Rattle.definition.specs.Tests.{provided◌then◌else◌}
use Rattle.definition.specs.Trace.{step_of}
use Rattle.layer.proofs.TurnLaws.{still_known}
use Rattle.layer.proofs.replays.Lent.call.Goals as goal

pub invariant_of-self : goal.invariant_of-self
invariant_of-self c = record { known = still_known _ _ _ c.call.ensures c.args.self.now.known }

pub returns : goal.returns
unfolding step_of provided◌then◌else◌
returns c = record { makes = c.call.ensures _; same = refl }
