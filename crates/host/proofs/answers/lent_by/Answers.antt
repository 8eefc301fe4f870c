-- The class is one of those of the two allows, or neither.
use Rattle.std.proofs.Common.{rules}
use Rattle.definition.specs.Tests.{provided◌then◌else◌}
use Rattle.host.proofs.answers.lent_by.Goals as goal

pub returns-in-3 : goal.returns-in-3
unfolding provided◌then◌else◌
returns-in-3 c = search rules

pub returns-in-4 : goal.returns-in-4
unfolding provided◌then◌else◌
returns-in-4 c = search rules

pub returns-in_default : goal.returns-in_default
unfolding provided◌then◌else◌
returns-in_default c = search rules
