-- Two cases, as in the contract.
use Rattle.definition.specs.Tests.{provided◌then◌else◌}
use Rattle.table_check.proofs.checks.good_slot.Goals as goal

pub returns-then-has : goal.returns-then-has
unfolding provided◌then◌else◌
returns-then-has c = rw c.if-has.true c.holdable.ensures

pub returns-else-has : goal.returns-else-has
unfolding provided◌then◌else◌
returns-else-has c = rw c.if-has.false c.is_null.ensures
