-- The same two tests as the definition's.
use borrow.Author.Tests.{lt-ltb, le-ltb}
use Rattle.definition.specs.Tests.{provided◌then◌else◌}
use Rattle.table_check.proofs.checks.kind_at.Goals as goal

pub returns-then-i-lt-KIND : goal.returns-then-i-lt-KIND
unfolding provided◌then◌else◌
returns-then-i-lt-KIND c = rw (lt-ltb _ _ c.if-i-lt-KIND.true)

pub returns-then-i : goal.returns-then-i
unfolding provided◌then◌else◌
returns-then-i c = rw (le-ltb _ _ c.if-i-lt-KIND.false, lt-ltb _ _ c.if-i.true)

pub returns-else-i : goal.returns-else-i
unfolding provided◌then◌else◌
returns-else-i c = rw (le-ltb _ _ c.if-i-lt-KIND.false, le-ltb _ _ c.if-i.false)
