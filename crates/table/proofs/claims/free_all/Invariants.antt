-- The invariant: of the first k drivers those that the process owns are freed, and all other words are as they were.
use Rattle.table.specs.Tables.{Turns}
use Rattle.table.proofs.FreedLaws.{freed_first}
use Rattle.table.proofs.claims.free_all.Given as goal

abbrev pub invariant-loop-k : goal.invariant-loop-k
invariant-loop-k l = Turns (freed_first l.process.0 l.k) l.initial.table l.table
