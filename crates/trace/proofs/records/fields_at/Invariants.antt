-- The invariant: the fields so far stand at the front of `out`, and what is read from here is what is read of the whole.
use Rattle.trace.proofs.FieldLaws as L
use Rattle.trace.proofs.records.fields_at.Given as goal

abbrev pub invariant-loop-i : goal.invariant-loop-i
invariant-loop-i l = L.SoFar l.trace l.at l.limits l.initial.out l.out l.i l.place
