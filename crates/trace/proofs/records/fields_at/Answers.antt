-- A turn reads the number at its place, and goes on to what the whole is.
use native.Mathlib.Omega.{arith}
use Rattle.laws.specs.Facts.{passed_on}
use Rattle.trace.proofs.FieldLaws as L
use Rattle.trace.proofs.records.fields_at.Goals as goal

pub returns-in_err-value : goal.returns-in_err-value
returns-in_err-value c = L.so_far_none _ _ _ _ _ _ _ (omega arith) (omega arith) c.loop-i.invariant _ _ (passed_on _ _ c.from_residual.ensures.1) c.in_err-value.ensures

pub loop-i-preserved : goal.loop-i-preserved
loop-i-preserved c = L.so_far_more _ _ _ _ _ _ _ (omega arith) (omega arith) c.loop-i.invariant c.in_ok-value.ensures

pub returns : goal.returns
returns c = L.so_far_all _ _ _ _ _ _ _ (omega arith) c.loop-i.invariant
