-- The slot's rows come first; then the two comparisons, which together are that of the exact sum with the held size.
use native.Mathlib.Omega.{arith}
use Rattle.layer.proofs.RefusalLaws.{too_long_lem, buffer_accepted, buffer_lent}
use Rattle.layer.proofs.refusals.buffer.Goals as goal
use Rattle.layer.proofs.refusals.buffer.Goals.{then-length-size-via-then-length-size, then-length-size-via-else-length-size+then-offset-size}

pub returns-then-length-size-clause-number : goal.returns-then-length-size-clause-number
returns-then-length-size-clause-number c =
    let named = c.in_ok-slot.ensures in
    too_long_lem _ c.requires _ _ _ _ _ _ named.number _ named.slot c.held-pair.result c.held-pair.ensures
    (elim c.then-length-size.branch [ then-length-size-via-then-length-size w ↦ omega arith | then-length-size-via-else-length-size+then-offset-size w ↦ omega arith ])

pub returns-clause-number : goal.returns-clause-number
returns-clause-number c = let named = c.in_ok-slot.ensures in buffer_accepted _ c.requires _ _ _ _ _ _ named.number _ named.slot c.held-pair.result c.held-pair.ensures (omega arith)

pub returns-clause-pair : goal.returns-clause-pair
returns-clause-pair c = let named = c.in_ok-slot.ensures in buffer_lent _ c.requires _ _ _ _ _ _ named.number _ named.slot c.held-pair.result c.held-pair.ensures (omega arith)
