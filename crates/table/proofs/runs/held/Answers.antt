-- What is read off the run is so of the process; the slot is that of the kind, the place and the number.
use native.Mathlib.Omega.{arith}
use Rattle.definition.specs.State.{held}
use Rattle.laws.specs.Slots.{slot_bound}
use Rattle.types.specs.Meaning.{kind_of}
use Rattle.table.specs.Lift.{run_reads}
use Rattle.table.proofs.runs.held.Goals as goal

pub held-requires : goal.held-requires
held-requires c =
    let slot = c.args.slot in
    (c.run_of.ensures.size, omega (arith, c.slot_at.ensures, slot_bound (kind_of slot.kind) _ _ slot.place_within slot.number_within))

pub returns : goal.returns
returns c = let slot = c.args.slot in
    run_reads _ _ c.requires.1 _ c.run_of.ensures.words (λ p. held (kind_of slot.kind) p slot.place slot.number) _ (rw (← c.slot_at.ensures) c.held.ensures)
