-- The exchange puts the pair into its slot; a subscribe then cancels the slot's upcalls, and another kind leaves the queue.
use mathlib.Core.Path.{sym, ◌∙◌}
use native.Mathlib.Omega.{arith}
use Rattle.laws.specs.Slots.{slot_bound}
use Rattle.types.specs.Meaning.{kind_of}
use Rattle.process.specs.RunLaws.{held_after, sized_slots}
use Rattle.process.proofs.EffectLaws.{then_does, subscribe_cancels, other_keeps, holds}
use Rattle.process.proofs.effects.hold.Goals as goal

pub exchange-old-requires : goal.exchange-old-requires
exchange-old-requires c = (c.requires, omega (arith, c.slot_at.ensures, slot_bound (kind_of c.args.slot.kind) _ _ c.args.slot.place_within c.args.slot.number_within))

pub cancel-requires : goal.cancel-requires
cancel-requires c = held_after _ _ _ (sized_slots _ _) c.requires c.exchange-old.ensures.0

pub returns-then-eq : goal.returns-then-eq
returns-then-eq c =
    holds c.args.slot _ _ _ _ _ _
    (subscribe_cancels c.args.slot.kind (sym c.eq.ensures ∙ c.if-eq.true) _ _)
    c.slot_at.ensures
    (then_does _ _ _ (sized_slots _ _) c.exchange-old.ensures.0 _ _ c.cancel.ensures)
    c.exchange-old.ensures.1

pub returns-else-eq : goal.returns-else-eq
returns-else-eq c =
    holds c.args.slot _ _ _ _ _ (λ q. q)
    (other_keeps c.args.slot.kind (sym c.eq.ensures ∙ c.if-eq.false) _ _)
    c.slot_at.ensures
    c.exchange-old.ensures.0
    c.exchange-old.ensures.1
