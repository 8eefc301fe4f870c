-- The code's number of each kind is the definition's.
use mathlib.Core.Path.{ap}
use Prim.Native.Nat.{ℕ, ◌+◌, ◌*◌}
use Rattle.definition.specs.Limits.{max_drivers, max_slots}
use Rattle.definition.specs.State.{slot_at}
use Rattle.process.proofs.SlotLaws.{kind_cast}
use Rattle.process.proofs.slots.slot_at.Goals as goal

pub returns : goal.returns
unfolding slot_at
returns c = ap (λ (n : ℕ). (n * max_drivers + c.args.slot.place) * max_slots + c.args.slot.number) (kind_cast c.args.slot.kind)
