-- A refusal changes nothing; else the upcall, with what the slot holds, is the last of the queue.
use mathlib.Core.Path.{refl}
use Rattle.layer.proofs.StepLaws.{refused_given}
use Rattle.layer.proofs.EventLaws.{room_said, event_taken}
use Rattle.layer.proofs.work.event.Goals as goal

pub returns-in_err-named : goal.returns-in_err-named
returns-in_err-named c = refused_given _ _ _ c.requires (λ n. refl) _ _ c.from_residual.ensures.1 (c.in_err-named.ensures.number _ _ _)

pub append-requires : goal.append-requires
append-requires c = let named = c.in_ok-named.ensures in (c.requires, named.slot.known, room_said _ _ named.room)

pub returns : goal.returns
returns c = let named = c.in_ok-named.ensures in event_taken _ c.requires _ _ _ _ _ _ (named.number _ _ _) _ named.slot c.held-pair.result c.held-pair.ensures _ c.append.ensures
