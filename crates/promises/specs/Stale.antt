-- The event of a pending upcall was taken after every accepted subscribe to its slot, and after every accepted exit or restart.
use Rattle.std.specs.Prelude.{◌<◌, ◌≡◌, refl, true, false, length}
use Rattle.std.proofs.Common.{sym, ap, ◌∙◌, arith}
use mathlib.Core.List.{List, [], ◌∷◌, ◌++◌, tail}
use Rattle.definition.specs.Tests.{Each, none, more}
use Rattle.definition.specs.Answer.{taken}
use Rattle.definition.specs.Decide.{event}
use Rattle.laws.specs.Facts.{clash}
use Rattle.promises.specs.History.{Heard, Pending, cancels, TakenIn}

-- the event of an upcall, as a history tells it
abbrev event_of : Pending → Heard
event_of u = record { action = event u.driver u.slot u.argument0 u.argument1 u.argument2; answer = taken }

-- an event that is taken cancels nothing
event_cancels : (u : Pending) → cancels u.driver u.slot (event_of u) ≡ false
unfolding cancels
event_cancels u = refl

-- a step that cancels is neither the event nor one since, so it stands further back
pub taken_after : (hs : List Heard) (u : Pending) (t : TakenIn hs u) (newer older : List Heard) (h : Heard) → hs ≡ newer ++ (h ∷ older) → cancels u.driver u.slot h ≡ true
    → length t.since < length newer
taken_after hs u t newer older h e c = go t.since newer (sym t.whole ∙ e) t.stands
  where
    -- a step that does not cancel is another one
    other : (x : Heard) → x ≡ h → cancels u.driver u.slot x ≡ false → ⊥
    other x p q = clash (ap (cancels u.driver u.slot) p ∙ c) q

    go : (since newer : List Heard) → since ++ (event_of u ∷ t.before) ≡ newer ++ (h ∷ older) → Each (λ x. cancels u.driver u.slot x ≡ false) since → length since < length newer
    go [] [] p none = absurd (other (event_of u) (cc) (event_cancels u))
    go [] (y ∷ newer) p none = omega arith
    go (x ∷ since) [] p (more q qs) = absurd (other x (cc) q)
    go (x ∷ since) (y ∷ newer) p (more q qs) = omega (arith, go since newer (ap tail p) qs)
