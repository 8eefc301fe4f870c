-- A record that was read is acted on; one that is broken or cut has its line.
use mathlib.Core.Path.{sym, ◌∙◌}
use native.Mathlib.Omega.{arith}
use Rattle.layer.proofs.TurnLaws.{turned_on, turned_short, turned_broken}
use Rattle.layer.proofs.replays.Lent.take_turn.Goals as goal

pub returns-in-Some : goal.returns-in-Some
returns-in-Some c = record { turned = turned_on _ _ _ _ _ c.requires.0 (omega arith) _ c.in-Ok.ensures _ _ _ c.in-Some.ensures.acted; same = c.act.ensures.same }

pub returns-in-None : goal.returns-in-None
returns-in-None c = record { turned = turned_short _ _ _ _ _ c.requires.0 (omega arith) _ c.in-Ok.ensures _ _ c.in-None.ensures.acted; same = c.act.ensures.same }

pub returns-in_default-clause-turned : goal.returns-in_default-clause-turned
returns-in_default-clause-turned c = turned_broken _ _ _ _ _ c.requires.0 (omega arith) _ (sym c.in_default.is ∙ c.next_at.ensures) _ _ c.put_broken.ensures
