use mathlib.Core.Path.{refl, ◌∙◌}
use native.Mathlib.Omega.{arith}
use Rattle.layer.proofs.ReplayLaws.{going_start, going_done, going_on, going_stops}
use Rattle.layer.proofs.replays.Lent.records.Goals as goal

pub loop-i-init : goal.loop-i-init
loop-i-init c = (refl, going_start _ _ _ _ _ c.requires)

pub take_turn-requires : goal.take_turn-requires
take_turn-requires c =
    let l = c.loop-i.invariant in
    (c.loop-i-test.true, omega (arith, l.1.within, l.1.size))

pub loop-i-smaller : goal.loop-i-smaller
loop-i-smaller c =
    let g = going_on _ _ _ _ _ _ _ c.loop-i.invariant.1 _ _ _ c.take_turn.ensures.turned c.take_turn.auto.out c.in-Ok.is in
    omega (arith, g.1, c.loop-i-test.true)

pub loop-i-preserved : goal.loop-i-preserved
loop-i-preserved c =
    let l = c.loop-i.invariant in
    (c.take_turn.ensures.same ∙ l.0, (going_on _ _ _ _ _ _ _ l.1 _ _ _ c.take_turn.ensures.turned c.take_turn.auto.out c.in-Ok.is).0)

pub returns-in-Err : goal.returns-in-Err
returns-in-Err c =
    let l = c.loop-i.invariant in
    record { leaves = going_stops _ _ _ _ _ _ _ l.1 _ _ _ c.take_turn.ensures.turned c.take_turn.auto.out _ c.in-Err.is; same = c.take_turn.ensures.same ∙ l.0 }

pub returns : goal.returns
returns c = record { leaves = going_done _ _ _ _ _ _ _ c.loop-i.invariant.1 c.loop-i-test.false; same = c.loop-i.invariant.0 }
