-- Each return is a command's answer on the claim that was read, and the claim that it leaves.
use mathlib.Core.Path.{ap}
use native.Mathlib.Omega.{arith}
use Rattle.table.specs.Meaning.{owner_number}
use Rattle.layer.proofs.CommandLaws.{takes_free, takes_own, not_owner, gives_up, reads_latch, owner_mine, owner_other, owner_settled, claim_settled}
use Rattle.layer.proofs.known.settle.Goals as goal
use Rattle.layer.proofs.known.settle.Goals.{in_default-via-in-None+else-number-eq1, in_default-via-in-Some+else-eq}

pub returns-in-None : goal.returns-in-None
returns-in-None c = owner_settled c.requires.0 _ _ c.requires.2 c.claim_at-claim.ensures _ (takes_free _ _ _ c.if-number-eq1.true (ap owner_number c.in-None.is)) c.success.ensures c.claim_for.ensures

pub returns-in-1 : goal.returns-in-1
returns-in-1 c =
    let mine = owner_mine c.in-Some.is c.in-Some.owner-is c.if-eq.ensures in
    claim_settled c.requires.0 _ _ c.requires.2 c.claim_at-claim.ensures (takes_own _ _ _ mine c.in-1.is) c.success-in-1.ensures

pub returns-in-2 : goal.returns-in-2
returns-in-2 c =
    let mine = owner_mine c.in-Some.is c.in-Some.owner-is c.if-eq.ensures in
    owner_settled c.requires.0 _ _ c.requires.2 c.claim_at-claim.ensures _ (gives_up _ _ _ mine c.in-2.is) c.success-in-2.ensures c.release.ensures

pub returns-in_default-number : goal.returns-in_default-number
returns-in_default-number c =
    let mine = owner_mine c.in-Some.is c.in-Some.owner-is c.if-eq.ensures in
    claim_settled c.requires.0 _ _ c.requires.2 c.claim_at-claim.ensures (reads_latch _ _ _ mine (λ one. absurd (omega arith)) (λ two. absurd (omega arith))) c.success_with_1.ensures

pub returns-in_default : goal.returns-in_default
returns-in_default c =
    claim_settled c.requires.0 _ _ c.requires.2 c.claim_at-claim.ensures
    (elim c.in_default.branch [
      | in_default-via-in-None+else-number-eq1 w ↦ let none = ap owner_number w.in-None.is in not_owner _ _ _ (λ h. absurd (omega arith)) (λ _. w.if-number-eq1.false)
      | in_default-via-in-Some+else-eq w ↦ not_owner _ _ _ (owner_other w.in-Some.is w.in-Some.owner-is w.if-eq.ensures) (λ z. absurd (omega (arith, ap owner_number w.in-Some.is)))
    ])
    c.failure.ensures
