use mathlib.Core.Path.{sym, ap, ◌∙◌}
use mathlib.Core.List.{List}
use Prim.Native.Nat.{ℕ, ◌<◌}
use native.Mathlib.Omega.{arith}
use lib.ListN.{length, get_or}
use Rattle.definition.specs.Image.{drivers_from}
use Rattle.laws.specs.ImageBack.{drivers_count}
use Rattle.table.specs.Owners.{owner_is}
use Rattle.table.specs.Lift.{drivers_below}
use Rattle.table.proofs.FreedLaws.{freed_none, freed_all, freed_own, freed_other}
use Rattle.table.proofs.claims.free_all.Goals as goal
use Rattle.table.proofs.claims.free_all.Goals.{then-eq, else-eq}

pub loop-k-init : goal.loop-k-init
loop-k-init c s g e = e ∙ freed_none c.args.process.0 s

pub loop-k-preserved : goal.loop-k-preserved
loop-k-preserved c s g e =
    let p = c.args.process.0 in
    let below : c.loop-k.k < length s.board.drivers = drivers_below _ s e c.loop-k.k (omega arith) in
    let owner = c.eq.ensures ∙ owner_is c.claim_at-claim.result.owner c.args.process in
    let first = c.loop-k.invariant s g e in
    elim c.if-eq.branch [
      | then-eq w ↦ freed_own p c.loop-k.k s g below c.loop-k.table first _ c.claim_at-claim.ensures _ (sym owner ∙ w.if-eq.true) (w.table-is ∙ w.put_claim.ensures)
      | else-eq w ↦ w.table-is ∙ freed_other p c.loop-k.k s g below c.loop-k.table first _ c.claim_at-claim.ensures (sym owner ∙ w.if-eq.false)
    ]

pub returns : goal.returns
returns c s g e = c.loop-k.invariant s g e ∙ freed_all c.args.process.0 c.loop-k.k s g (omega (arith, ap (λ (t : List ℕ). get_or t drivers_from 0) e ∙ drivers_count s))
