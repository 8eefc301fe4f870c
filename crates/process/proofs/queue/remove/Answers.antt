-- The first row has gone before the loop begins; a row of the slot goes, and another one moves to the front. In the end the rows that are left over are zeroed.
use Prim.Native.Nat.{◌-◌}
use mathlib.Core.Path.{◌≡◌, refl, sym, ap, subst, ◌∙◌}
use native.Mathlib.Omega.{arith}
use Rattle.process.specs.FirstMatch.{is_of}
use Rattle.process.proofs.CancelLaws.{Kept, kept_goes, kept_stays, keeps}
use Rattle.process.proofs.SearchLaws.{kept_first}
use Rattle.process.proofs.queue.remove.Goals as goal
use Rattle.process.proofs.queue.remove.Goals.{then-is_of, else-is_of}

pub loop-next-init : goal.loop-next-init
loop-next-init c =
    let first = kept_first c.args.place c.args.number c.args.n c.args.rows.now c.requires.0 c.requires.1 in
    (first.0, omega arith, first.1)

pub loop-next-preserved : goal.loop-next-preserved
loop-next-preserved c =
    elim c.if-is_of.branch [
      | then-is_of w ↦
          (c.loop-next.invariant.0, omega arith, kept_goes _ _ _ _ _ _ c.loop-next.invariant.2 (omega arith) _ refl _ _ (sym c.is_of.ensures ∙ w.if-is_of.true) (omega arith) w.rows-is)
      | else-is_of w ↦
          let read = w.upcall_at-upcall.ensures in
          let other = ap (is_of c.args.place c.args.number) read ∙ sym c.is_of.ensures ∙ w.if-is_of.false in
          (c.loop-next.invariant.0, omega arith, kept_stays _ _ _ _ _ _ c.loop-next.invariant.2 (omega arith) _ read _ _ (omega arith) (omega arith) other (omega arith) (w.rows-is ∙ w.put_upcall.ensures))
    ]

pub returns : goal.returns
returns c =
    let all : c.loop-next.next ≡ c.args.n = omega arith in
    let kept = subst (λ i. Kept c.args.place c.args.number i c.args.rows.now (i - c.loop-next.gone) c.loop-next.rows) all c.loop-next.invariant.2 in
    (omega arith, keeps _ _ _ _ _ _ _ kept (omega arith) (omega arith) c.zero.ensures)
