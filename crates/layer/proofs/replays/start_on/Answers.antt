-- The start's line stands before those of the records; whether its table is well formed is told by its answer.
use mathlib.Core.Path.{ap, ◌∙◌}
use borrow.Author.Rules.{rules}
use native.Mathlib.Omega.{arith}
use Rattle.lines.specs.PutLaws.{put_fits}
use Rattle.layer.proofs.ReplayLaws.{leaves_as}
use Rattle.layer.proofs.BeginLaws.{begun_formed, begun_refused, begun_bad, begun_good, not_ended, answered_on, no_board_given, another, another_given}
use Rattle.layer.proofs.replays.start_on.Goals as goal
use Rattle.layer.proofs.replays.start_on.Goals.{in-Ok, in-Err-2}

pub returns-in-Err : goal.returns-in-Err
returns-in-Err c = begun_bad _ _ _ _ c.start-given.ensures _ _ _ _ _ _ _ c.put_given-used.ensures c.put_given-used.auto.out (no_board_given c.in-Err.is c.in-Err.refusal-is c.if-eq.ensures)

pub records-requires : goal.records-requires
records-requires c = omega (arith, put_fits (omega arith) c.put_given-used.ensures c.put_given-used.auto.out, c.put_given-used.auto.out)

pub invariant_of-lent : goal.invariant_of-lent
invariant_of-lent c = record {
  known = elim c.match-given.branch [
    | in-Ok w ↦ w.formed-is ∙ begun_formed _ _ _ _ c.start-given.ensures c.args.memory.now c.args.flash.now _ w.in-Ok.is
    | in-Err-2 w ↦ w.formed-is ∙ begun_refused _ _ _ _ c.start-given.ensures c.args.memory.now c.args.flash.now _ w.in-Err.is (another w.in-Err.is w.in-Err.refusal-is w.if-eq.ensures)
  ];
}

pub returns : goal.returns
returns c =
    let same = c.records.ensures.same in
    begun_good _ _ _ _ c.start-given.ensures _ _ _ _ _ _ _ c.put_given-used.ensures c.put_given-used.auto.out
    (not_ended _ (elim c.match-given.branch [ in-Ok w ↦ answered_on w.in-Ok.is | in-Err-2 w ↦ another_given w.in-Err.is w.in-Err.refusal-is w.if-eq.ensures ])) _ _ _
    (leaves_as _ _ _ _ (search (rules, ap (λ x. x.0) same)) (search (rules, ap (λ x. x.1) same)) (ap (λ x. x.2) same) c.records.ensures.leaves)
