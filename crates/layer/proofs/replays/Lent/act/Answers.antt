-- A fetch leaves all that is lent as it was; any other step is made, and its line put. The peak of a latch is the word that was read.
use mathlib.Core.Path.{refl, sym, ap, ◌∙◌}
use mathlib.Core.List.{[]}
use native.Mathlib.Omega.{arith}
use lib.ListN.{get_or}
use mir.Syntax.{w32}
use mir.ValLaws.{to_z-of_z}
use Rattle.definition.specs.Tests.{provided◌then◌else◌}
use Rattle.definition.specs.Signed.{word_of}
use Rattle.definition.specs.World.{latch}
use Rattle.definition.specs.Table.{table_step}
use Rattle.definition.specs.Trace.{step_of}
use Rattle.trace.specs.Answers.{record_ends, record_limits}
use Rattle.trace.specs.declared.records.RecordKind.TheVariants as K
use Rattle.layer.specs.Lending.{lent_in, kept}
use Rattle.layer.proofs.TurnLaws.{still_known, acted_fetch, acted_made}
use Rattle.layer.proofs.replays.Lent.act.Goals as goal
use Rattle.layer.proofs.replays.Lent.act.Goals.{in-Call, in-Event, in-Resume, in-Deposit, in-Latch}

pub call-given-requires : goal.call-given-requires
call-given-requires c = (record_limits _ c.requires.1.0 c.args.read c.requires.1.1).1 c.in-Call.is

pub invariant_of-self : goal.invariant_of-self
invariant_of-self c = record { known = still_known _ _ [] (c.event-given.ensures []) c.args.self.now.known }

pub invariant_of-self-in-Resume : goal.invariant_of-self-in-Resume
invariant_of-self-in-Resume c = record { known = still_known _ _ [] (c.resume-given.ensures []) c.args.self.now.known }

pub invariant_of-self-in-Latch : goal.invariant_of-self-in-Latch
invariant_of-self-in-Latch c = record { known = still_known _ _ [] (c.latch-given.ensures []) c.args.self.now.known }

pub slice_bounds-deposit-end : goal.slice_bounds-deposit-end
slice_bounds-deposit-end c = let h = record_ends c.args.trace.now c.requires.1.0 c.args.read c.requires.1.1 in omega (arith, h)

pub returns-in-Fetch : goal.returns-in-Fetch
returns-in-Fetch c = record { acted = acted_fetch _ c.args.read _ _ _ _ _ _ c.in-Fetch.is _ c.put_fetch.ensures; same = refl }

pub returns-clause-same : goal.returns-clause-same
returns-clause-same c = elim c.match-read.branch [
  | in-Call w ↦ ap kept w.self-is ∙ w.call-given.ensures.same
  | in-Event w ↦ ap kept w.self-is
  | in-Resume w ↦ ap kept w.self-is
  | in-Deposit w ↦ ap kept w.self-is ∙ w.deposit-given.ensures.same
  | in-Latch w ↦ ap kept w.self-is
]

pub returns-clause-acted : goal.returns-clause-acted
unfolding step_of provided◌then◌else◌
returns-clause-acted c = elim c.match-read.branch [
  | in-Call w ↦ acted_made _ c.args.read _ _ _ _ _ _ K.Call w.in-Call.is refl c.requires.0 _ _ _ c.put_given.ensures w.given-is (ap lent_in w.self-is) w.call-given.ensures.makes
  | in-Event w ↦ acted_made _ c.args.read _ _ _ _ _ _ K.Event w.in-Event.is refl c.requires.0 _ _ _ c.put_given.ensures w.given-is (ap lent_in w.self-is) (w.event-given.ensures _ _)
  | in-Resume w ↦ acted_made _ c.args.read _ _ _ _ _ _ K.Resume w.in-Resume.is refl c.requires.0 _ _ _ c.put_given.ensures w.given-is (ap lent_in w.self-is) (w.resume-given.ensures _ _)
  | in-Deposit w ↦ acted_made _ c.args.read _ _ _ _ _ _ K.Deposit w.in-Deposit.is refl c.requires.0 _ _ _ c.put_given.ensures w.given-is (ap lent_in w.self-is) w.deposit-given.ensures.makes
  | in-Latch w ↦
      acted_made _ c.args.read _ _ _ _ _ _ K.Latch w.in-Latch.is refl c.requires.0 _ _ _ c.put_given.ensures w.given-is (ap lent_in w.self-is)
      (ap (λ z. table_step (latch (get_or c.args.read.fields 0 0) z) (lent_in c.args.self.now)) (sym (ap word_of (to_z-of_z w32 w.of_word.result (record { sfits = w.of_word.type_inv })) ∙ w.of_word.ensures)) ∙ w.latch-given.ensures _ _)
]
