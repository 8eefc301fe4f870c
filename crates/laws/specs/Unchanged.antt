-- A refusal and a Failure change nothing, over states and over tables; nor does a call that is set aside.
use Rattle.std.specs.Prelude.{ℕ, suc, ◌≡◌, Bool, true, false, ◌&&◌, ◌||◌, not, List, [], ◌∷◌, get_or, eqb}
use Rattle.std.proofs.Math.Path.{refl, ap}
use Rattle.std.proofs.Common.{◌∙◌, eqb-true}
use Rattle.std.proofs.Math.ListN.{set}
use Rattle.std.proofs.Math.Seq.{set-get_or}
use Rattle.std.proofs.lemmas.Bool.{not-false}
use Rattle.definition.specs.Tests.{provided◌then◌else◌}
use Rattle.definition.specs.State.{Status, no_process, Upcall, Claim, free}
use Rattle.definition.specs.Answer.{Answer, nothing, waits, failure, success, success_with1, RESERVE, changes_nothing}
use Rattle.definition.specs.Call.{aside, decode}
use Rattle.definition.specs.Decide.{Action, call, Outcome, answers, exchanges, polls, awaits, moves, leaves, queues, writes, commands, decide_call, decide_accepted, decide}
use Rattle.definition.specs.World.{is_free, owns, with_owner, command_answer, after_command, deliver, answer_of, process_after, claims_after, write_of, no_write, World, Step, own, latch, Out, process_at, view_of, store, perform, latch_step, step}
use Rattle.definition.specs.Image.{image_of, state_of, well_formed}
use Rattle.definition.specs.Table.{Lent, table_step, start, world_of, lent_of}
use Rattle.laws.specs.Facts.{clash, either, passed}
use Rattle.laws.specs.Why.{Why, Because, Left, ended, again}
use Rattle.laws.specs.Stores.{store_nothing}
use Rattle.laws.specs.Kept.{decided, decided_why}
use Rattle.laws.specs.ImageBack.{image_again}

deliver_tells : (x : Answer) (q : List Upcall) → changes_nothing x ≡ false → changes_nothing (deliver x q) ≡ false
deliver_tells x [] e = e
deliver_tells x (u ∷ q) e = refl

left_tells : {s : Status} {x : Answer} → Left s x → changes_nothing x ≡ false
left_tells (ended code) = refl
left_tells (again code) = refl

-- a command that fails leaves the claim
claim_kept : (p n : ℕ) (c : Claim) → changes_nothing (command_answer p n c) ≡ true → after_command p n c ≡ c
unfolding command_answer after_command provided◌then◌else◌
claim_kept p n c e = go (eqb n 1) (is_free c) (owns p c) (eqb n 2) e
  where
    go : (one free mine two : Bool)
        → changes_nothing (provided one then (provided free || mine then success else failure RESERVE) else provided not mine then failure RESERVE else provided two then success else success_with1 c.latch) ≡ true
        → (provided one && free then with_owner (suc p) c else provided two && mine then with_owner 0 c else c) ≡ c
    go true true mine two q = clash q refl
    go true false true two q = clash q refl
    go true false false true q = refl
    go true false false false q = refl
    go false free true true q = clash q refl
    go false free true false q = refl
    go false free false true q = refl
    go false free false false q = refl

-- ---- an outcome whose answer tells so

module _ (p : ℕ) (w : World) where
  -- the process's record is put back as it was
  pub put_back : set w.state.processes p (process_at w.state p) ≡ w.state.processes
  put_back = set-get_or w.state.processes p no_process

  pub unwritten : store no_write w.memory ≡ w.memory
  unwritten = store_nothing no_write w.memory refl

  pub answer_unchanged : (x : Answer) → (perform p (answers x) w).after ≡ w
  unfolding perform process_after claims_after write_of
  answer_unchanged x i = record { state = record { board = w.state.board; processes = put_back i; claims = w.state.claims }; memory = unwritten i; flash = w.flash }

  command_unchanged : (k n x y : ℕ) → changes_nothing (command_answer p n (get_or w.state.claims k free)) ≡ true → (perform p (commands k n x y) w).after ≡ w
  unfolding perform process_after claims_after write_of
  command_unchanged k n x y e =
      let same : set w.state.claims k (after_command p n (get_or w.state.claims k free)) ≡ w.state.claims =
      ap (set w.state.claims k) (claim_kept p n (get_or w.state.claims k free) e) ∙ set-get_or w.state.claims k free in
      λ i. record { state = record { board = w.state.board; processes = put_back i; claims = same i }; memory = unwritten i; flash = w.flash }

  outcome_unchanged : (a : Action) (o : Outcome) → Why (view_of w p) (process_at w.state p) a o → changes_nothing (answer_of p w.state.claims (process_at w.state p) o) ≡ true
      → (perform p o w).after ≡ w
  unfolding answer_of Because
  outcome_unchanged a (answers x) y e = answer_unchanged x
  outcome_unchanged a (exchanges kind k j x) y e = clash e refl
  outcome_unchanged a (polls address) y e = clash e (deliver_tells nothing (process_at w.state p).queue refl)
  outcome_unchanged a awaits y e = clash e (deliver_tells waits (process_at w.state p).queue refl)
  outcome_unchanged a (moves new x) y e = clash e y.because.tells
  outcome_unchanged a (leaves s x) y e = clash e (left_tells y.because)
  outcome_unchanged a (queues u) y e = clash e refl
  outcome_unchanged a (writes address bytes) y e = clash e refl
  outcome_unchanged a (commands k n x y') y e = command_unchanged k n x y' e

-- ---- steps over states

-- what is given leaves what it was given on, if its answer tells so
abbrev Keeps : {W : Type 0} → W → Out W → Type 0
Keeps w o = changes_nothing o.answer ≡ true → o.after ≡ w

step_unchanged : (s : Step) (w : World) → changes_nothing (step s w).answer ≡ true → (step s w).after ≡ w
unfolding step perform latch_step
step_unchanged (own p a) w e = outcome_unchanged p w a (decided p a w) (decided_why p a w) e
step_unchanged (latch driver peak) w e = either (Keeps w) _ _ _ (λ _ q. clash q refl) (λ _ q. refl) e

aside_unchanged : (p class r0 r1 r2 r3 : ℕ) (answer : Answer) → decode class r0 r1 r2 r3 ≡ aside answer → (w : World) → (step (own p (call class r0 r1 r2 r3)) w).after ≡ w
unfolding step decide decide_accepted decide_call
aside_unchanged p class r0 r1 r2 r3 answer e w = either (λ o. (perform p o w).after ≡ w) _ _ _ (λ _. rw e (answer_unchanged p w answer)) λ _. answer_unchanged p w _

-- ---- steps over tables: whatever is lent

table_unchanged : (s : Step) (x : Lent) → changes_nothing (table_step s x).answer ≡ true → (table_step s x).after ≡ x
unfolding table_step
table_unchanged s x e = either (Keeps x) _ _ _ (λ t q.
    let well : well_formed x.table ≡ true = not-false _ (passed _ _ _ (passed _ _ _ (eqb-true _ 0 t)).1).0 in
    let again : image_of (state_of x.table) ≡ x.table = image_again x.table well in
    ap lent_of (step_unchanged s (world_of x) q) ∙ (λ i. record { table = again i; memory = x.memory; flash = x.flash })) (λ _ q. refl) e

start_unchanged : (words : List ℕ) (x : Lent) → changes_nothing (start words x).answer ≡ true → (start words x).after ≡ x
unfolding start
start_unchanged words x e = either (Keeps x) _ _ _ (λ _ q. clash q refl) (λ _ q. refl) e

-- what leaves all as it was
pub record Unchanged : Type 0 where
  -- a step, over states and over whatever is lent, whose answer tells so
  pub states : (s : Step) (w : World) → changes_nothing (step s w).answer ≡ true → (step s w).after ≡ w
  pub tables : (s : Step) (x : Lent) → changes_nothing (table_step s x).answer ≡ true → (table_step s x).after ≡ x
  -- a start that is refused
  pub starts : (words : List ℕ) (x : Lent) → changes_nothing (start words x).answer ≡ true → (start words x).after ≡ x
  -- a call whose registers are set aside, as those of an unknown yield
  pub asides : (p class r0 r1 r2 r3 : ℕ) (answer : Answer) → decode class r0 r1 r2 r3 ≡ aside answer → (w : World) → (step (own p (call class r0 r1 r2 r3)) w).after ≡ w

pub unchanged : Unchanged
unchanged = record { states = step_unchanged; tables = table_unchanged; starts = start_unchanged; asides = aside_unchanged }
