-- A run over tables, from the image of a good state, is the image of a run over states in which row 1 is checked first.
use Rattle.std.specs.Prelude.{ℕ, ◌≡◌, refl, Bool, true, false, List, [], ◌∷◌, length, eqb}
use Rattle.std.proofs.Common.{◌∙◌}
use Rattle.definition.specs.Tests.{provided◌then◌else◌, first_of}
use Rattle.definition.specs.World.{World, Step, own, latch, Out, perform, latch_step, step}
use Rattle.definition.specs.Runs.{run, answers_to}
use Rattle.definition.specs.Table.{Lent, wrong_image, refuse_step, world_of, lent_of, out_of, table_step}
use Rattle.laws.specs.Facts.{either}
use Rattle.laws.specs.Stores.{length_store}
use Rattle.laws.specs.Good.{Good, of_good}
use Rattle.laws.specs.Kept.{step_keeps}
use Rattle.laws.specs.ImageBack.{good_back, image_well_formed}
use Rattle.promises.specs.History.{Heard, heard, history_of}

-- the step over states, behind row 1
unfoldable pub guarded : Step → World → Out World
guarded s w = provided wrong_image s (lent_of w) then record { answer = refuse_step s 1; after = w } else step s w

pub guarded_keeps : (s : Step) (w : World) → Good w.state → Good (guarded s w).after.state
unfolding guarded
guarded_keeps s w g = either (λ (o : Out World). Good o.after.state) _ _ _ (λ _. g) λ _. step_keeps s w g

pub run_keeps : (l : List Step) (w : World) → Good w.state → Good (run guarded l w).state
unfolding run
run_keeps [] w g = g
run_keeps (s ∷ l) w g = run_keeps l (guarded s w).after (guarded_keeps s w g)

-- no step changes the board
step_board : (s : Step) (w : World) → (step s w).after.state.board ≡ w.state.board
unfolding step perform latch_step
step_board (own p a) w = refl
step_board (latch driver peak) w = either (λ (o : Out World). o.after.state.board ≡ w.state.board) _ _ _ (λ _. refl) λ _. refl

pub guarded_board : (s : Step) (w : World) → (guarded s w).after.state.board ≡ w.state.board
unfolding guarded
guarded_board s w = either (λ (o : Out World). o.after.state.board ≡ w.state.board) _ _ _ (λ _. refl) λ _. step_board s w

pub run_board : (l : List Step) (w : World) → (run guarded l w).state.board ≡ w.state.board
unfolding run
run_board [] w = refl
run_board (s ∷ l) w = run_board l (guarded s w).after ∙ guarded_board s w

-- ---- tables

-- no step changes the length of the memory image
step_length : (s : Step) (w : World) → length (step s w).after.memory ≡ length w.memory
unfolding step perform latch_step
step_length (own p a) w = length_store _ w.memory
step_length (latch driver peak) w = either (λ (o : Out World). length o.after.memory ≡ length w.memory) _ _ _ (λ _. refl) λ _. refl

table_length : (s : Step) (x : Lent) → length (table_step s x).after.memory ≡ length x.memory
unfolding table_step
table_length s x = either (λ (o : Out Lent). length o.after.memory ≡ length x.memory) _ _ _ (λ _. step_length s (world_of x)) λ _. refl

pub run_length : (l : List Step) (x : Lent) → length (run table_step l x).memory ≡ length x.memory
unfolding run
run_length [] x = refl
run_length (s ∷ l) x = run_length l (table_step s x).after ∙ table_length s x

pub table_step_lem : (s : Step) (w : World) → Good w.state → table_step s (lent_of w) ≡ out_of (guarded s w)
unfolding table_step guarded provided◌then◌else◌ first_of
table_step_lem s w g =
    rw (image_well_formed w.state (of_good w.state g), good_back w.state (of_good w.state g)) (go (wrong_image s (lent_of w)))
  where
    go : (t : Bool) → (provided eqb (provided t then 1 else 0) 0 then out_of (step s w) else record { answer = refuse_step s (provided t then 1 else 0); after = lent_of w })
        ≡ out_of (provided t then record { answer = refuse_step s 1; after = w } else step s w)
    go true = refl
    go false = refl

pub table_run : (l : List Step) (w : World) → Good w.state → run table_step l (lent_of w) ≡ lent_of (run guarded l w)
unfolding run
table_run [] w g = refl
table_run (s ∷ l) w g = rw (table_step_lem s w g) (table_run l (guarded s w).after (guarded_keeps s w g))

pub table_answers : (f : Step → Bool) (l : List Step) (w : World) → Good w.state → answers_to table_step f l (lent_of w) ≡ answers_to guarded f l w
unfolding answers_to
table_answers f [] w g = refl
table_answers f (s ∷ l) w g = rw (table_step_lem s w g, table_answers f l (guarded s w).after (guarded_keeps s w g))

pub table_history : (a : ℕ) (l : List Step) (w : World) (hs : List Heard) → Good w.state → history_of table_step a l (lent_of w) hs ≡ history_of guarded a l w hs
unfolding history_of
table_history a [] w hs g = refl
table_history a (s ∷ l) w hs g = rw (table_step_lem s w g) (table_history a l (guarded s w).after (heard a s (guarded s w).answer hs) (guarded_keeps s w g))
