-- When words have the form of a table: a test of the words alone. With it, a table is well formed exactly if the state that it reads as is good.
use Rattle.std.specs.Prelude.{ℕ, zero, suc, ◌+◌, ◌-◌, ◌*◌, ◌≤◌, ◌<◌, ◌≡◌, Bool, true, ◌&&◌, List, [], ◌∷◌, ◌++◌, length, drop, leb, ltb, eqb}
use Rattle.std.proofs.Math.Path.{refl, sym, ap₂}
use Rattle.std.proofs.Common.{ap, ◌∙◌, arith, length-drop, take_all, leb-true, ltb-true, eqb-true, le-leb, lt-ltb, eq-eqb}
use Rattle.std.proofs.Math.ListN.{get_or}
use Rattle.definition.specs.Tests.{all_of, every_below}
use Rattle.definition.specs.Limits.{max_processes, max_drivers, max_queue, all_slots, areas_words, driver_words}
use Rattle.definition.specs.Board.{no_areas, no_driver}
use Rattle.definition.specs.State.{null, no_upcall, Status, running, waiting, exited, Process, no_process, free, State}
use Rattle.definition.specs.WellFormed.{good_state}
use Rattle.definition.specs.Words.{part, grid}
use Rattle.definition.specs.Image.{pair_words, read_pair, words_in_pair, upcall_words, read_upcall, words_in_upcall, claim_words, read_claim, words_in_claim, words_of_areas, words_of_driver, status_number, status_of, slots_from, queue_from, run_words, process_words, read_process, areas_from, drivers_from, claims_from, runs_from, table_words, board_words, image_of, run_of, state_of, well_formed}
use Rattle.laws.specs.Facts.{both, and, both_ways, each_holds, all_hold, below_at, at_below}
use Rattle.laws.specs.Rows.{tab_length, part_all, part_length, part_part, words_at, words_part, grid_full}
use Rattle.laws.specs.Codec.{pair_words_lem, upcall_words_lem, claim_words_lem, process_length, status_word, count_word, queue_part, Sized, no_process_lem}
use Rattle.laws.specs.BoardWords.{areas_part, drivers_part, board_again}
use Rattle.laws.specs.ImageBack.{claims_in, runs_in, in_three, image_length, processes_count, drivers_count, claims_part, runs_part, run_at_lem, Shaped, shaped, image_well_formed, image_again, well_formed_good}
use Rattle.laws.specs.Reads.{slots_count, queue_count}
use Rattle.laws.specs.Zero.{all_zero, zero_between, rows_again, rows_zero, side_by_side}

-- ---- the tests

-- a run: a status, a queue within its limit, and zeros after the queue
unfoldable pub run_form : List ℕ → Bool
run_form run = all_of (ltb (get_or run 0 0) 3 ∷ leb (get_or run 2 0) max_queue ∷ all_zero (drop (queue_from + get_or run 2 0 * words_in_upcall) run) ∷ [])

-- a table: its length, its two counts, zeros after what each part holds, and the runs
unfoldable pub table_form : List ℕ → Bool
table_form t =
    all_of (eqb (length t) table_words ∷ leb (get_or t 0 0) max_processes ∷ leb (get_or t drivers_from 0) max_drivers
    ∷ zero_between (areas_from + get_or t 0 0 * areas_words) drivers_from t
    ∷ zero_between (drivers_from + 1 + get_or t drivers_from 0 * driver_words) claims_from t
    ∷ zero_between (claims_from + get_or t drivers_from 0 * words_in_claim) runs_from t
    ∷ zero_between (runs_from + get_or t 0 0 * run_words) table_words t
    ∷ every_below (get_or t 0 0) (λ p. run_form (run_of t p)) ∷ [])

-- ---- what they tell

pub record RunForm (run : List ℕ) : Type 0 where
  pub status : get_or run 0 0 < 3
  pub count : get_or run 2 0 ≤ max_queue
  pub after_queue : all_zero (drop (queue_from + get_or run 2 0 * words_in_upcall) run) ≡ true

pub run_form_true : (run : List ℕ) → run_form run ≡ true → RunForm run
unfolding run_form
run_form_true run e =
    let h = each_holds _ e in
    record { status = ltb-true _ _ h.0; count = leb-true _ _ h.1.0; after_queue = h.1.1.0 }

pub true_run_form : (run : List ℕ) → RunForm run → run_form run ≡ true
unfolding run_form
true_run_form run f = all_hold _ (lt-ltb _ _ f.status, (le-leb _ _ f.count, (f.after_queue, tt)))

pub record TableForm (t : List ℕ) : Type 0 where
  pub size : length t ≡ table_words
  pub processes : get_or t 0 0 ≤ max_processes
  pub drivers : get_or t drivers_from 0 ≤ max_drivers
  pub after_areas : zero_between (areas_from + get_or t 0 0 * areas_words) drivers_from t ≡ true
  pub after_drivers : zero_between (drivers_from + 1 + get_or t drivers_from 0 * driver_words) claims_from t ≡ true
  pub after_claims : zero_between (claims_from + get_or t drivers_from 0 * words_in_claim) runs_from t ≡ true
  pub after_runs : zero_between (runs_from + get_or t 0 0 * run_words) table_words t ≡ true
  pub runs : (p : ℕ) → p < get_or t 0 0 → RunForm (run_of t p)

pub table_form_true : (t : List ℕ) → table_form t ≡ true → TableForm t
unfolding table_form
table_form_true t e =
    let h = each_holds _ e in
    record {
      size = eqb-true _ _ h.0;
      processes = leb-true _ _ h.1.0;
      drivers = leb-true _ _ h.1.1.0;
      after_areas = h.1.1.1.0;
      after_drivers = h.1.1.1.1.0;
      after_claims = h.1.1.1.1.1.0;
      after_runs = h.1.1.1.1.1.1.0;
      runs = λ p q. run_form_true (run_of t p) (below_at (get_or t 0 0) (λ p. run_form (run_of t p)) h.1.1.1.1.1.1.1.0 p q);
    }

pub true_table_form : (t : List ℕ) → TableForm t → table_form t ≡ true
unfolding table_form
true_table_form t f =
    let runs = at_below (get_or t 0 0) (λ p. run_form (run_of t p)) (λ p q. true_run_form (run_of t p) (f.runs p q)) in
    all_hold _ (eq-eqb _ _ f.size, (le-leb _ _ f.processes, (le-leb _ _ f.drivers, (f.after_areas, (f.after_drivers, (f.after_claims, (f.after_runs, (runs, tt))))))))

-- ---- a process

status_again : (n : ℕ) → n < 3 → status_number (status_of n) ≡ n
status_again zero h = refl
status_again (suc zero) h = refl
status_again (suc (suc zero)) h = refl
status_again (suc (suc (suc n))) h = absurd (omega arith)

status_small : (s : Status) → status_number s < 3
status_small running = omega arith
status_small waiting = omega arith
status_small exited = omega arith

-- zero up to the end of a run
to_the_end_lem : (a : ℕ) (run : List ℕ) → length run ≡ run_words → zero_between a run_words run ≡ all_zero (drop a run)
unfolding zero_between part
to_the_end_lem a run size = ap all_zero (take_all (run_words - a) (drop a run) (simp length-drop (omega arith)))

module _ (run : List ℕ) (size : length run ≡ run_words) (f : RunForm run) where
  slots_again : grid pair_words null all_slots (read_process run).slots ≡ part slots_from (all_slots * words_in_pair) run
  unfolding read_process
  slots_again =
      grid_full pair_words null words_in_pair (λ x. refl) all_slots (λ i. read_pair run (slots_from + i * words_in_pair)) (part slots_from (all_slots * words_in_pair) run)
      (part_length slots_from (all_slots * words_in_pair) run (omega arith))
      (λ i h. pair_words_lem run (slots_from + i * words_in_pair) (omega arith) ∙ sym (part_part slots_from (all_slots * words_in_pair) (i * words_in_pair) words_in_pair run (omega arith)))

  queue_again : grid upcall_words no_upcall max_queue (read_process run).queue ≡ part queue_from (max_queue * words_in_upcall) run
  unfolding read_process
  queue_again =
      rows_again run queue_from max_queue (get_or run 2 0) words_in_upcall upcall_words no_upcall (λ x. refl) refl f.count (λ i. read_upcall run (queue_from + i * words_in_upcall)) (omega arith)
      (λ i h. upcall_words_lem run (queue_from + i * words_in_upcall) (omega arith))
      (to_the_end_lem (queue_from + get_or run 2 0 * words_in_upcall) run size ∙ f.after_queue)

  head_again : status_number (read_process run).status ∷ (read_process run).break ∷ length (read_process run).queue ∷ [] ≡ part 0 slots_from run
  unfolding read_process words_at
  head_again =
      ap₂ (λ (s n : ℕ). s ∷ get_or run 1 0 ∷ n ∷ []) (status_again (get_or run 0 0) f.status) (tab_length (get_or run 2 0) (λ i. read_upcall run (queue_from + i * words_in_upcall)))
      ∙ words_part slots_from 0 run (omega arith)

  pub process_again : process_words (read_process run) ≡ run
  unfolding process_words
  process_again =
      side_by_side run 0 slots_from (all_slots * words_in_pair + max_queue * words_in_upcall) head_again
      (side_by_side run slots_from (all_slots * words_in_pair) (max_queue * words_in_upcall) slots_again queue_again)
      ∙ part_all run run_words size

  pub process_sized : Sized (read_process run)
  process_sized = record { slots = slots_count run; queue = rw (queue_count run) f.count }

pub process_form : (p : Process) → Sized p → run_form (process_words p) ≡ true
process_form p z =
    let run = process_words p in
    let n : get_or run 2 0 ≡ length p.queue = count_word p in
    let few : get_or run 2 0 ≤ max_queue = omega arith in
    true_run_form run (record {
      status = rw (status_word p) (status_small p.status);
      count = few;
      after_queue =
          sym (to_the_end_lem (queue_from + get_or run 2 0 * words_in_upcall) run (process_length p))
          ∙ rows_zero run queue_from max_queue (get_or run 2 0) words_in_upcall upcall_words no_upcall (λ x. refl) refl few p.queue (sym n) (queue_part p);
    })

-- ---- the table

module _ (t : List ℕ) (f : TableForm t) where
  pub run_length : (p : ℕ) → p < max_processes → length (run_of t p) ≡ run_words
  unfolding run_of
  run_length p h = part_length (runs_from + p * run_words) run_words t (omega (arith, f.size))

  board_is : board_words max_processes max_drivers (state_of t).board ≡ part 0 claims_from t
  unfolding state_of
  board_is = board_again t max_processes max_drivers (omega (arith, f.size)) f.processes f.drivers f.after_areas f.after_drivers

  claims_again : grid claim_words free max_drivers (state_of t).claims ≡ part claims_from (max_drivers * words_in_claim) t
  unfolding state_of
  claims_again =
      rows_again t claims_from max_drivers (get_or t drivers_from 0) words_in_claim claim_words free (λ x. refl) refl f.drivers (λ k. read_claim t (claims_from + k * words_in_claim)) (omega arith)
      (λ k h. claim_words_lem t (claims_from + k * words_in_claim) (omega arith)) f.after_claims

  runs_again : grid process_words no_process max_processes (state_of t).processes ≡ part runs_from (max_processes * run_words) t
  unfolding state_of run_of
  runs_again =
      rows_again t runs_from max_processes (get_or t 0 0) run_words process_words no_process process_length no_process_lem f.processes (λ p. read_process (run_of t p)) (omega arith)
      (λ p h. process_again (run_of t p) (run_length p (omega arith)) (f.runs p h)) f.after_runs

  pub table_again : image_of (state_of t) ≡ t
  unfolding image_of
  table_again =
      side_by_side t 0 claims_from (max_drivers * words_in_claim + max_processes * run_words) board_is
      (side_by_side t claims_from (max_drivers * words_in_claim) (max_processes * run_words) claims_again runs_again)
      ∙ part_all t table_words f.size

-- ---- the image of a state

pub image_form : (s : State) → Shaped s → TableForm (image_of s)
image_form s g =
    let t = image_of s in
    let n : get_or t 0 0 ≡ length s.board.processes = processes_count s in
    let m : get_or t drivers_from 0 ≡ length s.board.drivers = drivers_count s in
    let few : get_or t 0 0 ≤ max_processes = omega arith in
    let few' : get_or t drivers_from 0 ≤ max_drivers = omega arith in
    record {
      size = image_length s;
      processes = few;
      drivers = few';
      after_areas = rows_zero t areas_from max_processes (get_or t 0 0) areas_words words_of_areas no_areas (λ x. refl) refl few s.board.processes (sym n) (areas_part max_processes max_drivers s.board t (claims_in s ++ runs_in s) (in_three s));
      after_drivers = rows_zero t (drivers_from + 1) max_drivers (get_or t drivers_from 0) driver_words words_of_driver no_driver (λ x. refl) refl few' s.board.drivers (sym m) (drivers_part max_processes max_drivers s.board t (claims_in s ++ runs_in s) (in_three s));
      after_claims = rows_zero t claims_from max_drivers (get_or t drivers_from 0) words_in_claim claim_words free (λ x. refl) refl few' s.claims (g.claims ∙ sym m) (claims_part s);
      after_runs = rows_zero t runs_from max_processes (get_or t 0 0) run_words process_words no_process process_length no_process_lem few s.processes (g.runs ∙ sym n) (runs_part s);
      runs = λ p h.
          let sized = g.sized p (omega arith) in
          run_form_true (run_of t p) (ap run_form (run_at_lem s p (omega arith)) ∙ process_form (get_or s.processes p no_process) sized);
    }

-- ---- the two tests agree

pub well_formed_by_form : (t : List ℕ) → (table_form t && good_state (state_of t)) ≡ well_formed t
well_formed_by_form t = both_ways _ _
    (λ h. let (form, good) = both (table_form t) (good_state (state_of t)) h in
    ap well_formed (sym (table_again t (table_form_true t form))) ∙ image_well_formed (state_of t) good)
    (λ h. let good = well_formed_good t h in
    and (ap table_form (sym (image_again t h)) ∙ true_table_form (image_of (state_of t)) (image_form (state_of t) (shaped (state_of t) good))) good)
