-- The table holds exactly one good state: the image of a good state reads back as that state, and it is well formed.
use Rattle.std.specs.Prelude.{ℕ, ◌+◌, ◌*◌, ◌≤◌, ◌<◌, ◌≡◌, true, List, [], ◌∷◌, ◌++◌, ◌↔◌, length, get_or, eqb}
use Rattle.std.proofs.Math.Path.{refl}
use Rattle.std.proofs.Common.{sym, ap, ap₂, ◌∙◌, arith, length-append, eqb-true, eq-eqb, leb-true}
use Rattle.definition.specs.Limits.{max_processes, max_drivers}
use Rattle.definition.specs.Board.{areas_at, good_board}
use Rattle.definition.specs.State.{no_process, free, State}
use Rattle.definition.specs.World.{process_at}
use Rattle.definition.specs.WellFormed.{good_process, good_state}
use Rattle.definition.specs.Words.{part, same_words, tabulate, grid}
use Rattle.definition.specs.Image.{claim_words, read_claim, words_in_claim, process_words, read_process, run_words, drivers_from, board_words, board_at, claims_from, runs_from, table_words, image_of, run_of, state_of, well_formed}
use Rattle.laws.specs.Facts.{clash, both, and, each_holds, below_at}
use Rattle.laws.specs.Rows.{tab_read, part_at_lem, part_all, part_skip, grid_length, grid_row}
use Rattle.laws.specs.Codec.{claim_back, process_length, process_back, Sized}
use Rattle.laws.specs.BoardWords.{board_length, board_back}
use Rattle.laws.specs.BoardWords as BoardWords

-- ---- the parts of the image: the board, the claims, the runs

abbrev pub board_in : State → List ℕ
board_in s = board_words max_processes max_drivers s.board

abbrev pub claims_in : State → List ℕ
claims_in s = grid claim_words free max_drivers s.claims

abbrev pub runs_in : State → List ℕ
runs_in s = grid process_words no_process max_processes s.processes

module _ (s : State) where
  pub in_three : image_of s ≡ board_in s ++ (claims_in s ++ runs_in s)
  unfolding image_of
  in_three = refl

  pub board_in_lem : length (board_in s) ≡ claims_from
  board_in_lem = board_length max_processes max_drivers s.board

  pub claims_length : length (claims_in s) ≡ max_drivers * words_in_claim
  claims_length = grid_length claim_words free words_in_claim (λ x. refl) max_drivers s.claims

  runs_length : length (runs_in s) ≡ max_processes * run_words
  runs_length = grid_length process_words no_process run_words process_length max_processes s.processes

  pub image_length : length (image_of s) ≡ table_words
  image_length = ap length in_three ∙ simp length-append (omega (arith, board_in_lem, claims_length, runs_length))

  pub processes_count : get_or (image_of s) 0 0 ≡ length s.board.processes
  processes_count = BoardWords.processes_count max_processes max_drivers s.board (image_of s) (claims_in s ++ runs_in s) in_three

  pub drivers_count : get_or (image_of s) drivers_from 0 ≡ length s.board.drivers
  drivers_count = BoardWords.drivers_count max_processes max_drivers s.board (image_of s) (claims_in s ++ runs_in s) in_three

  pub claims_part : part claims_from (max_drivers * words_in_claim) (image_of s) ≡ claims_in s
  claims_part =
      ap (part claims_from (max_drivers * words_in_claim)) in_three ∙ part_skip (board_in s) (claims_in s ++ runs_in s) claims_from 0 (max_drivers * words_in_claim) board_in_lem
      ∙ part_at_lem (claims_in s) (runs_in s) (max_drivers * words_in_claim) claims_length

  pub runs_part : part runs_from (max_processes * run_words) (image_of s) ≡ runs_in s
  runs_part =
      ap (part runs_from (max_processes * run_words)) in_three ∙ part_skip (board_in s) (claims_in s ++ runs_in s) claims_from (max_drivers * words_in_claim) (max_processes * run_words) board_in_lem
      ∙ part_skip (claims_in s) (runs_in s) (max_drivers * words_in_claim) 0 (max_processes * run_words) claims_length
      ∙ part_all (runs_in s) (max_processes * run_words) runs_length

  -- one driver's claim, and one process's run
  pub claim_at_lem : (k : ℕ) → k < max_drivers → part (claims_from + k * words_in_claim) words_in_claim (image_of s) ≡ claim_words (get_or s.claims k free)
  claim_at_lem k h = grid_row claim_words free words_in_claim (λ x. refl) max_drivers s.claims (image_of s) claims_from k claims_part h

  pub run_at_lem : (p : ℕ) → p < max_processes → run_of (image_of s) p ≡ process_words (get_or s.processes p no_process)
  unfolding run_of
  run_at_lem p h = grid_row process_words no_process run_words process_length max_processes s.processes (image_of s) runs_from p runs_part h

-- ---- the image read back

-- what the table has room for, and how many of each there are
pub record Shaped (s : State) : Type 0 where
  pub processes : length s.board.processes ≤ max_processes
  pub drivers : length s.board.drivers ≤ max_drivers
  pub runs : length s.processes ≡ length s.board.processes
  pub claims : length s.claims ≡ length s.board.drivers
  pub sized : (p : ℕ) → p < length s.board.processes → Sized (get_or s.processes p no_process)

pub state_back : (s : State) → Shaped s → state_of (image_of s) ≡ s
unfolding state_of
state_back s g =
    let few : length s.board.processes ≤ max_processes = g.processes in
    let few' : length s.board.drivers ≤ max_drivers = g.drivers in
    let board : board_at (image_of s) drivers_from ≡ s.board = board_back max_processes max_drivers s.board (image_of s) (claims_in s ++ runs_in s) (in_three s) few few' in
    let claims : tabulate (length s.board.drivers) (λ k. read_claim (image_of s) (claims_from + k * words_in_claim)) ≡ s.claims =
    tab_read _ _ s.claims free g.claims (λ k h. claim_back (image_of s) (claims_from + k * words_in_claim) (get_or s.claims k free) (claim_at_lem s k (omega arith))) in
    let processes : tabulate (length s.board.processes) (λ p. read_process (run_of (image_of s) p)) ≡ s.processes =
    tab_read _ _ s.processes no_process g.runs (λ p h. ap read_process (run_at_lem s p (omega arith)) ∙ process_back (get_or s.processes p no_process) (g.sized p h)) in
    let claims' : tabulate (get_or (image_of s) drivers_from 0) (λ k. read_claim (image_of s) (claims_from + k * words_in_claim)) ≡ s.claims = rw (drivers_count s) claims in
    let processes' : tabulate (get_or (image_of s) 0 0) (λ p. read_process (run_of (image_of s) p)) ≡ s.processes = rw (processes_count s) processes in
    λ i. record { board = board i; processes = processes' i; claims = claims' i }

-- a good state fits
pub shaped : (s : State) → good_state s ≡ true → Shaped s
unfolding good_state good_board good_process
shaped s g =
    let h = each_holds _ g in
    let b = each_holds _ h.0 in
    let n = length s.board.processes in
    record {
      processes = leb-true _ _ b.1.0;
      drivers = leb-true _ _ b.1.1.0;
      runs = eqb-true _ _ h.1.0;
      claims = eqb-true _ _ h.1.1.0;
      sized = λ p q.
          let z = each_holds _ (below_at n (λ p. good_process s.board (areas_at s.board p) (process_at s p)) h.1.1.1.0 p q) in
          record { slots = eqb-true _ _ z.1.1.0; queue = leb-true _ _ z.1.1.1.1.0 };
    }

pub good_back : (s : State) → good_state s ≡ true → state_of (image_of s) ≡ s
good_back s g = state_back s (shaped s g)

-- ---- well-formed tables are the images of the good states, each of one

pub same_words_lem : (l : List ℕ) → same_words l l ≡ true
unfolding same_words
same_words_lem [] = refl
same_words_lem (x ∷ l) = and (eq-eqb x x refl) (same_words_lem l)

words_same : (l m : List ℕ) → same_words l m ≡ true → l ≡ m
unfolding same_words
words_same [] [] e = refl
words_same [] (y ∷ m) e = clash e refl
words_same (x ∷ l) [] e = clash e refl
words_same (x ∷ l) (y ∷ m) e = let (p, q) = both (eqb x y) (same_words l m) e in ap₂ {C = List ℕ} (λ a r. a ∷ r) (eqb-true x y p) (words_same l m q)

pub image_well_formed : (s : State) → good_state s ≡ true → well_formed (image_of s) ≡ true
unfolding well_formed
image_well_formed s g = rw (good_back s g) (and g (same_words_lem (image_of s)))

-- a well-formed table is the image of the state that it reads as
pub image_again : (t : List ℕ) → well_formed t ≡ true → image_of (state_of t) ≡ t
unfolding well_formed
image_again t e = words_same (image_of (state_of t)) t (both (good_state (state_of t)) (same_words (image_of (state_of t)) t) e).1

pub well_formed_good : (t : List ℕ) → well_formed t ≡ true → good_state (state_of t) ≡ true
unfolding well_formed
well_formed_good t e = (both (good_state (state_of t)) (same_words (image_of (state_of t)) t) e).0

-- well-formed tables are the images of the good states, each of one
pub record OneImage : Type 0 where
  pub back : (s : State) → good_state s ≡ true → state_of (image_of s) ≡ s
  pub one : (s s' : State) → good_state s ≡ true → good_state s' ≡ true → image_of s ≡ image_of s' → s ≡ s'
  pub well_formed : (t : List ℕ) → (well_formed t ≡ true) ↔ ((s : State) × (good_state s ≡ true) × (t ≡ image_of s))

pub one_image : OneImage
one_image = record {
  back = good_back;
  one = λ s s' g g' e. sym (good_back s g) ∙ ap state_of e ∙ good_back s' g';
  well_formed = λ t. (λ e. (state_of t, well_formed_good t e, sym (image_again t e)), λ (s, g, e). ap well_formed e ∙ image_well_formed s g);
}
