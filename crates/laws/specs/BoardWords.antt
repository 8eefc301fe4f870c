-- A board's words: they read back as that board, and words of its form are those of the board that they read as. Stated once, for any room: a
-- board as it is lent has room for just its own rows, the table for the largest board.
use Rattle.std.specs.Prelude.{ℕ, ◌+◌, ◌*◌, ◌≤◌, ◌<◌, ◌≡◌, true, ◌↔◌, get_or, eqb}
use Rattle.std.proofs.Math.Path.{refl, ap}
use Rattle.std.proofs.Common.{sym, ◌∙◌, eqb-true, eq-eqb}
use mathlib.Core.List.{List, [], ◌∷◌, ◌++◌, append_assoc, append-nil}
use native.Mathlib.Omega.{arith}
use Rattle.std.proofs.Math.ListN.{length, length-append}
use Rattle.definition.specs.Limits.{areas_words, driver_words}
use Rattle.definition.specs.Board.{Board, no_areas, no_driver, good_board}
use Rattle.definition.specs.Words.{part, tabulate, grid}
use Rattle.definition.specs.Image.{words_of_areas, read_areas, words_of_driver, read_driver, areas_from, count_at, board_words, lent_board, board_at, board_of, good_board_words}
use Rattle.laws.specs.Facts.{both, and}
use Rattle.laws.specs.Rows.{tab_length, tab_read, part_at_lem, part_all, part_skip, words_at, words_part, grid_length, grid_row}
use Rattle.laws.specs.Codec.{first_of, areas_back, driver_back, areas_words_lem, driver_words_lem}
use Rattle.laws.specs.Zero.{zero_between, none_between, rows_again, side_by_side}

-- ---- the words of a board with room for m processes and n drivers, and whatever follows them

module _ (m n : ℕ) (b : Board) where
  abbrev areas_in : List ℕ
  areas_in = grid words_of_areas no_areas m b.processes

  abbrev drivers_in : List ℕ
  drivers_in = grid words_of_driver no_driver n b.drivers

  areas_length : length areas_in ≡ m * areas_words
  areas_length = grid_length words_of_areas no_areas areas_words (λ x. refl) m b.processes

  drivers_length : length drivers_in ≡ n * driver_words
  drivers_length = grid_length words_of_driver no_driver driver_words (λ x. refl) n b.drivers

  pub board_length : length (board_words m n b) ≡ count_at m + 1 + n * driver_words
  unfolding board_words
  board_length = simp length-append (omega (arith, areas_length, drivers_length))

  module _ (t r : List ℕ) (e : t ≡ board_words m n b ++ r) where
    abbrev from_count : List ℕ
    from_count = (length b.drivers ∷ []) ++ (drivers_in ++ r)

    pub spread : t ≡ (length b.processes ∷ []) ++ (areas_in ++ from_count)
    unfolding board_words
    spread = e ∙ simp append_assoc

    pub processes_count : get_or t 0 0 ≡ length b.processes
    processes_count = ap (λ (l : List ℕ). get_or l 0 0) spread

    pub areas_part : part areas_from (m * areas_words) t ≡ areas_in
    areas_part =
        ap (part areas_from (m * areas_words)) spread
        ∙ part_skip (length b.processes ∷ []) (areas_in ++ from_count) areas_from 0 (m * areas_words) refl
        ∙ part_at_lem areas_in from_count (m * areas_words) areas_length

    past_areas : (c k : ℕ) → part (count_at m + c) k t ≡ part c k from_count
    past_areas c k =
        ap (part (count_at m + c) k) spread
        ∙ ap (λ (i : ℕ). part i k ((length b.processes ∷ []) ++ (areas_in ++ from_count))) (omega arith)
        ∙ part_skip (length b.processes ∷ []) (areas_in ++ from_count) areas_from (m * areas_words + c) k refl
        ∙ part_skip areas_in from_count (m * areas_words) c k areas_length

    pub drivers_count : get_or t (count_at m) 0 ≡ length b.drivers
    unfolding part
    drivers_count =
        let z : count_at m ≡ count_at m + 0 = omega arith in
        first_of t (length b.drivers ∷ []) (count_at m) 1 (ap (λ (i : ℕ). part i 1 t) z ∙ past_areas 0 1) (omega arith)

    pub drivers_part : part (count_at m + 1) (n * driver_words) t ≡ drivers_in
    drivers_part =
        past_areas 1 (n * driver_words)
        ∙ part_skip (length b.drivers ∷ []) (drivers_in ++ r) 1 0 (n * driver_words) refl
        ∙ part_at_lem drivers_in r (n * driver_words) drivers_length

    -- they read back as the board
    pub board_back : length b.processes ≤ m → length b.drivers ≤ n → board_at t (count_at m) ≡ b
    board_back few few' =
        let areas : tabulate (length b.processes) (λ p. read_areas t (areas_from + p * areas_words)) ≡ b.processes =
        tab_read _ _ b.processes no_areas refl
        (λ p h. areas_back t (areas_from + p * areas_words) (get_or b.processes p no_areas) (grid_row words_of_areas no_areas areas_words (λ x. refl) m b.processes t areas_from p areas_part (omega arith))) in
        let drivers : tabulate (length b.drivers) (λ k. read_driver t (count_at m + 1 + k * driver_words)) ≡ b.drivers =
        tab_read _ _ b.drivers no_driver refl
        (λ k h. driver_back t (count_at m + 1 + k * driver_words) (get_or b.drivers k no_driver) (grid_row words_of_driver no_driver driver_words (λ x. refl) n b.drivers t (count_at m + 1) k drivers_part (omega arith))) in
        rw (processes_count, drivers_count) (λ i. record { processes = areas i; drivers = drivers i })

-- ---- words that have room for what they count, and zeros after it

-- a number of records, and the word that it was read from
count_again : {A : Type 0} (t : List ℕ) (k : ℕ) (f : ℕ → A) → k < length t → length (tabulate (get_or t k 0) f) ∷ [] ≡ part k 1 t
unfolding words_at
count_again t k f h = ap {B = List ℕ} (λ n. n ∷ []) (tab_length (get_or t k 0) f) ∙ words_part 1 k t (omega arith)

module _ (t : List ℕ) (m n : ℕ) (fits : count_at m + 1 + n * driver_words ≤ length t) (few : get_or t 0 0 ≤ m) (few' : get_or t (count_at m) 0 ≤ n) where
  pub board_again : zero_between (areas_from + get_or t 0 0 * areas_words) (count_at m) t ≡ true → zero_between (count_at m + 1 + get_or t (count_at m) 0 * driver_words) (count_at m + 1 + n * driver_words) t ≡ true
      → board_words m n (board_at t (count_at m)) ≡ part 0 (count_at m + 1 + n * driver_words) t
  unfolding board_words
  board_again z z' =
      let areas : grid words_of_areas no_areas m (board_at t (count_at m)).processes ≡ part areas_from (m * areas_words) t =
      rows_again t areas_from m (get_or t 0 0) areas_words words_of_areas no_areas (λ x. refl) refl few (λ p. read_areas t (areas_from + p * areas_words)) (omega arith)
      (λ p h. areas_words_lem t (areas_from + p * areas_words) (omega arith)) z in
      let drivers : grid words_of_driver no_driver n (board_at t (count_at m)).drivers ≡ part (count_at m + 1) (n * driver_words) t =
      rows_again t (count_at m + 1) n (get_or t (count_at m) 0) driver_words words_of_driver no_driver (λ x. refl) refl few' (λ k. read_driver t (count_at m + 1 + k * driver_words)) (omega arith)
      (λ k h. driver_words_lem t (count_at m + 1 + k * driver_words) (omega arith)) z' in
      side_by_side t 0 1 (m * areas_words + (1 + n * driver_words)) (count_again t 0 (λ p. read_areas t (areas_from + p * areas_words)) (omega arith))
      (side_by_side t areas_from (m * areas_words) (1 + n * driver_words) areas
      (side_by_side t (count_at m) 1 (n * driver_words) (count_again t (count_at m) (λ k. read_driver t (count_at m + 1 + k * driver_words)) (omega arith)) drivers))
      ∙ ap (λ (i : ℕ). part 0 i t) (omega arith)

-- ---- a board as it is lent: room for just its own rows

pub board_fits : (words : List ℕ) → good_board_words words ≡ true → (length words ≡ count_at (get_or words 0 0) + 1 + get_or words (count_at (get_or words 0 0)) 0 * driver_words) × (good_board (board_of words) ≡ true)
unfolding good_board_words
board_fits words e =
    let P : ℕ = get_or words 0 0 in
    let D : ℕ = get_or words (count_at P) 0 in
    let (n, g) = both (eqb (length words) (2 + areas_words * P + driver_words * D)) (good_board (board_of words)) e in
    let q : length words ≡ 2 + areas_words * P + driver_words * D = eqb-true _ _ n in
    (omega arith, g)

pub board_words_lem : (words : List ℕ) → good_board_words words ≡ true → words ≡ lent_board (board_of words)
unfolding board_of
board_words_lem words g =
    let P : ℕ = get_or words 0 0 in
    let D : ℕ = get_or words (count_at P) 0 in
    let n : length words ≡ count_at P + 1 + D * driver_words = (board_fits words g).0 in
    sym (simp tab_length (board_again words P D (omega arith) (omega arith) (omega arith) (none_between (count_at P) words) (none_between (count_at P + 1 + D * driver_words) words) ∙ part_all words _ n))

module _ (b : Board) where
  P : ℕ
  P = length b.processes

  D : ℕ
  D = length b.drivers

  alone : lent_board b ≡ lent_board b ++ []
  alone = sym (append-nil (lent_board b))

  pub lent_back : board_of (lent_board b) ≡ b
  unfolding board_of P D
  lent_back = ap (λ (i : ℕ). board_at (lent_board b) (count_at i)) (processes_count P D b (lent_board b) [] alone) ∙ board_back P D b (lent_board b) [] alone (omega arith) (omega arith)

  pub board_words_good : good_board b ≡ true → good_board_words (lent_board b) ≡ true
  unfolding good_board_words P D
  board_words_good g =
      let fits : length (lent_board b) ≡ 2 + areas_words * P + driver_words * D = omega (arith, board_length P D b) in
      rw (processes_count P D b (lent_board b) [] alone, drivers_count P D b (lent_board b) [] alone, lent_back) (and (eq-eqb _ _ fits) g)

-- they are the words of the good boards, each of one
pub board_words_exactly : (words : List ℕ) → (good_board_words words ≡ true) ↔ ((b : Board) × (good_board b ≡ true) × (words ≡ lent_board b))
board_words_exactly words = ((λ g. (board_of words, (board_fits words g).1, board_words_lem words g)), (λ (b, g, e). ap good_board_words e ∙ board_words_good b g))
