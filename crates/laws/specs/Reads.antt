-- What is read of any words, well formed or not: how many records there are, and each by its place.
use Rattle.std.specs.Prelude.{ℕ, ◌+◌, ◌*◌, ◌<◌, ◌≡◌, List, length, get_or, eqb}
use Rattle.std.proofs.Math.Path.{refl, sym, ap}
use Rattle.std.proofs.Common.{◌∙◌}
use Rattle.std.proofs.Math.Bool.{not}
use Rattle.definition.specs.Limits.{all_slots, areas_words, driver_words}
use Rattle.definition.specs.Board.{Kind, Driver, no_areas, no_driver, areas_at, driver_at, slots_of, place_of, is_shared}
use Rattle.definition.specs.State.{null, no_upcall, no_process, free}
use Rattle.definition.specs.World.{process_at}
use Rattle.definition.specs.Image.{read_pair, words_in_pair, read_upcall, words_in_upcall, slots_from, queue_from, areas_from, read_areas, read_driver, read_claim, words_in_claim, read_process, board_at, drivers_from, claims_from, run_of, state_of}
use Rattle.laws.specs.Rows.{tab_length, tab_at}

-- ---- a board, with D at some place

module _ (t : List ℕ) (at : ℕ) where
  pub processes_read : length (board_at t at).processes ≡ get_or t 0 0
  processes_read = tab_length (get_or t 0 0) (λ p. read_areas t (areas_from + p * areas_words))

  pub drivers_read : length (board_at t at).drivers ≡ get_or t at 0
  drivers_read = tab_length (get_or t at 0) (λ k. read_driver t (at + 1 + k * driver_words))

  pub areas_read : (p : ℕ) → p < get_or t 0 0 → areas_at (board_at t at) p ≡ read_areas t (areas_from + p * areas_words)
  areas_read p h = tab_at (get_or t 0 0) (λ p. read_areas t (areas_from + p * areas_words)) p no_areas h

  pub driver_read : (k : ℕ) → k < get_or t at 0 → driver_at (board_at t at) k ≡ read_driver t (at + 1 + k * driver_words)
  driver_read k h = tab_at (get_or t at 0) (λ k. read_driver t (at + 1 + k * driver_words)) k no_driver h

-- ---- a table, and the state that it reads as

module _ (t : List ℕ) where
  pub processes_so : length (state_of t).board.processes ≡ get_or t 0 0
  unfolding state_of
  processes_so = processes_read t drivers_from

  pub drivers_so : length (state_of t).board.drivers ≡ get_or t drivers_from 0
  unfolding state_of
  drivers_so = drivers_read t drivers_from

  pub runs_so : length (state_of t).processes ≡ get_or t 0 0
  unfolding state_of
  runs_so = tab_length (get_or t 0 0) (λ p. read_process (run_of t p))

  pub claims_so : length (state_of t).claims ≡ get_or t drivers_from 0
  unfolding state_of
  claims_so = tab_length (get_or t drivers_from 0) (λ k. read_claim t (claims_from + k * words_in_claim))

  pub areas_so : (p : ℕ) → p < get_or t 0 0 → read_areas t (areas_from + p * areas_words) ≡ areas_at (state_of t).board p
  unfolding state_of
  areas_so p h = sym (areas_read t drivers_from p h)

  pub process_so : (p : ℕ) → p < get_or t 0 0 → read_process (run_of t p) ≡ process_at (state_of t) p
  unfolding state_of
  process_so p h = sym (tab_at (get_or t 0 0) (λ p. read_process (run_of t p)) p no_process h)

  pub driver_so : (k : ℕ) → k < get_or t drivers_from 0 → read_driver t (drivers_from + 1 + k * driver_words) ≡ driver_at (state_of t).board k
  unfolding state_of
  driver_so k h = sym (driver_read t drivers_from k h)

  pub claim_so : (k : ℕ) → k < get_or t drivers_from 0 → read_claim t (claims_from + k * words_in_claim) ≡ get_or (state_of t).claims k free
  unfolding state_of
  claim_so k h = sym (tab_at (get_or t drivers_from 0) (λ k. read_claim t (claims_from + k * words_in_claim)) k free h)

  pub slots_so : (kind : Kind) (k n : ℕ) → k < get_or t drivers_from 0 → n ≡ slots_of kind (read_driver t (drivers_from + 1 + k * driver_words)) → n ≡ slots_of kind (driver_at (state_of t).board k)
  slots_so kind k n h e = e ∙ ap (slots_of kind) (driver_so k h)

  pub shared_so : (k : ℕ) (d : Driver) → k < get_or t drivers_from 0 → d ≡ read_driver t (drivers_from + 1 + k * driver_words) → is_shared (state_of t).board k ≡ not (eqb d.shared 0)
  unfolding is_shared
  shared_so k d h e = ap (λ (d : Driver). not (eqb d.shared 0)) (sym (e ∙ driver_so k h))

  pub place_so : (driver : ℕ) → place_of (board_at t drivers_from).drivers driver ≡ place_of (state_of t).board.drivers driver
  unfolding state_of
  place_so driver = refl

-- ---- a process's run, and the process that it reads as

module _ (run : List ℕ) where
  pub slots_count : length (read_process run).slots ≡ all_slots
  unfolding read_process
  slots_count = tab_length all_slots (λ i. read_pair run (slots_from + i * words_in_pair))

  pub slot_read : (i : ℕ) → i < all_slots → read_pair run (slots_from + i * words_in_pair) ≡ get_or (read_process run).slots i null
  unfolding read_process
  slot_read i h = sym (tab_at all_slots (λ i. read_pair run (slots_from + i * words_in_pair)) i null h)

  pub break_read : (read_process run).break ≡ get_or run 1 0
  unfolding read_process
  break_read = refl

  pub queue_count : length (read_process run).queue ≡ get_or run 2 0
  unfolding read_process
  queue_count = tab_length (get_or run 2 0) (λ i. read_upcall run (queue_from + i * words_in_upcall))

  pub upcall_read : (i : ℕ) → i < get_or run 2 0 → read_upcall run (queue_from + i * words_in_upcall) ≡ get_or (read_process run).queue i no_upcall
  unfolding read_process
  upcall_read i h = sym (tab_at (get_or run 2 0) (λ i. read_upcall run (queue_from + i * words_in_upcall)) i no_upcall h)
