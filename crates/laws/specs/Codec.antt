-- A record's words read back as the record, and a process's words as the process.
use Rattle.std.specs.Prelude.{ℕ, ◌+◌, ◌*◌, ◌≤◌, ◌<◌, ◌≡◌, List, [], ◌∷◌, ◌++◌, length, get_or, replicate}
use Rattle.std.proofs.Math.Path.{refl}
use Rattle.std.proofs.Common.{sym, ap, ◌∙◌, add-zero, arith}
use Rattle.std.proofs.Math.Numerals.{towards_suc}
use Rattle.std.proofs.Math.ListN.{length-append}
use Rattle.definition.specs.Limits.{max_queue, all_slots, areas_words, driver_words}
use Rattle.definition.specs.Board.{Areas, Driver}
use Rattle.definition.specs.State.{Pair, null, Upcall, no_upcall, Status, running, waiting, exited, Process, no_process, cleared, Claim}
use Rattle.definition.specs.Words.{part, tabulate, grid}
use Rattle.definition.specs.Image.{pair_words, read_pair, words_in_pair, upcall_words, read_upcall, words_in_upcall, claim_words, read_claim, words_in_claim, words_of_areas, read_areas, words_of_driver, read_driver, status_number, status_of, slots_from, queue_from, run_words, process_words, read_process}
use Rattle.laws.specs.Rows.{tab_read, part_at_lem, part_all, part_skip, part_word, words_at, words_part, grid_length, grid_row}

-- ---- single records: a record whose words stand at place a is what is read there

-- word j, and the first one
module _ (t r : List ℕ) (a n : ℕ) (e : part a n t ≡ r) where
  pub word_of : (j : ℕ) → j < n → get_or t (a + j) 0 ≡ get_or r j 0
  word_of j h = sym (part_word a n t j h) ∙ ap (λ (l : List ℕ). get_or l j 0) e

  pub first_of : 0 < n → get_or t a 0 ≡ get_or r 0 0
  first_of h = ap (λ (k : ℕ). get_or t k 0) (sym (add-zero a)) ∙ word_of 0 h

module _ (t : List ℕ) (a : ℕ) where
  pub pair_back : (x : Pair) → part a words_in_pair t ≡ pair_words x → read_pair t a ≡ x
  pair_back x e =
      let w : (j : ℕ) → j < words_in_pair → get_or t (a + j) 0 ≡ get_or (pair_words x) j 0 = word_of t (pair_words x) a words_in_pair e in
      let z : get_or t a 0 ≡ x.first = first_of t (pair_words x) a words_in_pair e (omega arith) in
      λ i. record { first = z i; second = w 1 (omega arith) i }

  pub upcall_back : (u : Upcall) → part a words_in_upcall t ≡ upcall_words u → read_upcall t a ≡ u
  upcall_back u e =
      let w : (j : ℕ) → j < words_in_upcall → get_or t (a + j) 0 ≡ get_or (upcall_words u) j 0 = word_of t (upcall_words u) a words_in_upcall e in
      let z : get_or t a 0 ≡ u.place = first_of t (upcall_words u) a words_in_upcall e (omega arith) in
      λ i. record { place = z i; slot = w 1 (omega arith) i; argument0 = w 2 (omega arith) i; argument1 = w 3 (omega arith) i; argument2 = w 4 (omega arith) i; pair = record { first = w 5 (omega arith) i; second = w 6 (omega arith) i } }

  pub claim_back : (c : Claim) → part a words_in_claim t ≡ claim_words c → read_claim t a ≡ c
  claim_back c e =
      let w : (j : ℕ) → j < words_in_claim → get_or t (a + j) 0 ≡ get_or (claim_words c) j 0 = word_of t (claim_words c) a words_in_claim e in
      let z : get_or t a 0 ≡ c.owner = first_of t (claim_words c) a words_in_claim e (omega arith) in
      λ i. record { owner = z i; latch = w 1 (omega arith) i }

  pub areas_back : (x : Areas) → part a areas_words t ≡ words_of_areas x → read_areas t a ≡ x
  areas_back x e =
      let w : (j : ℕ) → j < areas_words → get_or t (a + j) 0 ≡ get_or (words_of_areas x) j 0 = word_of t (words_of_areas x) a areas_words e in
      let z : get_or t a 0 ≡ x.ram_start = first_of t (words_of_areas x) a areas_words e (omega arith) in
      λ i. record { ram_start = z i; ram_end = w 1 (omega arith) i; grant_start = w 2 (omega arith) i; first_break = w 3 (omega arith) i; flash_start = w 4 (omega arith) i; flash_end = w 5 (omega arith) i; permissions = w 6 (omega arith) i }

  pub driver_back : (d : Driver) → part a driver_words t ≡ words_of_driver d → read_driver t a ≡ d
  driver_back d e =
      let w : (j : ℕ) → j < driver_words → get_or t (a + j) 0 ≡ get_or (words_of_driver d) j 0 = word_of t (words_of_driver d) a driver_words e in
      let z : get_or t a 0 ≡ d.number = first_of t (words_of_driver d) a driver_words e (omega arith) in
      λ i. record { number = z i; subscribes = w 1 (omega arith) i; read_writes = w 2 (omega arith) i; read_onlys = w 3 (omega arith) i; shared = w 4 (omega arith) i }

-- the words of what is read at place a are those that stand there
module _ (t : List ℕ) (a : ℕ) where
  pub pair_words_lem : a + words_in_pair ≤ length t → pair_words (read_pair t a) ≡ part a words_in_pair t
  unfolding words_at
  pair_words_lem h = simp towards_suc (words_part words_in_pair a t h)

  pub upcall_words_lem : a + words_in_upcall ≤ length t → upcall_words (read_upcall t a) ≡ part a words_in_upcall t
  unfolding words_at
  upcall_words_lem h = simp towards_suc (words_part words_in_upcall a t h)

  pub claim_words_lem : a + words_in_claim ≤ length t → claim_words (read_claim t a) ≡ part a words_in_claim t
  unfolding words_at
  claim_words_lem h = simp towards_suc (words_part words_in_claim a t h)

  pub areas_words_lem : a + areas_words ≤ length t → words_of_areas (read_areas t a) ≡ part a areas_words t
  unfolding words_at
  areas_words_lem h = simp towards_suc (words_part areas_words a t h)

  pub driver_words_lem : a + driver_words ≤ length t → words_of_driver (read_driver t a) ≡ part a driver_words t
  unfolding words_at
  driver_words_lem h = simp towards_suc (words_part driver_words a t h)

-- ---- a process: status, break, number of queued upcalls, the slots, the queue

abbrev head_in : Process → List ℕ
head_in process = status_number process.status ∷ process.break ∷ length process.queue ∷ []

abbrev pub slots_in : Process → List ℕ
slots_in process = grid pair_words null all_slots process.slots

abbrev pub queue_in : Process → List ℕ
queue_in process = grid upcall_words no_upcall max_queue process.queue

module _ (process : Process) where
  pub slots_length : length (slots_in process) ≡ all_slots * words_in_pair
  slots_length = grid_length pair_words null words_in_pair (λ x. refl) all_slots process.slots

  pub queue_length : length (queue_in process) ≡ max_queue * words_in_upcall
  queue_length = grid_length upcall_words no_upcall words_in_upcall (λ x. refl) max_queue process.queue

  pub process_length : length (process_words process) ≡ run_words
  unfolding process_words
  process_length = simp length-append (omega (arith, slots_length, queue_length))

  -- the parts of a process's words
  pub status_word : get_or (process_words process) 0 0 ≡ status_number process.status
  unfolding process_words
  status_word = refl

  pub break_word : get_or (process_words process) 1 0 ≡ process.break
  unfolding process_words
  break_word = refl

  pub count_word : get_or (process_words process) 2 0 ≡ length process.queue
  unfolding process_words
  count_word = refl

  pub slots_part : part slots_from (all_slots * words_in_pair) (process_words process) ≡ slots_in process
  unfolding process_words
  slots_part =
      part_skip (head_in process) (slots_in process ++ queue_in process) slots_from 0 (all_slots * words_in_pair) refl
      ∙ part_at_lem (slots_in process) (queue_in process) (all_slots * words_in_pair) slots_length

  pub queue_part : part queue_from (max_queue * words_in_upcall) (process_words process) ≡ queue_in process
  unfolding process_words
  queue_part =
      part_skip (head_in process) (slots_in process ++ queue_in process) slots_from (all_slots * words_in_pair) (max_queue * words_in_upcall) refl
      ∙ part_skip (slots_in process) (queue_in process) (all_slots * words_in_pair) 0 (max_queue * words_in_upcall) slots_length
      ∙ part_all (queue_in process) (max_queue * words_in_upcall) queue_length

  -- one slot, and one queued upcall
  pub slot_part : (i : ℕ) → i < all_slots → part (slots_from + i * words_in_pair) words_in_pair (process_words process) ≡ pair_words (get_or process.slots i null)
  slot_part i h = grid_row pair_words null words_in_pair (λ x. refl) all_slots process.slots (process_words process) slots_from i slots_part h

  pub upcall_part : (i : ℕ) → i < max_queue → part (queue_from + i * words_in_upcall) words_in_upcall (process_words process) ≡ upcall_words (get_or process.queue i no_upcall)
  upcall_part i h = grid_row upcall_words no_upcall words_in_upcall (λ x. refl) max_queue process.queue (process_words process) queue_from i queue_part h

  pub slot_back : (i : ℕ) → i < all_slots → read_pair (process_words process) (slots_from + i * words_in_pair) ≡ get_or process.slots i null
  slot_back i h = pair_back (process_words process) (slots_from + i * words_in_pair) (get_or process.slots i null) (slot_part i h)

  pub queued_back : (i : ℕ) → i < max_queue → read_upcall (process_words process) (queue_from + i * words_in_upcall) ≡ get_or process.queue i no_upcall
  queued_back i h = upcall_back (process_words process) (queue_from + i * words_in_upcall) (get_or process.queue i no_upcall) (upcall_part i h)

pub status_back : (s : Status) → status_of (status_number s) ≡ s
status_back running = refl
status_back waiting = refl
status_back exited = refl

-- what the words have room for: a pair for each slot, and a queue within its limit
pub record Sized (process : Process) : Type 0 where
  pub slots : length process.slots ≡ all_slots
  pub queue : length process.queue ≤ max_queue

pub process_back : (process : Process) → Sized process → read_process (process_words process) ≡ process
unfolding read_process
process_back process z =
    let room : length process.queue ≤ max_queue = z.queue in
    let status : status_of (get_or (process_words process) 0 0) ≡ process.status = ap status_of (status_word process) ∙ status_back process.status in
    let slots : tabulate all_slots (λ i. read_pair (process_words process) (slots_from + i * words_in_pair)) ≡ process.slots = tab_read all_slots _ process.slots null z.slots (slot_back process) in
    let queue : tabulate (get_or (process_words process) 2 0) (λ i. read_upcall (process_words process) (queue_from + i * words_in_upcall)) ≡ process.queue =
    ap (λ (n : ℕ). tabulate n (λ i. read_upcall (process_words process) (queue_from + i * words_in_upcall))) (count_word process)
    ∙ tab_read (length process.queue) _ process.queue no_upcall refl (λ i h. queued_back process i (omega arith)) in
    λ i. record { status = status i; break = break_word process i; slots = slots i; queue = queue i }

-- the words where the board has no process are zero
pub no_process_lem : process_words no_process ≡ replicate run_words 0
unfolding process_words cleared grid
no_process_lem = refl
