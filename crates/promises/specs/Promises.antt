-- What is promised: of single steps, and, over tables, of every run after an accepted start (demands 2 and 3). What demands 2 and 3 ask is said of any
-- answers and of whatever is lent afterwards, so that it can be asked of the definition's runs, of lists of calls, and of any layer.
use Rattle.std.specs.Prelude.{ℕ, ◌<◌, ◌≡◌, true, false, List, [], map, length, eqb}
use Rattle.definition.specs.Tests.{provided◌then◌else◌}
use Rattle.definition.specs.Limits.{image_bytes}
use Rattle.definition.specs.Board.{Board, Kind, areas_at, driver_at, slots_of, place_of, permits}
use Rattle.definition.specs.State.{Pair, Upcall, running, waiting, Process, held}
use Rattle.definition.specs.Answer.{Answer, delivered, waits, nothing, started, success_with2, is_accepted}
use Rattle.definition.specs.Call.{class_of}
use Rattle.definition.specs.Decide.{Action, call, resume}
use Rattle.definition.specs.World.{deliver, World, Step, own, Out, process_at, ram_of}
use Rattle.definition.specs.Runs.{is_own, is_heard, own_steps, own_and_nobodys, run, answers_to, all_answers, sends_none}
use Rattle.definition.specs.WellFormed.{good_state}
use Rattle.definition.specs.Image.{board_of, state_of}
use Rattle.definition.specs.Table.{Lent, world_of, table_step, start}
use Rattle.definition.specs.Without.{board_without, words_without}
use Rattle.promises.specs.History.{Heard, history_of, last_pair, Pending, pending, Delivery}
use Rattle.promises.specs.Accepted.{answer_to, AcceptedExactly}

-- ---- single steps

-- which calls are accepted, and what they answer
abbrev pub Acceptance : Type 0
Acceptance = (w : World) → good_state w.state ≡ true → (p : ℕ) → AcceptedExactly w p (answer_to w p)

-- ---- the definition's runs

-- what is lent after a list of steps, each on what the last one left
abbrev pub after : List Step → Lent → Lent
after l x = run table_step l x

-- process a's answers in order, its history, the latest step first, and the answer to its next step
abbrev pub answers_of : ℕ → List Step → Lent → List Answer
answers_of a l x = answers_to table_step (is_own a) l x

abbrev pub history : ℕ → List Step → Lent → List Heard
history a l x = history_of table_step a l x []

abbrev pub next_of : ℕ → List Step → Lent → Action → Answer
next_of a l x action = (table_step (own a action) (after l x)).answer

-- process a's record: whether it is running, waiting or exited, its break, all its slots and its queue
abbrev pub record_of : ℕ → Lent → Process
record_of a x = process_at (state_of x.table) a

-- every byte of its RAM, as far as the memory image reaches
abbrev pub ram_in : Board → ℕ → Lent → List ℕ
ram_in b a x = ram_of (areas_at b a) x.memory

-- ---- demand 3

-- the answers given to process a, and its record and RAM in what is lent now, are those that the definition gives after the list from x
pub record Alike (b : Board) (a : ℕ) (given : List Answer) (now : Lent) (l : List Step) (x : Lent) : Type 0 where
  pub answers : given ≡ answers_of a l x
  pub process : record_of a now ≡ record_of a (after l x)
  pub ram : ram_in b a now ≡ ram_in b a (after l x)

-- after the list they are those of its own steps run alone, where all answers are its own; and keeping the steps that are nobody's changes none of it
pub record Isolated (b : Board) (a : ℕ) (l : List Step) (x : Lent) (given : List Answer) (now : Lent) : Type 0 where
  pub alone : Alike b a given now (own_steps a l) x
  pub own : given ≡ all_answers table_step (own_steps a l) x
  pub kept : Alike b a given now (own_and_nobodys b a l) x

-- for every accepted start of the definition's, every process of its board, and every list in which it sends no command above 0 to a shared driver: the
-- run of a step function over the list, beside the definition's run
abbrev pub Isolates : (Step → Lent → Out Lent) → Type 0
Isolates step =
    (words : List ℕ) (x : Lent) → (start words x).answer ≡ started → (a : ℕ) → a < length (board_of words).processes
    → (l : List Step) → sends_none (board_of words) a l ≡ true
    → let y = (start words x).after in Isolated (board_of words) a l y (answers_to step (is_own a) l y) (run step l y)

abbrev pub Isolation : Type 0
Isolation = Isolates table_step

-- ---- a driver that is denied to a process

-- what is answered to the calls and resumes of process a, to which the driver at place k is denied: given, after the list on the board of these words, and
-- given', on the board without the driver, whose start was answered so
pub record Hidden (words : List ℕ) (x : Lent) (a k : ℕ) (l : List Step) (began : Answer) (given given' : List Answer) : Type 0 where
  pub starts : began ≡ started
  pub alike : given ≡ given'
  -- they are what the definition answers where its own steps are run alone on the board without the driver
  pub alone : given' ≡ answers_to table_step (is_heard a) (own_steps a l) (start (words_without k words) x).after

-- for every accepted start of the definition's, every process of its board, every driver of the board that is denied to it, and every two lists with the
-- same own steps of the process, among them no command above 0 to another shared driver, which is one that is shared on the board without the driver: the
-- runs of a step function over the one list on this board, and over the other on the board without the driver, from the same images
abbrev pub Hides : (Step → Lent → Out Lent) → Type 0
Hides step =
    (words : List ℕ) (x : Lent) → (start words x).answer ≡ started → (a : ℕ) → a < length (board_of words).processes
    → (k : ℕ) → k < length (board_of words).drivers → permits (areas_at (board_of words) a) k ≡ false
    → (l l' : List Step) → own_steps a l ≡ own_steps a l' → sends_none (board_without k (board_of words)) a l ≡ true
    → let y = (start words x).after in let o' = start (words_without k words) x in
    Hidden words x a k l o'.answer (answers_to step (is_heard a) l y) (answers_to step (is_heard a) l' o'.after)

abbrev pub Hiding : Type 0
Hiding = Hides table_step

-- ---- demand 2

-- the queue, as the history tells it
abbrev pub upcall_of : Board → Pending → Upcall
upcall_of b u = record { place = place_of b.drivers u.driver; slot = u.slot; argument0 = u.argument0; argument1 = u.argument1; argument2 = u.argument2; pair = u.pair }

-- of process a, after a list of steps from x: its history, what is lent now, and the answer to each step that it may make next. Its calls are accepted
-- exactly when; every pair that is returned and every upcall that is delivered is accounted for by its history, and what that tells to be pending is due
pub record Accounted (b : Board) (a : ℕ) (x : Lent) (history : List Heard) (now : Lent) (next : Action → Answer) : Type 0 where
  -- each call is accepted exactly if its conditions hold of the state that the table reads as, and is then answered as stated
  pub accepts : length x.memory ≡ image_bytes → AcceptedExactly (world_of now) a (λ class r0 r1 r2 r3. next (call class r0 r1 r2 r3))
  -- and with a memory image of another length none is
  pub needs_image : (length x.memory ≡ image_bytes → ⊥) → (class r0 r1 r2 r3 : ℕ) → is_accepted (next (call class r0 r1 r2 r3)) ≡ false
  -- each accepted subscribe or allow returns the pair of the last accepted one of that slot since the start or the last exit or restart, else (0, 0)
  pub returns : (kind : Kind) (driver j r2 r3 : ℕ) (old : Pair) → next (call (class_of kind) driver j r2 r3) ≡ success_with2 old → old ≡ last_pair kind driver j history
  -- each delivery is of the first pending upcall, whose event was taken after every accepted subscribe to its slot
  pub delivers : (action : Action) (pointer r0 r1 r2 r3 : ℕ) → next action ≡ delivered pointer r0 r1 r2 r3 → Delivery history (delivered pointer r0 r1 r2 r3)
  -- each yield-no-wait and yield-wait of a running process, and each resume of a waiting one, delivers the first pending upcall; where none is
  -- pending the answer is "nothing" or "waiting"
  pub yields : (number address r2 r3 : ℕ) → number < 2 → (record_of a now).status ≡ running → length x.memory ≡ image_bytes
      → next (call 0 number address r2 r3) ≡ deliver (provided eqb number 0 then nothing else waits) (map (upcall_of b) (pending history))
  pub resumes : (record_of a now).status ≡ waiting → next resume ≡ deliver waits (map (upcall_of b) (pending history))
  -- the queue is what is pending, and every slot that the board has holds the last pair
  pub queue : (record_of a now).queue ≡ map (upcall_of b) (pending history)
  pub slots : (kind : Kind) (driver j : ℕ) → place_of b.drivers driver < length b.drivers → j < slots_of kind (driver_at b (place_of b.drivers driver))
      → held kind (record_of a now) (place_of b.drivers driver) j ≡ last_pair kind driver j history

-- for every accepted start of the definition's, every process of its board, and every list: the run of a step function
abbrev pub Accounts : (Step → Lent → Out Lent) → Type 0
Accounts step =
    (words : List ℕ) (x : Lent) → (start words x).answer ≡ started → (a : ℕ) → a < length (board_of words).processes → (l : List Step)
    → let y = (start words x).after in Accounted (board_of words) a y (history_of step a l y []) (run step l y) (λ action. (step (own a action) (run step l y)).answer)

abbrev pub Accounting : Type 0
Accounting = Accounts table_step
