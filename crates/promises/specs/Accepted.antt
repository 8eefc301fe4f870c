-- When a call is accepted, as plain propositions over numbers: it is accepted exactly if they hold, and then they settle its answer.
use Rattle.std.specs.Prelude.{ℕ, suc, ◌+◌, ◌/◌, ◌%◌, ◌^◌, ◌≤◌, ◌<◌, ◌≡◌, ◌↔◌, ◌≢◌, ◌⊎◌, true, false, length, get_or}
use Rattle.definition.specs.Limits.{kind_slots, buffer_slots}
use Rattle.definition.specs.Board.{Areas, Kind, subscribe, read_write, read_only, areas_at, driver_at, slots_of}
use Rattle.definition.specs.State.{Pair, null, running, Process, held, Claim, free}
use Rattle.definition.specs.Answer.{Answer, terminated, restarted, success, success_with1, success_with2, is_accepted}
use Rattle.definition.specs.Call.{class_of}
use Rattle.definition.specs.Decide.{call, bound_of}
use Rattle.definition.specs.World.{World, own, process_at, step}

-- ---- the world, as the conditions read it

abbrev pub areas_in : World → ℕ → Areas
areas_in w p = areas_at w.state.board p

abbrev pub process_in : World → ℕ → Process
process_in w p = process_at w.state p

abbrev pub claim_in : World → ℕ → Claim
claim_in w k = get_or w.state.claims k free

-- the i-th buffer that a process holds, read-write ones first
abbrev pub buffer_in : World → ℕ → ℕ → Pair
buffer_in w p i = get_or (process_in w p).slots (kind_slots + i) null

abbrev pub answer_to : World → (p class r0 r1 r2 r3 : ℕ) → Answer
answer_to w p class r0 r1 r2 r3 = (step (own p (call class r0 r1 r2 r3)) w).answer

-- ---- conditions

-- the process is on the board and is running
pub record IsRunning (w : World) (p : ℕ) : Type 0 where
  pub known : p < length w.state.board.processes
  pub running : (process_in w p).status ≡ running

-- the driver with this number is installed, at place k, and bit k of the process's permissions is set
pub record Permitted (w : World) (p driver k : ℕ) : Type 0 where
  pub installed : k < length w.state.board.drivers
  pub number : (driver_at w.state.board k).number ≡ driver
  pub bit : (areas_in w p).permissions / 2 ^ k % 2 ≡ 1

-- the bytes from address on lie wholly in [low, high)
pub record Lies (low high address size : ℕ) : Type 0 where
  pub above : low ≤ address
  pub below : address + size ≤ high

-- an upcall pointer: 0, or in [F, FE). A buffer: of size 0, or wholly in [S, break), or, for read-only, in [F, FE)
abbrev pub MayHold : Kind → Areas → ℕ → ℕ → ℕ → Type 0
MayHold subscribe a break x y = (x ≡ 0) ⊎ Lies a.flash_start a.flash_end x 1
MayHold read_write a break x y = (y ≡ 0) ⊎ Lies a.ram_start break x y
MayHold read_only a break x y = (y ≡ 0) ⊎ Lies a.ram_start break x y ⊎ Lies a.flash_start a.flash_end x y

-- subscribe and both allows
pub record Exchanges (kind : Kind) (w : World) (p driver j x y : ℕ) : Type 0 where
  pub caller : IsRunning w p
  pub place : ℕ
  pub permitted : Permitted w p driver place
  pub slot : j < slots_of kind (driver_at w.state.board place)
  pub value : MayHold kind (areas_in w p) (process_in w p).break x y

-- a command to a driver that the process may call
pub record Commands (w : World) (p driver : ℕ) : Type 0 where
  pub caller : IsRunning w p
  pub place : ℕ
  pub permitted : Permitted w p driver place

-- one to a shared driver whose owner is as stated
pub record SharedCommands (w : World) (p driver : ℕ) (Owner : ℕ → Type 0) : Type 0 where
  pub caller : IsRunning w p
  pub place : ℕ
  pub permitted : Permitted w p driver place
  pub shared : (driver_at w.state.board place).shared ≢ 0
  pub owner : Owner (claim_in w place).owner

-- the break may move to new: S ≤ new ≤ G, and no non-empty held buffer in RAM ends above new
pub record BreakMoves (w : World) (p new : ℕ) : Type 0 where
  pub caller : IsRunning w p
  pub low : (areas_in w p).ram_start ≤ new
  pub high : new ≤ (areas_in w p).grant_start
  pub clears : (i : ℕ) → i < buffer_slots → (buffer_in w p i).second ≢ 0 → Lies (areas_in w p).ram_start (process_in w p).break (buffer_in w p i).first (buffer_in w p i).second
      → (buffer_in w p i).first + (buffer_in w p i).second ≤ new

-- new is old moved by a signed 32-bit change, worked out exactly
abbrev pub MovedBy : (old change new : ℕ) → Type 0
MovedBy old change new = ((change < 2 ^ 31) × (new ≡ old + change)) ⊎ ((2 ^ 31 ≤ change) × (new + 2 ^ 32 ≡ old + change))

-- ---- accepted exactly if

-- of each call of process p in the world w, by what it is answered: it is accepted exactly if its conditions hold, and its answer is then the one that
-- is stated
pub record AcceptedExactly (w : World) (p : ℕ) (answer : (class r0 r1 r2 r3 : ℕ) → Answer) : Type 0 where
  -- subscribe and both allows, which answer the pair that the slot held
  pub exchange : (kind : Kind) (driver j x y : ℕ) → (is_accepted (answer (class_of kind) driver j x y) ≡ true) ↔ (Exchanges kind w p driver j x y)
  pub exchange_answer : (kind : Kind) (driver j x y : ℕ) (e : Exchanges kind w p driver j x y)
      → answer (class_of kind) driver j x y ≡ success_with2 (held kind (process_in w p) e.place j)
  -- command 0, which tells that the driver is there
  pub exists : (driver x y : ℕ) → (is_accepted (answer 2 driver 0 x y) ≡ true) ↔ (Commands w p driver)
  pub exists_answer : (driver x y : ℕ) → Commands w p driver → answer 2 driver 0 x y ≡ success
  -- commands 1 to 3: claim of a driver that is free or one's own; release and read of one's own, which answers its latch
  pub claim : (driver x y : ℕ) → (is_accepted (answer 2 driver 1 x y) ≡ true) ↔ (SharedCommands w p driver (λ owner. (owner ≡ 0) ⊎ (owner ≡ suc p)))
  pub claim_answer : (driver x y : ℕ) → SharedCommands w p driver (λ owner. (owner ≡ 0) ⊎ (owner ≡ suc p)) → answer 2 driver 1 x y ≡ success
  pub release : (driver x y : ℕ) → (is_accepted (answer 2 driver 2 x y) ≡ true) ↔ (SharedCommands w p driver (λ owner. owner ≡ suc p))
  pub release_answer : (driver x y : ℕ) → SharedCommands w p driver (λ owner. owner ≡ suc p) → answer 2 driver 2 x y ≡ success
  pub read : (driver x y : ℕ) → (is_accepted (answer 2 driver 3 x y) ≡ true) ↔ (SharedCommands w p driver (λ owner. owner ≡ suc p))
  pub read_answer : (driver x y : ℕ) (c : SharedCommands w p driver (λ owner. owner ≡ suc p)) → answer 2 driver 3 x y ≡ success_with1 (claim_in w c.place).latch
  -- no other command
  pub other_command : (driver number x y : ℕ) → 3 < number → is_accepted (answer 2 driver number x y) ≡ false
  -- memop 0 and 1: break to, and break by, which answers the old break
  pub break_to : (new x y : ℕ) → (is_accepted (answer 5 0 new x y) ≡ true) ↔ (BreakMoves w p new)
  pub break_to_answer : (new x y : ℕ) → BreakMoves w p new → answer 5 0 new x y ≡ success
  pub break_by : (change x y : ℕ) → change < 2 ^ 32
      → (is_accepted (answer 5 1 change x y) ≡ true) ↔ ((new : ℕ) × MovedBy (process_in w p).break change new × BreakMoves w p new)
  pub break_by_answer : (change x y : ℕ) → change < 2 ^ 32 → ((new : ℕ) × MovedBy (process_in w p).break change new × BreakMoves w p new)
      → answer 5 1 change x y ≡ success_with1 (process_in w p).break
  -- memop 2 to 6, which answer a bound, and no other
  pub bound : (operation x y z : ℕ) → 2 ≤ operation → operation ≤ 6 → (is_accepted (answer 5 operation x y z) ≡ true) ↔ (IsRunning w p)
  pub bound_answer : (operation x y z : ℕ) → 2 ≤ operation → operation ≤ 6 → IsRunning w p → answer 5 operation x y z ≡ success_with1 (bound_of (areas_in w p) operation)
  pub other_memop : (operation x y z : ℕ) → 6 < operation → is_accepted (answer 5 operation x y z) ≡ false
  -- exit: 0 terminates, 1 restarts
  pub exit : (number code x y : ℕ) → (is_accepted (answer 6 number code x y) ≡ true) ↔ (IsRunning w p × ((number ≡ 0) ⊎ (number ≡ 1)))
  pub terminate_answer : (code x y : ℕ) → IsRunning w p → answer 6 0 code x y ≡ terminated code
  pub restart_answer : (code x y : ℕ) → IsRunning w p → answer 6 1 code x y ≡ restarted code
  -- a yield gives an upcall, "waiting" or "nothing", and no other class is known
  pub yield : (number address x y : ℕ) → is_accepted (answer 0 number address x y) ≡ false
  pub other_class : (class r0 r1 r2 r3 : ℕ) → 6 < class → is_accepted (answer class r0 r1 r2 r3) ≡ false
