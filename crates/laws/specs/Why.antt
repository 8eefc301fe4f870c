-- Why a step is decided as it is: for each outcome, the step that it comes from and the conditions that hold then.
-- The definition is walked through here, once; what follows goes by the outcome.
use Rattle.std.specs.Prelude.{ℕ, ◌+◌, ◌≤◌, ◌<◌, ◌≡◌, Bool, true, false, not, List, length, eqb}
use Rattle.definition.specs.Limits.{max_queue}
use Rattle.definition.specs.Board.{Board, Kind, subscribe, read_write, driver_at, slots_of, place_of, is_shared, permits}
use Rattle.definition.specs.State.{Pair, Upcall, Status, running, exited, is_exited, Process, held}
use Rattle.definition.specs.Answer.{Answer, refused, registers, delivered, waits, nothing, taken, deposited, latched, started, terminated, restarted, fetched, SUCCESS_WITH_2_U32, changes_nothing}
use Rattle.definition.specs.Call.{class_of}
use Rattle.definition.specs.Area.{accepts, break_clears}
use Rattle.definition.specs.Decide.{Action, call, event, View, areas_of, Outcome, answers, exchanges, polls, awaits, moves, leaves, queues, writes, commands}
use Rattle.definition.specs.Runs.{sends_shared}

-- ---- answers

-- answers that tell of no exchange, no delivery, no taken event and no exit
abbrev pub is_plain : Answer → Bool
is_plain (refused n) = true
is_plain (registers r0 r1 r2 r3) = not (eqb r0 SUCCESS_WITH_2_U32)
is_plain (delivered pointer r0 r1 r2 r3) = false
is_plain waits = true
is_plain nothing = true
is_plain taken = false
is_plain deposited = true
is_plain latched = true
is_plain started = true
is_plain (terminated code) = false
is_plain (restarted code) = false
is_plain (fetched n x) = true

-- ---- reasons

-- slot j of a kind of the driver with this number, which stands at place k
pub record Slot (b : Board) (kind : Kind) (driver k j : ℕ) : Type 0 where
  pub place : place_of b.drivers driver ≡ k
  pub installed : k < length b.drivers
  pub exists : j < slots_of kind (driver_at b k)

pub record Exchanged (v : View) (process : Process) (a : Action) (kind : Kind) (k j : ℕ) (x : Pair) : Type 0 where
  pub driver : ℕ
  pub named : a ≡ call (class_of kind) driver j x.first x.second
  pub slot : Slot v.board kind driver k j
  pub permitted : permits (areas_of v) k ≡ true
  pub fits : accepts kind (areas_of v) process x ≡ true

pub record Moved (v : View) (process : Process) (new : ℕ) (answer : Answer) : Type 0 where
  pub low : (areas_of v).ram_start ≤ new
  pub high : new ≤ (areas_of v).grant_start
  pub clears : break_clears (areas_of v) process new ≡ true
  pub plain : is_plain answer ≡ true
  pub tells : changes_nothing answer ≡ false

pub record Queued (v : View) (process : Process) (a : Action) (u : Upcall) : Type 0 where
  pub driver : ℕ
  pub named : a ≡ event driver u.slot u.argument0 u.argument1 u.argument2
  pub slot : Slot v.board subscribe driver u.place u.slot
  pub carries : u.pair ≡ held subscribe process u.place u.slot
  pub set : eqb (held subscribe process u.place u.slot).first 0 ≡ false
  pub room : length process.queue < max_queue

-- the bytes lie in a held read-write buffer, from an offset on
pub record Written (v : View) (process : Process) (address : ℕ) (bytes : List ℕ) : Type 0 where
  pub place : ℕ
  pub number : ℕ
  pub offset : ℕ
  pub from : address ≡ (held read_write process place number).first + offset
  pub exists : number < slots_of read_write (driver_at v.board place)
  pub installed : place < length v.board.drivers
  pub inside : offset + length bytes ≤ (held read_write process place number).second

pub record Commanded (v : View) (a : Action) (k : ℕ) : Type 0 where
  pub installed : k < length v.board.drivers
  pub permitted : permits (areas_of v) k ≡ true
  pub shared : is_shared v.board k ≡ true
  pub sent : sends_shared v.board a ≡ true

-- how a process leaves: terminated or restarted, with its code
pub data Left : Status → Answer → Type 0 where
  ended : (code : ℕ) → Left exited (terminated code)
  again : (code : ℕ) → Left running (restarted code)

unfoldable pub Because : View → Process → Action → Outcome → Type 0
Because v process a (answers x) = is_plain x ≡ true
Because v process a (exchanges kind k j x) = Exchanged v process a kind k j x
Because v process a (polls address) = Unit
Because v process a awaits = Unit
Because v process a (moves new x) = Moved v process new x
Because v process a (leaves s x) = Left s x
Because v process a (queues u) = Queued v process a u
Because v process a (writes address bytes) = Written v process address bytes
Because v process a (commands k n x y) = Commanded v a k

abbrev pub is_answer : Outcome → Bool
is_answer (answers x) = true
is_answer (exchanges kind k j x) = false
is_answer (polls address) = false
is_answer awaits = false
is_answer (moves new x) = false
is_answer (leaves s x) = false
is_answer (queues u) = false
is_answer (writes address bytes) = false
is_answer (commands k n x y) = false

-- the process is on the board, and has not exited
pub record Live (v : View) (process : Process) : Type 0 where
  pub known : v.self < length v.board.processes
  pub awake : is_exited process.status ≡ false

pub record Why (v : View) (process : Process) (a : Action) (o : Outcome) : Type 0 where
  pub because : Because v process a o
  pub live : is_answer o ≡ false → Live v process
