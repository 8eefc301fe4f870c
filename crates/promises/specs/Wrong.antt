-- Wrong layers. Each is refuted on every demand that speaks of it (`Refuted`, docs/PROMISES.md).
use Rattle.std.specs.Prelude.{ℕ, ◌+◌, ◌%◌, ◌^◌, Bool, true, false, ◌&&◌, not, set, leb, eqb}
use Rattle.definition.specs.Tests.{provided◌then◌else◌}
use Rattle.definition.specs.Board.{Board, read_write, areas_at, place_of, installed, has_slot, permits}
use Rattle.definition.specs.State.{Pair, Process, held, with_queue, State}
use Rattle.definition.specs.Answer.{Part, Answer, refused, registers, fetched, failure, failure_with2, success, success_with2, RESERVE, INVAL, NOSUPPORT, NODEVICE, is_accepted, number_of}
use Rattle.definition.specs.Call.{pair}
use Rattle.definition.specs.Decide.{call, event, resume, deposit, fetch, exchanges, not_installed}
use Rattle.definition.specs.World.{Step, own, latch, Out, process_at, perform, step}
use Rattle.definition.specs.Runs.{sends_shared}
use Rattle.definition.specs.Image.{state_of}
use Rattle.definition.specs.Table.{Lent, world_of, lent_of, out_of, table_step, start}
use Rattle.definition.specs.Located.{lent_by}
use Rattle.layer.specs.Steps.{gave}
use Rattle.layer.specs.Fetching.{part_of}
use Rattle.promises.specs.Layers.{Layer}

-- a layer that starts as the definition does
abbrev pub stepping : (Step → Lent → Out Lent) → Layer
stepping f = record { start = start; step = f }

-- a call of a class; a fetch
abbrev pub is_call : ℕ → Step → Bool
is_call n (own p (call class r0 r1 r2 r3)) = eqb class n
is_call n (own p (event driver j x y z)) = false
is_call n (own p resume) = false
is_call n (own p (deposit driver j offset bytes)) = false
is_call n (own p (fetch driver j offset length)) = false
is_call n (latch driver peak) = false

abbrev pub is_fetch : Step → Bool
is_fetch (own p (call class r0 r1 r2 r3)) = false
is_fetch (own p (event driver j x y z)) = false
is_fetch (own p resume) = false
is_fetch (own p (deposit driver j offset bytes)) = false
is_fetch (own p (fetch driver j offset length)) = true
is_fetch (latch driver peak) = false

-- ---- answers that do not go by the step, whatever is stored

-- the same answer to everybody
abbrev pub always : Answer → (Step → Lent → Lent) → Layer
always r stores = stepping (λ s x. gave r (stores s x))

-- INVAL
abbrev pub always_inval : (Step → Lent → Lent) → Layer
always_inval stores = always (failure INVAL) stores

-- four fixed registers
abbrev pub fixed_registers : (r0 r1 r2 r3 : ℕ) → (Step → Lent → Lent) → Layer
fixed_registers r0 r1 r2 r3 stores = always (registers r0 r1 r2 r3) stores

-- the first step's answer repeated, for any step on anything lent
abbrev pub first_repeated : Step → Lent → (Step → Lent → Lent) → Layer
first_repeated s x stores = always (table_step s x).answer stores

-- INVAL to everything but yields, which it answers truthfully
abbrev pub inval_but_yields : (Step → Lent → Lent) → Layer
inval_but_yields stores = stepping (λ s x. provided is_call 0 s then table_step s x else gave (failure INVAL) (stores s x))

-- ---- the definition, but for one thing

-- each step is answered as it should be, and nothing is stored
abbrev pub nothing_stored : Layer
nothing_stored = stepping (λ s x. gave (table_step s x).answer x)

-- a fetch hands back another part
abbrev pub other_part : (Part → Part) → Layer
other_part made = stepping (λ s x.
    let o = table_step s x in
    provided is_fetch s then gave (fetched (number_of o.answer) (made (part_of o.answer))) o.after else o)

-- the process's step, by its registers where it is a call; other steps are the definition's
abbrev by_calls : ((p class r0 r1 r2 r3 : ℕ) → Lent → Out Lent → Out Lent) → Step → Lent → Out Lent
by_calls f (own p (call class r0 r1 r2 r3)) x = f p class r0 r1 r2 r3 x (table_step (own p (call class r0 r1 r2 r3)) x)
by_calls f (own p (event driver j a0 a1 a2)) x = table_step (own p (event driver j a0 a1 a2)) x
by_calls f (own p resume) x = table_step (own p resume) x
by_calls f (own p (deposit driver j offset bytes)) x = table_step (own p (deposit driver j offset bytes)) x
by_calls f (own p (fetch driver j offset length)) x = table_step (own p (fetch driver j offset length)) x
by_calls f (latch driver peak) x = table_step (latch driver peak) x

-- the size bytes from address lie in [low, high), by the sum in 32 bits
abbrev within32 : ℕ → ℕ → ℕ → ℕ → Bool
within32 low high address size = leb low address && leb ((address + size) % 2 ^ 32) high

-- a read-write buffer is accepted by the sum in 32 bits, where the definition would accept an empty one
abbrev pub sum32 : Layer
sum32 = stepping (by_calls λ p class r0 r1 r2 r3 x o.
    let w = world_of x in
    provided eqb class 3 && (is_accepted (table_step (own p (call 3 r0 r1 0 0)) x).answer && within32 (areas_at w.state.board p).ram_start (process_at w.state p).break r2 r3)
    then out_of (perform p (exchanges read_write (place_of w.state.board.drivers r0) r1 (pair r2 r3)) w) else o)

-- an accepted read-write allow returns the buffer that process 0 held there
abbrev pub anothers_buffer : Layer
anothers_buffer = stepping (by_calls λ p class r0 r1 r2 r3 x o.
    let s = state_of x.table in
    provided eqb class 3 && is_accepted o.answer then gave (success_with2 (held read_write (process_at s 0) (place_of s.board.drivers r0) r1)) o.after else o)

-- every claim of a shared driver is granted
abbrev pub every_claim : Layer
every_claim = stepping (by_calls λ p class r0 r1 r2 r3 x o. provided sends_shared (state_of x.table).board (call class r0 r1 r2 r3) && eqb r1 1 then gave success o.after else o)

-- the process that a step names
abbrev caller_of : Step → ℕ
caller_of (own p a) = p
caller_of (latch driver peak) = 0

-- process p has the queue of another state
abbrev with_queue_of : ℕ → State → State → State
with_queue_of p old s = record { board = s.board; processes = set s.processes p (with_queue (process_at old p).queue (process_at s p)); claims = s.claims }

-- upcalls are kept over a subscribe. It checks no table: one with a stale upcall is not well formed, and would be refused from then on
abbrev pub upcalls_kept : Layer
upcalls_kept = stepping (λ s x.
    let w = world_of x in
    let o = step s w in
    provided is_call 1 s then gave o.answer (lent_of (record { state = with_queue_of (caller_of s) w.state o.after.state; memory = o.after.memory; flash = o.after.flash })) else out_of o)

-- ---- the definition, but for what a call of a driver that is denied to the process is answered

-- by the class, the place of the driver, the slot or command number and the pair that is passed, the board and the process's record
abbrev to_denied : ((class k j : ℕ) → Pair → Board → Process → Answer) → Layer
to_denied said = stepping (by_calls λ p class r0 r1 r2 r3 x o.
    let s = state_of x.table in
    let k = place_of s.board.drivers r0 in
    provided (leb 1 class && leb class 4) && ((installed s.board k && not (permits (areas_at s.board p) k)) && eqb (number_of o.answer) 0)
    then gave (said class k r1 (pair r2 r3) s.board (process_at s p)) o.after else o)

-- plain Failure in every class, as document 01 had it
abbrev pub denied_plain : Layer
denied_plain = to_denied (λ class k j x b process. failure NODEVICE)

-- the slot number is looked at first: NOSUPPORT for a slot that the driver does not have
abbrev pub slot_first : Layer
slot_first = to_denied (λ class k j x b process.
    provided eqb class 2 then failure NODEVICE else provided has_slot (lent_by class) b k j then not_installed (lent_by class) x else failure_with2 NOSUPPORT x)

-- the slot is looked up: NODEVICE, with what it holds
abbrev pub slot_looked_up : Layer
slot_looked_up = to_denied (λ class k j x b process. provided eqb class 2 then failure NODEVICE else failure_with2 NODEVICE (held (lent_by class) process k j))

-- RESERVE to a command, as if another process owned the driver
abbrev pub denied_reserved : Layer
denied_reserved = to_denied (λ class k j x b process. provided eqb class 2 then failure RESERVE else not_installed (lent_by class) x)

-- ---- a start that always refuses, by any number; its steps are the definition's

abbrev pub never_starts : ℕ → Layer
never_starts n = record { start = λ words x. gave (refused n) x; step = table_step }
