-- What a process's steps and their answers alone tell of it: what each slot holds, and which upcalls are pending.
-- A history is read from the latest step back.
use Rattle.std.specs.Prelude.{ℕ, ◌≡◌, Bool, true, false, ◌&&◌, ◌||◌, eqb}
use mathlib.Core.List.{List, [], ◌∷◌, ◌++◌, tail}
use Rattle.definition.specs.Tests.{provided◌then◌else◌, Each}
use Rattle.definition.specs.Board.{Kind, subscribe}
use Rattle.definition.specs.State.{Pair, null}
use Rattle.definition.specs.Answer.{Answer, refused, registers, delivered, waits, nothing, taken, deposited, latched, started, terminated, restarted, fetched, SUCCESS_WITH_2_U32}
use Rattle.definition.specs.Call.{pair, class_of}
use Rattle.definition.specs.Decide.{Action, call, event, resume, deposit, fetch}
use Rattle.definition.specs.World.{Step, own, latch, Out}

-- a step of a process, and its answer
pub record Heard : Type 0 where
  pub action : Action
  pub answer : Answer

-- a history with one step more, if it is process a's own
unfoldable pub heard : ℕ → Step → Answer → List Heard → List Heard
heard a (own p x) answer hs = provided eqb p a then record { action = x; answer = answer } ∷ hs else hs
heard a (latch driver peak) answer hs = hs

-- process a's own steps of a list, with their answers, after those of hs
module _ {W : Type 0} (step : Step → W → Out W) where
  unfoldable pub history_of : ℕ → List Step → W → List Heard → List Heard
  history_of a [] w hs = hs
  history_of a (s ∷ l) w hs = history_of a l (step s w).after (heard a s (step s w).answer hs)

-- ---- what an answer tells

-- an accepted subscribe or allow: Success with 2 u32
abbrev pub is_exchange : Answer → Bool
is_exchange (refused n) = false
is_exchange (registers r0 r1 r2 r3) = eqb r0 SUCCESS_WITH_2_U32
is_exchange (delivered pointer r0 r1 r2 r3) = false
is_exchange waits = false
is_exchange nothing = false
is_exchange taken = false
is_exchange deposited = false
is_exchange latched = false
is_exchange started = false
is_exchange (terminated code) = false
is_exchange (restarted code) = false
is_exchange (fetched n x) = false

-- an accepted exit or restart
abbrev pub is_exit : Answer → Bool
is_exit (refused n) = false
is_exit (registers r0 r1 r2 r3) = false
is_exit (delivered pointer r0 r1 r2 r3) = false
is_exit waits = false
is_exit nothing = false
is_exit taken = false
is_exit deposited = false
is_exit latched = false
is_exit started = false
is_exit (terminated code) = true
is_exit (restarted code) = true
is_exit (fetched n x) = false

-- the action is a call of the kind's class that names slot j of the driver with this number; and the pair that a call passes
abbrev pub names : Kind → ℕ → ℕ → Action → Bool
names kind driver j (call class r0 r1 r2 r3) = eqb class (class_of kind) && (eqb r0 driver && eqb r1 j)
names kind driver j (event d i x y z) = false
names kind driver j resume = false
names kind driver j (deposit d i offset bytes) = false
names kind driver j (fetch d i offset n) = false

abbrev pub passed : Action → Pair
passed (call class r0 r1 r2 r3) = pair r2 r3
passed (event d i x y z) = null
passed resume = null
passed (deposit d i offset bytes) = null
passed (fetch d i offset n) = null

-- ---- what a slot holds: the pair of the last accepted call that named it since the start or the last accepted exit or restart, else (0, 0)

unfoldable pub last_pair : Kind → ℕ → ℕ → List Heard → Pair
last_pair kind driver j [] = null
last_pair kind driver j (h ∷ hs) =
    provided is_exit h.answer then null
    else provided is_exchange h.answer && names kind driver j h.action then passed h.action
    else last_pair kind driver j hs

-- ---- which upcalls are pending

-- an upcall as the history tells it: the event's driver number, slot and arguments, and the pair that its slot held
pub record Pending : Type 0 where
  pub driver : ℕ
  pub slot : ℕ
  pub argument0 : ℕ
  pub argument1 : ℕ
  pub argument2 : ℕ
  pub pair : Pair

-- an accepted subscribe takes the upcalls of its slot away
unfoldable pub without : ℕ → ℕ → List Pending → List Pending
without driver j [] = []
without driver j (u ∷ q) = provided eqb u.driver driver && eqb u.slot j then without driver j q else u ∷ without driver j q

unfoldable pub cancelled_by : Action → List Pending → List Pending
cancelled_by (call class r0 r1 r2 r3) q = provided eqb class (class_of subscribe) then without r0 r1 q else q
cancelled_by (event d i x y z) q = q
cancelled_by resume q = q
cancelled_by (deposit d i offset bytes) q = q
cancelled_by (fetch d i offset n) q = q

-- an event that is taken adds one, with what its slot holds then
unfoldable pub taken_by : (ℕ → ℕ → Pair) → Action → List Pending
taken_by holds (call class r0 r1 r2 r3) = []
taken_by holds (event d i x y z) = record { driver = d; slot = i; argument0 = x; argument1 = y; argument2 = z; pair = holds d i } ∷ []
taken_by holds resume = []
taken_by holds (deposit d i offset bytes) = []
taken_by holds (fetch d i offset n) = []

-- a delivery takes the first one away, an accepted exit or restart all of them
unfoldable pub pending_after : (ℕ → ℕ → Pair) → Action → Answer → List Pending → List Pending
pending_after holds a (refused n) q = q
pending_after holds a (registers r0 r1 r2 r3) q = provided eqb r0 SUCCESS_WITH_2_U32 then cancelled_by a q else q
pending_after holds a (delivered pointer r0 r1 r2 r3) q = tail q
pending_after holds a waits q = q
pending_after holds a nothing q = q
pending_after holds a taken q = q ++ taken_by holds a
pending_after holds a deposited q = q
pending_after holds a latched q = q
pending_after holds a started q = q
pending_after holds a (terminated code) q = []
pending_after holds a (restarted code) q = []
pending_after holds a (fetched n x) q = q

unfoldable pub pending : List Heard → List Pending
pending [] = []
pending (h ∷ hs) = pending_after (λ d j. last_pair subscribe d j hs) h.action h.answer (pending hs)

-- ---- an event, and what has happened since

-- an accepted subscribe to the slot, or an accepted exit or restart
unfoldable pub cancels : ℕ → ℕ → Heard → Bool
cancels driver j h = is_exit h.answer || (is_exchange h.answer && names subscribe driver j h.action)

-- the upcall is of an event that was taken; its slot then held the pair; and nothing since has cancelled it
pub record TakenIn (hs : List Heard) (u : Pending) : Type 0 where
  pub since : List Heard
  pub before : List Heard
  pub whole : hs ≡ since ++ (record { action = event u.driver u.slot u.argument0 u.argument1 u.argument2; answer = taken } ∷ before)
  pub holds : u.pair ≡ last_pair subscribe u.driver u.slot before
  pub stands : Each (λ h. cancels u.driver u.slot h ≡ false) since

-- an answer is the delivery of the first pending upcall
pub record Delivery (hs : List Heard) (answer : Answer) : Type 0 where
  pub upcall : Pending
  pub rest : List Pending
  pub first : pending hs ≡ upcall ∷ rest
  pub carries : answer ≡ delivered upcall.pair.first upcall.argument0 upcall.argument1 upcall.argument2 upcall.pair.second
  pub event : TakenIn hs upcall
