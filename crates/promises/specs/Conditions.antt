-- What the tests that decide a call tell, as the conditions of Accepted: which pair a slot may hold, when the break may move, whether the process
-- is running, and at which place a driver stands.
use Rattle.std.specs.Prelude.{ℕ, ◌+◌, ◌-◌, ◌/◌, ◌%◌, ◌^◌, ◌≤◌, ◌<◌, ◌≡◌, refl, ◌↔◌, ◌≢◌, ◌⊎◌, true, false, not, length}
use Rattle.std.proofs.Common.{sym, ap, subst, inl, inr, arith, ltb-true, lt-ltb}
use Rattle.std.proofs.Math.Logic.Iff as Iff
use Rattle.std.proofs.lemmas.Bool.{not-false}
use Rattle.definition.specs.Tests.{provided◌then◌else◌}
use Rattle.definition.specs.Limits.{buffer_slots}
use Rattle.definition.specs.Board.{Areas, Kind, subscribe, read_write, read_only, place_of}
use Rattle.definition.specs.State.{Pair, Status, running, waiting, exited, is_exited, is_waiting, Process}
use Rattle.definition.specs.Answer.{Answer}
use Rattle.definition.specs.Call.{pair, decode}
use Rattle.definition.specs.Area.{Area, empty, in_ram, in_flash, outside, area_of, accessible, holdable, accepts, is_in_ram, clears}
use Rattle.definition.specs.Decide.{call, resume, Outcome, decide_call, decide_accepted, refusal, decide}
use Rattle.definition.specs.World.{World, answer_of, view_of, perform, step}
use Rattle.definition.specs.WellFormed.{good_state}
use Rattle.laws.specs.Facts.{clash, each_holds, passed, pass, pass_none}
use Rattle.laws.specs.Areas.{Lies as At, area_lies}
use Rattle.laws.specs.Places.{place_number, number_place}
use Rattle.promises.specs.Accepted.{areas_in, process_in, buffer_in, answer_to, IsRunning, Permitted, Lies, MayHold, BreakMoves, MovedBy}
use Rattle.promises.specs.Told.{Tells, le_told, eq_told, contains_told, or_told, implies_told}

-- ---- what a slot may hold, and when the break may move

-- a range of bytes, as a pair of numbers has it
pub lies_of : {low high address size : ℕ} → (low ≤ address) × (address + size ≤ high) → Lies low high address size
lies_of (low, high) = record { above = low; below = high }

pub of_lies : {low high address size : ℕ} → Lies low high address size → (low ≤ address) × (address + size ≤ high)
of_lies l = (l.above, l.below)

-- by the numbers of its area
writable_told : (a : Areas) (break x y : ℕ) (area : Area) → At a break (pair x y) area → Tells (accessible read_write area) ((y ≡ 0) ⊎ Lies a.ram_start break x y)
unfolding accessible
writable_told a break x y empty z = (λ e. inl z, λ h. refl)
writable_told a break x y in_ram (n, r) = (λ e. inr (lies_of r), λ h. refl)
writable_told a break x y in_flash (n, q, f) = (λ e. clash {t = false} e refl, λ h. elim h [ inl z ↦ absurd (n z) | inr l ↦ absurd (q (of_lies l)) ])
writable_told a break x y outside (n, q, f) = (λ e. clash {t = false} e refl, λ h. elim h [ inl z ↦ absurd (n z) | inr l ↦ absurd (q (of_lies l)) ])

readable_told : (a : Areas) (break x y : ℕ) (area : Area) → At a break (pair x y) area → Tells (accessible read_only area) ((y ≡ 0) ⊎ Lies a.ram_start break x y ⊎ Lies a.flash_start a.flash_end x y)
unfolding accessible
readable_told a break x y empty z = (λ e. inl z, λ h. refl)
readable_told a break x y in_ram (n, r) = (λ e. inr (inl (lies_of r)), λ h. refl)
readable_told a break x y in_flash (n, q, f) = (λ e. inr (inr (lies_of f)), λ h. refl)
readable_told a break x y outside (n, q, f) = (λ e. clash {t = false} e refl, λ h. elim h [ inl z ↦ absurd (n z) | inr (inl l) ↦ absurd (q (of_lies l)) | inr (inr l) ↦ absurd (f (of_lies l)) ])

pub accepts_told : (kind : Kind) (a : Areas) (process : Process) (x y : ℕ) → Tells (accepts kind a process (pair x y)) (MayHold kind a process.break x y)
unfolding accepts holdable
accepts_told subscribe a process x y = or_told _ _ (eq_told x 0) (contains_told _ _ _)
accepts_told read_write a process x y = writable_told a process.break x y _ (area_lies a process.break (pair x y))
accepts_told read_only a process x y = readable_told a process.break x y _ (area_lies a process.break (pair x y))

in_ram_told : (a : Areas) (break : ℕ) (x : Pair) (area : Area) → At a break x area → Tells (is_in_ram area) ((x.second ≢ 0) × Lies a.ram_start break x.first x.second)
in_ram_told a break x empty z = (λ e. clash {t = false} e refl, λ (n, l). absurd (n z))
in_ram_told a break x in_ram (n, r) = (λ e. (n, lies_of r), λ h. refl)
in_ram_told a break x in_flash (n, q, f) = (λ e. clash {t = false} e refl, λ (m, l). absurd (q (of_lies l)))
in_ram_told a break x outside (n, q, f) = (λ e. clash {t = false} e refl, λ (m, l). absurd (q (of_lies l)))

pub clears_told : (a : Areas) (break new : ℕ) (x : Pair)
    → Tells (clears a break new x) (x.second ≢ 0 → Lies a.ram_start break x.first x.second → x.first + x.second ≤ new)
unfolding clears
clears_told a break new x =
    Iff.trans (implies_told _ _ (in_ram_told a break x (area_of a break x) (area_lies a break x)) (le_told (x.first + x.second) new)) (λ f n l. f (n, l), λ f h. f h.0 h.1)

-- ---- the process, the driver and the break, as the conditions have them

running_status : (s : Status) → is_exited s ≡ false → is_waiting s ≡ false → s ≡ running
running_status running e f = refl
running_status waiting e f = clash {t = true} refl f
running_status exited e f = clash {t = true} refl e

-- rows 3 to 5 of the table of refusals
pub running_told : (w : World) (p class r0 r1 r2 r3 : ℕ) → (refusal (view_of w p) (process_in w p) (call class r0 r1 r2 r3) ≡ 0) ↔ (IsRunning w p)
unfolding refusal view_of
running_told w p class r0 r1 r2 r3 = (
  λ e.
      let (k, e1) = passed _ _ _ e in let (x, e2) = passed _ _ _ e1 in
      record { known = ltb-true _ _ (not-false _ k); running = running_status _ x (passed _ _ _ e2).0 },
  λ r.
      pass _ _ _ (ap not (lt-ltb _ _ r.known)) (pass _ _ _ (ap is_exited r.running) (pass _ _ _ (ap is_waiting r.running) pass_none)),
)

-- rows 3, 4 and 6
pub waiting_passes : (w : World) (p : ℕ) → p < length w.state.board.processes → (process_in w p).status ≡ waiting → refusal (view_of w p) (process_in w p) resume ≡ 0
unfolding refusal view_of
waiting_passes w p h e = pass _ _ _ (ap not (lt-ltb _ _ h)) (pass _ _ _ (ap is_exited e) (pass _ _ _ (ap (λ s. not (is_waiting s)) e) pass_none))

-- what an outcome answers, and what a running process's call comes to
abbrev pub answer_by : World → ℕ → Outcome → Answer
answer_by w p o = answer_of p w.state.claims (process_in w p) o

pub call_answer : (w : World) (p class r0 r1 r2 r3 : ℕ) → IsRunning w p
    → answer_to w p class r0 r1 r2 r3 ≡ answer_by w p (decide_call (view_of w p) (process_in w p) (decode class r0 r1 r2 r3))
unfolding step perform decide decide_accepted provided◌then◌else◌
call_answer w p class r0 r1 r2 r3 r = rw ((running_told w p class r0 r1 r2 r3).1 r)

abbrev pub place_to : World → ℕ → ℕ
place_to w driver = place_of w.state.board.drivers driver

-- a driver that is installed stands at the place of its number
pub one_place : (w : World) → good_state w.state ≡ true → {p driver k : ℕ} → Permitted w p driver k → place_to w driver ≡ k
unfolding good_state
one_place w good {driver} {k} h = number_place w.state.board driver k (each_holds _ good).0 h.installed h.number

pub at_place : (w : World) → good_state w.state ≡ true → (p driver : ℕ) (Q : ℕ → Type 0)
    → (((place_to w driver < length w.state.board.drivers) × ((areas_in w p).permissions / 2 ^ place_to w driver % 2 ≡ 1)) × Q (place_to w driver))
    ↔ ((k : ℕ) × Permitted w p driver k × Q k)
at_place w good p driver Q = (
  λ h. (place_to w driver, record { installed = h.0.0; number = place_number _ driver h.0.0; bit = h.0.1 }, h.1),
  λ h.
      subst (λ k. ((k < length w.state.board.drivers) × ((areas_in w p).permissions / 2 ^ k % 2 ≡ 1)) × Q k) (sym (one_place w good h.1)) ((h.1.installed, h.1.bit), h.2),
)

-- BreakMoves without IsRunning
abbrev pub MayMove : World → ℕ → ℕ → Type 0
MayMove w p new = ((areas_in w p).ram_start ≤ new) × ((new ≤ (areas_in w p).grant_start) × (((i : ℕ) → i < buffer_slots → (buffer_in w p i).second ≢ 0
    → Lies (areas_in w p).ram_start (process_in w p).break (buffer_in w p i).first (buffer_in w p i).second
    → (buffer_in w p i).first + (buffer_in w p i).second ≤ new) × Unit {0}))

pub moves_of : {w : World} {p new : ℕ} → IsRunning w p → MayMove w p new → BreakMoves w p new
moves_of r m = record { caller = r; low = m.0; high = m.1.0; clears = m.1.1.0 }

pub may_move_lem : {w : World} {p new : ℕ} → BreakMoves w p new → MayMove w p new
may_move_lem b = (b.low, (b.high, (b.clears, tt)))

-- a change moves the break to one place at most
pub moved_up : (old change new : ℕ) → change < 2 ^ 31 → MovedBy old change new → new ≡ old + change
moved_up old change new h (inl m) = m.1
moved_up old change new h (inr m) = absurd (omega arith)

pub moved_down : (old change new : ℕ) → 2 ^ 31 ≤ change → change < 2 ^ 32 → MovedBy old change new → (2 ^ 32 - change ≤ old) × (new ≡ old - (2 ^ 32 - change))
moved_down old change new h g (inl m) = absurd (omega arith)
moved_down old change new h g (inr m) = omega arith
