-- A process's record on a board where a driver is denied to it, beside its record on the board without that driver.
use Rattle.std.specs.Prelude.{ℕ, suc, ◌+◌, ◌*◌, ◌-◌, ◌/◌, ◌%◌, ◌<◌, ◌≡◌, ◌≢◌, Bool, true, false, map, get_or}
use Rattle.std.proofs.Math.Path.{refl}
use Rattle.std.proofs.Common.{sym, ap, ◌∙◌, subst, arith}
use Rattle.std.proofs.Math.Decide.{dec_lt, ℕ_discrete}
use Rattle.definition.specs.Tests.{provided◌then◌else◌, Each, every_below}
use Rattle.definition.specs.Limits.{max_drivers, max_slots, kind_slots, buffer_slots}
use Rattle.definition.specs.Board.{Areas, Kind, subscribe, read_write, read_only}
use Rattle.definition.specs.State.{Pair, null, Upcall, Process, held, slot_at}
use Rattle.definition.specs.Area.{area_of, holdable, accepts, clears, break_clears}
use Rattle.definition.specs.Without.{areas_without}
use Rattle.laws.specs.Facts.{both_ways, below_at, at_below}
use Rattle.promises.specs.TakenOut.{down, up, up_apart, down_up, up_below, down_below}

-- a queued upcall, when place k is taken out
abbrev pub lowered : ℕ → Upcall → Upcall
lowered k u = record { place = down k u.place; slot = u.slot; argument0 = u.argument0; argument1 = u.argument1; argument2 = u.argument2; pair = u.pair }

-- the slots of every other place have moved down; of the driver at place k nothing is held and nothing queued
pub record Beside (k : ℕ) (process process' : Process) : Type 0 where
  pub status : process.status ≡ process'.status
  pub break : process.break ≡ process'.break
  pub slots : (kind : Kind) (i j : ℕ) → i < max_drivers → j < max_slots → i ≢ k → held kind process i j ≡ held kind process' (down k i) j
  pub nothing : (kind : Kind) (j : ℕ) → j < max_slots → held kind process k j ≡ null
  pub last : (kind : Kind) (i j : ℕ) → suc i ≡ max_drivers → j < max_slots → held kind process' i j ≡ null
  pub queue : process'.queue ≡ map (lowered k) process.queue
  pub apart : Each (λ u. u.place ≢ k) process.queue

-- ---- all buffers of a record

-- the i-th buffer, by its kind, place and number; and every other one of that kind
record Buffer (i : ℕ) : Type 0 where
  kind : Kind
  place : ℕ
  number : ℕ
  low : place < max_drivers
  small : number < max_slots
  here : kind_slots + i ≡ slot_at kind place number
  there : (p j : ℕ) → p < max_drivers → j < max_slots → (n : ℕ) × (n < buffer_slots) × (kind_slots + n ≡ slot_at kind p j)

buffer : (i : ℕ) → i < buffer_slots → Buffer i
unfolding slot_at
buffer i h = elim (dec_lt i kind_slots) [
  | yes l ↦ record { kind = read_write; place = i / max_slots; number = i % max_slots; low = omega arith; small = omega arith; here = omega arith; there = λ p j hp hj. (p * max_slots + j, omega arith, omega arith) }
  | no l ↦ record { kind = read_only; place = (i - kind_slots) / max_slots; number = i % max_slots; low = omega arith; small = omega arith; here = omega arith; there = λ p j hp hj. (kind_slots + p * max_slots + j, omega arith, omega arith) }
]

-- a test that (0, 0) passes holds of all buffers of the one record exactly if it holds of all of the other
module _ (k : ℕ) (hk : k < max_drivers) (process process' : Process) (r : Beside k process process') (f : Pair → Bool) (none : f null ≡ true) where
  abbrev Passes : Process → ℕ → Type 0
  Passes x i = f (get_or x.slots i null) ≡ true

  passes_to : ((i : ℕ) → i < buffer_slots → Passes process (kind_slots + i)) → (i : ℕ) → i < buffer_slots → Passes process' (kind_slots + i)
  passes_to all i h = elim (ℕ_discrete (suc x.place) max_drivers) [
    | yes e ↦ subst (Passes process') (sym x.here) (rw (r.last x.kind x.place x.number e x.small) none)
    | no ne ↦
        let low : up k x.place < max_drivers = up_below k x.place max_drivers hk (omega (arith, x.low)) in
        let n = x.there (up k x.place) x.number low x.small in
        let same : held x.kind process (up k x.place) x.number ≡ held x.kind process' x.place x.number =
        r.slots x.kind (up k x.place) x.number low x.small (up_apart k x.place) ∙ ap (λ p. held x.kind process' p x.number) (down_up k x.place) in
        subst (Passes process') (sym x.here) (subst (λ y. f y ≡ true) same (subst (Passes process) n.2 (all n.0 n.1)))
  ]
    where
      x : Buffer i
      x = buffer i h

  passes_from : ((i : ℕ) → i < buffer_slots → Passes process' (kind_slots + i)) → (i : ℕ) → i < buffer_slots → Passes process (kind_slots + i)
  passes_from all i h = elim (ℕ_discrete x.place k) [
    | yes e ↦ subst (Passes process) (sym x.here) (subst (λ p. Passes process (slot_at x.kind p x.number)) (sym e) (rw (r.nothing x.kind x.number x.small) none))
    | no ne ↦
        let n = x.there (down k x.place) x.number (omega (arith, down_below k x.place max_drivers hk x.low ne)) x.small in
        subst (Passes process) (sym x.here) (subst (λ y. f y ≡ true) (sym (r.slots x.kind x.place x.number x.low x.small ne)) (subst (Passes process') n.2 (all n.0 n.1)))
  ]
    where
      x : Buffer i
      x = buffer i h

  buffers_same : every_below buffer_slots (λ i. f (get_or process.slots (kind_slots + i) null)) ≡ every_below buffer_slots (λ i. f (get_or process'.slots (kind_slots + i) null))
  buffers_same = both_ways _ _ (λ e. at_below buffer_slots _ (passes_to (below_at buffer_slots _ e))) (λ e. at_below buffer_slots _ (passes_from (below_at buffer_slots _ e)))

-- ---- what a call may put into a slot, and where the break may move

clears_null : (a : Areas) (break new : ℕ) → clears a break new null ≡ true
unfolding clears area_of provided◌then◌else◌
clears_null a break new = refl

module _ (k : ℕ) (a : Areas) (process process' : Process) (r : Beside k process process') where
  pub clears_same : k < max_drivers → (new : ℕ) → break_clears a process new ≡ break_clears (areas_without k a) process' new
  unfolding break_clears clears area_of
  clears_same hk new = rw (← r.break) (buffers_same k hk process process' r (clears a process.break new) (clears_null a process.break new))

  pub accepts_same : (kind : Kind) (x : Pair) → accepts kind (areas_without k a) process' x ≡ accepts kind a process x
  unfolding accepts holdable area_of
  accepts_same kind x = rw (← r.break) (go kind)
    where
      go : (kind : Kind) → holdable kind (areas_without k a) process.break x ≡ holdable kind a process.break x
      go subscribe = refl
      go read_write = refl
      go read_only = refl
