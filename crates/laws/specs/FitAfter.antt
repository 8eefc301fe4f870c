-- Every outcome keeps a process's record good, and writes only inside its RAM.
use Rattle.std.specs.Prelude.{ℕ, ◌+◌, ◌-◌, ◌≤◌, ◌<◌, ◌≡◌, Bool, eqb}
use Rattle.std.proofs.Math.Path.{refl}
use Rattle.std.proofs.Common.{ap, ◌∙◌, subst, arith, length-set, length-append}
use Rattle.std.proofs.Math.Bool.{true, false}
use mathlib.Core.List.{List, [], ◌∷◌, ◌++◌, tail}
use Rattle.std.proofs.Math.Decide.{dec_lt}
use Rattle.std.proofs.Math.ListN.{get_or, get_or-eq_default}
use Rattle.std.proofs.lemmas.List.{length-replicate}
use Rattle.definition.specs.Tests.{provided◌then◌else◌, none, contains}
use Rattle.definition.specs.Limits.{kind_slots, buffer_slots, all_slots}
use Rattle.definition.specs.Board.{Board, Areas, Kind, read_write}
use Rattle.definition.specs.State.{Pair, null, Upcall, Status, running, waiting, exited, is_exited, Process, held, slot_at, with_status, with_break, with_queue, cleared}
use Rattle.definition.specs.Answer.{Answer}
use Rattle.definition.specs.Area.{holdable, accepts, clears, break_clears}
use Rattle.definition.specs.Decide.{Action, View, areas_of, Outcome, answers, exchanges, polls, awaits, moves, leaves, queues, writes, commands}
use Rattle.definition.specs.World.{is_empty, hold, no_write, process_after, write_of}
use Rattle.definition.specs.WellFormed.{kind_at, good_slot}
use Rattle.laws.specs.Facts.{clash, below_at, contains_true, set_each, get_d_same}
use Rattle.laws.specs.Why.{Why, Because, Exchanged, Queued, Written, Left, ended, again}
use Rattle.laws.specs.Slots.{slot_null, slot_low, slot_carry, slot_new, held_holdable, moved_holdable, writable_inside}
use Rattle.laws.specs.Fit.{Fits, Ground, Inside, nowhere, inside, each_tail, each_snoc, tail_length, place_small, number_small, exchange_carried, exchange_length}

-- ---- each outcome

accepts_holdable : (kind : Kind) (a : Areas) (process : Process) (x : Pair) → accepts kind a process x ≡ true → holdable kind a process.break x ≡ true
unfolding accepts
accepts_holdable kind a process x e = e

pub cleared_fits : (b : Board) (a : Areas) (s : Status) → Ground b a → (is_exited s ≡ true → s ≡ exited) → Fits b a (cleared a s)
unfolding cleared
cleared_fits b a s g e = record {
  low = g.first_low;
  high = g.first_high;
  size = length-replicate all_slots null;
  slots = λ i. rw (get_d_same all_slots i null) (slot_null b a a.first_break i null refl);
  room = omega arith;
  queued = none;
  clear = λ q. ap (cleared a) (e q);
}

module _ (v : View) (process : Process) (g : Ground v.board (areas_of v)) (f : Fits v.board (areas_of v) process) where
  -- a process that has not exited need not be clear
  unclear : (p : Process) → is_exited p.status ≡ false → is_exited p.status ≡ true → p ≡ cleared (areas_of v) exited
  unclear p e q = clash q e

  exchange_fits : (a : Action) (kind : Kind) (k j : ℕ) (x : Pair) → is_exited process.status ≡ false → Exchanged v process a kind k j x → Fits v.board (areas_of v) (hold kind k j x process)
  exchange_fits a kind k j x awake w =
      let hk = place_small v.board (areas_of v) g w.slot.installed in
      let hj = number_small v.board (areas_of v) g kind k w.slot.exists in
      let new = slot_new kind v.board (areas_of v) process.break k j x hk hj w.slot.exists (accepts_holdable kind (areas_of v) process x w.fits) in
      record {
        low = f.low;
        high = f.high;
        size = length-set process.slots (slot_at kind k j) x ∙ f.size;
        slots = λ i. set_each (λ y. good_slot v.board (areas_of v) process.break i y ≡ true) process.slots (slot_at kind k j) i x null
            (λ e. subst (λ n. good_slot v.board (areas_of v) process.break n x ≡ true) e new) (f.slots i);
        room = omega (arith, exchange_length kind k j process.queue, f.room);
        queued = exchange_carried v.board (areas_of v) g process.slots kind k j x w.slot.installed w.slot.exists process.queue f.queued;
        clear = unclear (hold kind k j x process) awake;
      }

  deliver_fits : (s : Status) → is_exited s ≡ false → Fits v.board (areas_of v) (with_status s (with_queue (tail process.queue) process))
  deliver_fits s awake = record {
    low = f.low;
    high = f.high;
    size = f.size;
    slots = f.slots;
    room = omega (arith, tail_length process.queue, f.room);
    queued = each_tail f.queued;
    clear = unclear (with_status s (with_queue (tail process.queue) process)) awake;
  }

  -- a buffer slot lets the break move, and a subscribe slot does not mind it
  moved_slot : (new : ℕ) → break_clears (areas_of v) process new ≡ true → (i : ℕ) → good_slot v.board (areas_of v) new i (get_or process.slots i null) ≡ true
  unfolding break_clears
  moved_slot new e i = elim (dec_lt i kind_slots) [
    | yes low ↦ slot_low v.board (areas_of v) process.break new i x low (f.slots i)
    | no high ↦ elim (dec_lt i all_slots) [
      | yes in-range ↦ slot_carry v.board (areas_of v) process.break i new x (moved_holdable (areas_of v) x (kind_at i) process.break new (cleared_by high in-range)) (f.slots i)
      | no off ↦ rw (get_or-eq_default process.slots null {n = i} (omega (arith, f.size))) (slot_null v.board (areas_of v) new i null refl)
    ]
  ]
    where
      x : Pair
      x = get_or process.slots i null

      cleared_by : (i < kind_slots → ⊥) → i < all_slots → clears (areas_of v) process.break new x ≡ true
      cleared_by high in-range =
          let e' : kind_slots + (i - kind_slots) ≡ i = omega arith in
          subst (λ n. clears (areas_of v) process.break new (get_or process.slots n null) ≡ true) e'
          (below_at buffer_slots (λ n. clears (areas_of v) process.break new (get_or process.slots (kind_slots + n) null)) e (i - kind_slots) (omega arith))

  moved_fits : (new : ℕ) → is_exited process.status ≡ false → (areas_of v).ram_start ≤ new → new ≤ (areas_of v).grant_start → break_clears (areas_of v) process new ≡ true
      → Fits v.board (areas_of v) (with_break new process)
  moved_fits new awake low high e = record { low = low; high = high; size = f.size; slots = moved_slot new e; room = f.room; queued = f.queued; clear = unclear (with_break new process) awake }

  queue_fits : (a : Action) (u : Upcall) → is_exited process.status ≡ false → Queued v process a u → Fits v.board (areas_of v) (with_queue (process.queue ++ (u ∷ [])) process)
  queue_fits a u awake w = record {
    low = f.low;
    high = f.high;
    size = f.size;
    slots = f.slots;
    room = omega (arith, length-append process.queue (u ∷ []), w.room);
    queued = each_snoc f.queued (record {
      installed = w.slot.installed;
      exists = w.slot.exists;
      set = ap (λ (y : Pair). eqb y.first 0) w.carries ∙ w.set;
      holds = w.carries;
    });
    clear = unclear (with_queue (process.queue ++ (u ∷ [])) process) awake;
  }

  left_fits : (s : Status) (x : Answer) → Left s x → Fits v.board (areas_of v) (cleared (areas_of v) s)
  left_fits s x (ended code) = cleared_fits v.board (areas_of v) exited g (λ _. refl)
  left_fits s x (again code) = cleared_fits v.board (areas_of v) running g (λ e. clash e refl)

  awaits_awake : (t : Bool) → is_exited (provided t then waiting else running) ≡ false
  unfolding provided◌then◌else◌
  awaits_awake true = refl
  awaits_awake false = refl

  pub fits_after : (a : Action) (o : Outcome) → Why v process a o → Fits v.board (areas_of v) (process_after (areas_of v) process o)
  unfolding process_after Because
  fits_after a (answers x) w = f
  fits_after a (exchanges kind k j x) w = exchange_fits a kind k j x (w.live refl).awake w.because
  fits_after a (polls address) w = deliver_fits process.status (w.live refl).awake
  fits_after a awaits w = deliver_fits (provided is_empty process.queue then waiting else running) (awaits_awake (is_empty process.queue))
  fits_after a (moves new x) w = moved_fits new (w.live refl).awake w.because.low w.because.high w.because.clears
  fits_after a (leaves s x) w = left_fits s x w.because
  fits_after a (queues u) w = queue_fits a u (w.live refl).awake w.because
  fits_after a (writes address bytes) w = f
  fits_after a (commands k n x y) w = f

  -- ---- what is written

  poll_inside : (address : ℕ) (n : ℕ) → Inside (areas_of v) (provided contains (areas_of v).ram_start process.break address then record { address = address; bytes = n ∷ [] } else no_write)
  unfolding provided◌then◌else◌
  poll_inside address n = go (contains (areas_of v).ram_start process.break address) refl
    where
      go : (t : Bool) → contains (areas_of v).ram_start process.break address ≡ t → Inside (areas_of v) (provided t then record { address = address; bytes = n ∷ [] } else no_write)
      go true e = let (low, high) = contains_true (areas_of v).ram_start process.break address e in inside low (omega (arith, f.high, g.grant_high))
      go false e = nowhere refl

  write_inside : (address : ℕ) (bytes : List ℕ) → Written v process address bytes → Inside (areas_of v) (record { address = address; bytes = bytes })
  write_inside address [] w = nowhere refl
  write_inside address (byte ∷ bytes) w =
      let buffer = held read_write process w.place w.number in
      let hold = held_holdable read_write v.board (areas_of v) process.break w.place w.number buffer (place_small v.board (areas_of v) g w.installed)
      (number_small v.board (areas_of v) g read_write w.place w.exists) (f.slots (slot_at read_write w.place w.number)) in
      let (low, high) = writable_inside (areas_of v) buffer process.break hold (omega (arith, w.inside)) in
      inside (omega (arith, w.from)) (omega (arith, w.from, w.inside, f.high, g.grant_high))

  pub inside_after : (a : Action) (o : Outcome) → Why v process a o → Inside (areas_of v) (write_of (areas_of v) process o)
  unfolding write_of Because
  inside_after a (answers x) w = nowhere refl
  inside_after a (exchanges kind k j x) w = nowhere refl
  inside_after a (polls address) w = poll_inside address _
  inside_after a awaits w = nowhere refl
  inside_after a (moves new x) w = nowhere refl
  inside_after a (leaves s x) w = nowhere refl
  inside_after a (queues u) w = nowhere refl
  inside_after a (writes address bytes) w = write_inside address bytes w.because
  inside_after a (commands k n x y) w = nowhere refl
