-- One step of a process, and what its history then tells of its slots: each holds the last pair.
use Rattle.std.specs.Prelude.{ℕ, ◌<◌, ◌≡◌, ◌≢◌, Bool, true, false, ◌&&◌, List, [], ◌∷◌, length, get_or, set, eqb}
use Rattle.std.proofs.Math.Path.{refl, sym}
use Rattle.std.proofs.Common.{ap, ◌∙◌, subst, arith, get_or-set_same, get_or-set_other, eqb-true, eq-eqb}
use Rattle.std.proofs.lemmas.Bool.{not-true}
use Rattle.definition.specs.Tests.{provided◌then◌else◌}
use Rattle.definition.specs.Limits.{max_drivers, max_slots, all_slots}
use Rattle.definition.specs.Board.{Board, Kind, subscribe, read_write, read_only, place_of}
use Rattle.definition.specs.State.{Pair, null, Upcall, Status, Process, held, slot_at, cleared, Claim, free}
use Rattle.definition.specs.Answer.{Answer, refused, registers, delivered, waits, nothing, taken, deposited, latched, started, terminated, restarted, fetched, success_with2}
use Rattle.definition.specs.Call.{class_of}
use Rattle.definition.specs.Decide.{Action, View, areas_of, Outcome, answers, exchanges, polls, awaits, moves, leaves, queues, writes, commands}
use Rattle.definition.specs.World.{deliver, hold, command_answer, answer_of, process_after}
use Rattle.laws.specs.Facts.{clash, either, both, and, get_d_same}
use Rattle.laws.specs.Why.{is_plain, Slot, Exchanged, Left, ended, again, Because, Why}
use Rattle.laws.specs.Slots.{slot_bound, slot_one}
use Rattle.laws.specs.Fit.{Fits, Ground}
use Rattle.laws.specs.Places.{place_one}
use Rattle.promises.specs.History.{Heard, is_exchange, is_exit, names, passed, last_pair}

-- ---- what an answer tells

-- answers that tell of no exchange and no exit leave the slots and cancel nothing
pub record Silent (y : Answer) : Type 0 where
  pub exchange : is_exchange y ≡ false
  pub exit : is_exit y ≡ false

pub plain_silent : (y : Answer) → is_plain y ≡ true → Silent y
plain_silent (refused n) e = record { exchange = refl; exit = refl }
plain_silent (registers r0 r1 r2 r3) e = record { exchange = not-true _ e; exit = refl }
plain_silent (delivered pointer r0 r1 r2 r3) e = record { exchange = refl; exit = refl }
plain_silent waits e = record { exchange = refl; exit = refl }
plain_silent nothing e = record { exchange = refl; exit = refl }
plain_silent taken e = record { exchange = refl; exit = refl }
plain_silent deposited e = record { exchange = refl; exit = refl }
plain_silent latched e = record { exchange = refl; exit = refl }
plain_silent started e = record { exchange = refl; exit = refl }
plain_silent (terminated code) e = clash e refl
plain_silent (restarted code) e = clash e refl
plain_silent (fetched n x) e = record { exchange = refl; exit = refl }

pub deliver_silent : (y : Answer) (q : List Upcall) → is_plain y ≡ true → Silent (deliver y q)
deliver_silent y [] e = plain_silent y e
deliver_silent y (u ∷ q) e = record { exchange = refl; exit = refl }

pub left_exit : {s : Status} {y : Answer} → Left s y → is_exit y ≡ true
left_exit (ended code) = refl
left_exit (again code) = refl

-- the answers of claims are plain
pub command_plain : (p n : ℕ) (c : Claim) → is_plain (command_answer p n c) ≡ true
unfolding command_answer
command_plain p n c =
    either (λ y. is_plain y ≡ true) _ _ _ (λ _. either (λ y. is_plain y ≡ true) _ _ _ (λ _. refl) λ _. refl) λ _.
    either (λ y. is_plain y ≡ true) _ _ _ (λ _. refl) λ _. either (λ y. is_plain y ≡ true) _ _ _ (λ _. refl) λ _. refl

-- ---- the last pair of a slot

module _ (kind : Kind) (driver j : ℕ) (a : Action) (y : Answer) (hs : List Heard) where
  pub last_silent : Silent y → last_pair kind driver j (record { action = a; answer = y } ∷ hs) ≡ last_pair kind driver j hs
  unfolding last_pair provided◌then◌else◌
  last_silent s = rw (s.exit, s.exchange)

  last_exit : is_exit y ≡ true → last_pair kind driver j (record { action = a; answer = y } ∷ hs) ≡ null
  unfolding last_pair provided◌then◌else◌
  last_exit e = rw e

-- an accepted exchange: of this slot, and of another
module _ (kind : Kind) (driver j : ℕ) (a : Action) (old : Pair) (hs : List Heard) where
  last_here : names kind driver j a ≡ true → last_pair kind driver j (record { action = a; answer = success_with2 old } ∷ hs) ≡ passed a
  unfolding last_pair provided◌then◌else◌
  last_here e = rw e

  last_there : names kind driver j a ≡ false → last_pair kind driver j (record { action = a; answer = success_with2 old } ∷ hs) ≡ last_pair kind driver j hs
  unfolding last_pair provided◌then◌else◌
  last_there e = rw e

pub same_kind : (kind kind' : Kind) → eqb (class_of kind') (class_of kind) ≡ true → kind ≡ kind'
same_kind subscribe subscribe e = refl
same_kind subscribe read_write e = clash e refl
same_kind subscribe read_only e = clash e refl
same_kind read_write subscribe e = clash e refl
same_kind read_write read_write e = refl
same_kind read_write read_only e = clash e refl
same_kind read_only subscribe e = clash e refl
same_kind read_only read_write e = clash e refl
same_kind read_only read_only e = refl

-- ---- slots

-- what a process's slots hold is what a history tells
abbrev pub SlotsTold : Board → Process → List Heard → Type 0
SlotsTold b process hs = (kind : Kind) (driver k j : ℕ) → Slot b kind driver k j → held kind process k j ≡ last_pair kind driver j hs

module _ (v : View) (process : Process) (a : Action) (hs : List Heard) (g : Ground v.board (areas_of v)) (f : Fits v.board (areas_of v) process) (t : SlotsTold v.board process hs) where
  exchange_slots : (kind' : Kind) (k' j' : ℕ) (x : Pair) → Exchanged v process a kind' k' j' x
      → SlotsTold v.board (hold kind' k' j' x process) (record { action = a; answer = success_with2 (held kind' process k' j') } ∷ hs)
  exchange_slots kind' k' j' x w kind driver k j s = go (names kind driver j a) refl
    where
      hk : k < max_drivers
      hk = omega (arith, s.installed, g.few_drivers)

      hj : j < max_slots
      hj = omega (arith, s.exists, g.few_slots kind k)

      hk' : k' < max_drivers
      hk' = omega (arith, w.slot.installed, g.few_drivers)

      hj' : j' < max_slots
      hj' = omega (arith, w.slot.exists, g.few_slots kind' k')

      named : names kind driver j a ≡ (eqb (class_of kind') (class_of kind) && (eqb w.driver driver && eqb j' j))
      named = ap (names kind driver j) w.named

      given : passed a ≡ x
      given = ap passed w.named

      go : (u : Bool) → names kind driver j a ≡ u
          → get_or (set process.slots (slot_at kind' k' j') x) (slot_at kind k j) null ≡ last_pair kind driver j (record { action = a; answer = success_with2 (held kind' process k' j') } ∷ hs)
      go true e =
          let (c, r) = both (eqb (class_of kind') (class_of kind)) (eqb w.driver driver && eqb j' j) (sym named ∙ e) in
          let (d, n) = both (eqb w.driver driver) (eqb j' j) r in
          let place : k' ≡ k = sym w.slot.place ∙ ap (place_of v.board.drivers) (eqb-true _ _ d) ∙ s.place in
          let at : slot_at kind k j ≡ slot_at kind' k' j' = cc (same_kind kind kind' c, place, eqb-true j' j n) in
          ap (λ i. get_or (set process.slots (slot_at kind' k' j') x) i null) at
          ∙ get_or-set_same process.slots (slot_at kind' k' j') x null (omega (arith, f.size, slot_bound kind' k' j' hk' hj'))
          ∙ sym given ∙ sym (last_here kind driver j a (held kind' process k' j') hs e)
      go false e =
          let ne : slot_at kind k j ≢ slot_at kind' k' j' = λ q.
          let same = slot_one kind kind' k j k' j' hk hj hk' hj' q in
          let number : w.driver ≡ driver = place_one v.board.drivers w.driver driver (subst (λ n. n < length v.board.drivers) (sym w.slot.place) w.slot.installed) (w.slot.place ∙ sym same.places ∙ sym s.place) in
          clash (named ∙ and (eq-eqb (class_of kind') (class_of kind) (ap class_of (sym same.kinds))) (and (eq-eqb w.driver driver number) (eq-eqb j' j (sym same.numbers)))) e in
          get_or-set_other process.slots (slot_at kind' k' j') (slot_at kind k j) x null ne ∙ t kind driver k j s ∙ sym (last_there kind driver j a (held kind' process k' j') hs e)

  -- answers that leave the slots
  silent_slots : (y : Answer) → Silent y → SlotsTold v.board process (record { action = a; answer = y } ∷ hs)
  silent_slots y s kind driver k j slot = t kind driver k j slot ∙ sym (last_silent kind driver j a y hs s)

  cleared_held : (s : Status) (kind : Kind) (k j : ℕ) → held kind (cleared (areas_of v) s) k j ≡ null
  unfolding cleared
  cleared_held s kind k j = get_d_same all_slots (slot_at kind k j) null

  pub outcome_slots : (p : ℕ) (claims : List Claim) (o : Outcome) → Why v process a o
      → SlotsTold v.board (process_after (areas_of v) process o) (record { action = a; answer = answer_of p claims process o } ∷ hs)
  unfolding process_after answer_of Because
  outcome_slots p claims (answers x) w = silent_slots x (plain_silent x w.because)
  outcome_slots p claims (exchanges kind k j x) w = exchange_slots kind k j x w.because
  outcome_slots p claims (polls address) w = silent_slots (deliver nothing process.queue) (deliver_silent nothing process.queue refl)
  outcome_slots p claims awaits w = silent_slots (deliver waits process.queue) (deliver_silent waits process.queue refl)
  outcome_slots p claims (moves new x) w = silent_slots x (plain_silent x w.because.plain)
  outcome_slots p claims (leaves s x) w = λ kind driver k j _. cleared_held s kind k j ∙ sym (last_exit kind driver j a x hs (left_exit w.because))
  outcome_slots p claims (queues u) w = silent_slots taken (record { exchange = refl; exit = refl })
  outcome_slots p claims (writes address bytes) w = silent_slots deposited (record { exchange = refl; exit = refl })
  outcome_slots p claims (commands k n x y) w = silent_slots _ (plain_silent (command_answer p n (get_or claims k free)) (command_plain p n (get_or claims k free)))
