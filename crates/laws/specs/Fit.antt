-- A good record as propositions, and the queue after an exchange.
use Rattle.std.specs.Prelude.{ℕ, suc, ◌+◌, ◌≤◌, ◌<◌, ◌≡◌, ◌≢◌, Bool, ◌&&◌, length, get_or, set}
use Rattle.std.proofs.Math.Path.{refl}
use Rattle.std.proofs.Common.{sym, ◌∙◌, arith, get_or-set_other, eq-eqb}
use Rattle.std.proofs.Math.Bool.{true, false}
use mathlib.Core.List.{List, [], ◌∷◌, ◌++◌, tail}
use Rattle.std.proofs.Math.Dec.{eqb}
use Rattle.definition.specs.Tests.{provided◌then◌else◌, Each, none, more}
use Rattle.definition.specs.Limits.{max_drivers, max_slots, max_queue, all_slots}
use Rattle.definition.specs.Board.{Board, Areas, Kind, subscribe, read_write, read_only, driver_at, slots_of}
use Rattle.definition.specs.State.{Pair, null, Upcall, exited, is_exited, Process, slot_at, cleared}
use Rattle.definition.specs.World.{cancel, after_exchange, Write}
use Rattle.definition.specs.WellFormed.{good_slot}
use Rattle.laws.specs.Facts.{never, clash, and}
use Rattle.laws.specs.Slots.{slot_one}

-- ---- good records, as propositions

-- a queued upcall names an existing slot, and carries its pointer, which is not 0, and its data
pub record Carried (b : Board) (slots : List Pair) (u : Upcall) : Type 0 where
  pub installed : u.place < length b.drivers
  pub exists : u.slot < slots_of subscribe (driver_at b u.place)
  pub set : eqb u.pair.first 0 ≡ false
  pub holds : u.pair ≡ get_or slots (slot_at subscribe u.place u.slot) null

pub record Fits (b : Board) (a : Areas) (process : Process) : Type 0 where
  pub low : a.ram_start ≤ process.break
  pub high : process.break ≤ a.grant_start
  pub size : length process.slots ≡ all_slots
  pub slots : (i : ℕ) → good_slot b a process.break i (get_or process.slots i null) ≡ true
  pub room : length process.queue ≤ max_queue
  pub queued : Each (Carried b process.slots) process.queue
  pub clear : is_exited process.status ≡ true → process ≡ cleared a exited

-- the part of a good board that a process's steps rest on
pub record Ground (b : Board) (a : Areas) : Type 0 where
  pub first_low : a.ram_start ≤ a.first_break
  pub first_high : a.first_break ≤ a.grant_start
  pub grant_high : a.grant_start ≤ a.ram_end
  pub few_slots : (kind : Kind) (k : ℕ) → slots_of kind (driver_at b k) ≤ max_slots
  pub few_drivers : length b.drivers ≤ max_drivers

-- bytes that are written lie in [S, E)
pub data Inside (a : Areas) (x : Write) : Type 0 where
  nowhere : x.bytes ≡ [] → Inside a x
  inside : a.ram_start ≤ x.address → x.address + length x.bytes ≤ a.ram_end → Inside a x

-- ---- lists

module _ {A : Type 0} {P : A → Type 0} where
  pub each_tail : {l : List A} → Each P l → Each P (tail l)
  each_tail none = none
  each_tail (more p ps) = ps

  pub each_snoc : {l : List A} {x : A} → Each P l → P x → Each P (l ++ (x ∷ []))
  each_snoc none q = more q none
  each_snoc (more p ps) q = more p (each_snoc ps q)

pub tail_length : (q : List Upcall) → length (tail q) ≤ length q
tail_length [] = omega arith
tail_length (u ∷ q) = omega arith

pub cancel_length : (k j : ℕ) (q : List Upcall) → length (cancel k j q) ≤ length q
unfolding cancel provided◌then◌else◌
cancel_length k j [] = omega arith
cancel_length k j (u ∷ q) = go (eqb u.place k && eqb u.slot j) (cancel_length k j q)
  where
    go : (t : Bool) → length (cancel k j q) ≤ length q → length (provided t then cancel k j q else u ∷ cancel k j q) ≤ suc (length q)
    go true h = omega arith
    go false h = omega arith

-- ---- the queue after an exchange

module _ (b : Board) (a : Areas) (g : Ground b a) where
  pub place_small : {k : ℕ} → k < length b.drivers → k < max_drivers
  place_small h = omega (arith, g.few_drivers)

  pub number_small : (kind : Kind) (k : ℕ) {j : ℕ} → j < slots_of kind (driver_at b k) → j < max_slots
  number_small kind k h = omega (arith, g.few_slots kind k)

  module _ (slots : List Pair) (kind : Kind) (k j : ℕ) (x : Pair) (hk : k < length b.drivers) (hj : j < slots_of kind (driver_at b k)) where
    -- a store to another slot leaves what an upcall carries
    carried_other : (u : Upcall) → Carried b slots u → slot_at subscribe u.place u.slot ≢ slot_at kind k j → Carried b (set slots (slot_at kind k j) x) u
    carried_other u c ne = record {
      installed = c.installed;
      exists = c.exists;
      set = c.set;
      holds = c.holds ∙ sym (get_or-set_other slots (slot_at kind k j) (slot_at subscribe u.place u.slot) x null ne);
    }

    -- the same slot is of the same kind, place and number
    same_slot : (u : Upcall) → Carried b slots u → slot_at subscribe u.place u.slot ≡ slot_at kind k j → (subscribe ≡ kind) × (u.place ≡ k) × (u.slot ≡ j)
    same_slot u c e =
        let s = slot_one subscribe kind u.place u.slot k j (place_small c.installed) (number_small subscribe u.place c.exists) (place_small hk) (number_small kind k hj) e in
        (s.kinds, s.places, s.numbers)

  -- what is left after a cancel is of other slots
  cancel_carried : (slots : List Pair) (k j : ℕ) (x : Pair) → k < length b.drivers → j < slots_of subscribe (driver_at b k) → (q : List Upcall) → Each (Carried b slots) q
      → Each (Carried b (set slots (slot_at subscribe k j) x)) (cancel k j q)
  unfolding cancel provided◌then◌else◌
  cancel_carried slots k j x hk hj [] none = none
  cancel_carried slots k j x hk hj (u ∷ q) (more c cs) = go (eqb u.place k && eqb u.slot j) refl (cancel_carried slots k j x hk hj q cs)
    where
      go : (t : Bool) → (eqb u.place k && eqb u.slot j) ≡ t → Each (Carried b (set slots (slot_at subscribe k j) x)) (cancel k j q)
          → Each (Carried b (set slots (slot_at subscribe k j) x)) (provided t then cancel k j q else u ∷ cancel k j q)
      go true p ih = ih
      go false p ih = more (carried_other slots subscribe k j x hk hj u c λ e.
          let (_, dk, sj) = same_slot slots subscribe k j x hk hj u c e in clash (and (eq-eqb u.place k dk) (eq-eqb u.slot j sj)) p) ih

  -- an allow stores to no subscribe slot
  allow_carried : (slots : List Pair) (kind : Kind) (k j : ℕ) (x : Pair) → k < length b.drivers → j < slots_of kind (driver_at b k) → (subscribe ≡ kind → ⊥) → (q : List Upcall) → Each (Carried b slots) q
      → Each (Carried b (set slots (slot_at kind k j) x)) q
  allow_carried slots kind k j x hk hj ne [] none = none
  allow_carried slots kind k j x hk hj ne (u ∷ q) (more c cs) =
      more (carried_other slots kind k j x hk hj u c (λ e. ne (same_slot slots kind k j x hk hj u c e).0)) (allow_carried slots kind k j x hk hj ne q cs)

  pub exchange_carried : (slots : List Pair) (kind : Kind) (k j : ℕ) (x : Pair) → k < length b.drivers → j < slots_of kind (driver_at b k) → (q : List Upcall) → Each (Carried b slots) q
      → Each (Carried b (set slots (slot_at kind k j) x)) (after_exchange kind k j q)
  exchange_carried slots subscribe k j x hk hj q c = cancel_carried slots k j x hk hj q c
  exchange_carried slots read_write k j x hk hj q c = allow_carried slots read_write k j x hk hj (λ e. never (cc)) q c
  exchange_carried slots read_only k j x hk hj q c = allow_carried slots read_only k j x hk hj (λ e. never (cc)) q c

pub exchange_length : (kind : Kind) (k j : ℕ) (q : List Upcall) → length (after_exchange kind k j q) ≤ length q
exchange_length subscribe k j q = cancel_length k j q
exchange_length read_write k j q = omega arith
exchange_length read_only k j q = omega arith
