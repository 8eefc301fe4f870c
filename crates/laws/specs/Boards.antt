-- What a good board gives: areas in order and disjoint, and few processes, drivers and slots.
use Rattle.std.specs.Prelude.{ℕ, ◌+◌, ◌≤◌, ◌<◌, ◌≡◌, refl, ◌≢◌, Bool, true, false, ◌||◌, length, leb}
use Rattle.std.proofs.Common.{arith}
use Rattle.std.proofs.Math.Decide.{dec_lt}
use Rattle.std.proofs.Math.ListN.{get_or-eq_default}
use borrow.Author.Tests.{leb-true, ltb-true}
use Rattle.definition.specs.Limits.{max_drivers, max_slots, image_bytes, memory_base, flash_base}
use Rattle.definition.specs.Board.{Board, Areas, no_areas, Driver, no_driver, Kind, subscribe, read_write, read_only, areas_at, driver_at, slots_of, disjoint, ram_disjoint, good_areas, good_driver, good_board}
use Rattle.laws.specs.Facts.{each_holds, below_at, pairwise_at}
use Rattle.laws.specs.Fit.{Ground}

-- a process's areas are in order, each in its image
pub record Placed (a : Areas) : Type 0 where
  pub base : memory_base ≤ a.ram_start
  pub first_low : a.ram_start ≤ a.first_break
  pub first_high : a.first_break ≤ a.grant_start
  pub grant_high : a.grant_start ≤ a.ram_end
  pub top : a.ram_end ≤ memory_base + image_bytes
  pub some : a.ram_start < a.ram_end
  pub flash_low : flash_base ≤ a.flash_start
  pub flash_top : a.flash_end ≤ flash_base + image_bytes

placed_of : (drivers : ℕ) (a : Areas) → good_areas drivers a ≡ true → Placed a
unfolding good_areas
placed_of drivers a e =
    let h = each_holds _ e in
    record {
      base = leb-true _ _ h.0;
      first_low = leb-true _ _ h.1.0;
      first_high = leb-true _ _ h.1.1.0;
      grant_high = leb-true _ _ h.1.1.1.0;
      top = leb-true _ _ h.1.1.1.1.0;
      some = ltb-true _ _ h.1.1.1.1.1.0;
      flash_low = leb-true _ _ h.1.1.1.1.1.1.0;
      flash_top = leb-true _ _ h.1.1.1.1.1.1.1.1.0;
    }

-- two areas of RAM, one wholly before the other
pub data Apart (a b : Areas) : Type 0 where
  before : a.ram_end ≤ b.ram_start → Apart a b
  behind : b.ram_end ≤ a.ram_start → Apart a b

apart_of : (a b : Areas) → ram_disjoint a b ≡ true → Apart a b
unfolding disjoint
apart_of a b e = go (leb a.ram_end b.ram_start) refl e
  where
    go : (t : Bool) → leb a.ram_end b.ram_start ≡ t → (t || leb b.ram_end a.ram_start) ≡ true → Apart a b
    go true p q = before (leb-true _ _ p)
    go false p q = behind (leb-true _ _ q)

apart_sym : {a b : Areas} → Apart a b → Apart b a
apart_sym (before p) = behind p
apart_sym (behind p) = before p

-- a driver has few slots of each kind; where there is none, it has none
few_of : (kind : Kind) (d : Driver) → good_driver d ≡ true → slots_of kind d ≤ max_slots
unfolding good_driver slots_of
few_of subscribe d e = leb-true _ _ (each_holds _ e).0
few_of read_write d e = leb-true _ _ (each_holds _ e).1.0
few_of read_only d e = leb-true _ _ (each_holds _ e).1.1.0

none_few : (kind : Kind) → slots_of kind no_driver ≤ max_slots
unfolding slots_of
none_few subscribe = omega arith
none_few read_write = omega arith
none_few read_only = omega arith

pub off_areas : (b : Board) (p : ℕ) → length b.processes ≤ p → areas_at b p ≡ no_areas
off_areas b p h = get_or-eq_default b.processes no_areas h

module _ (b : Board) (good : good_board b ≡ true) where
  pub few_drivers : length b.drivers ≤ max_drivers
  unfolding good_board
  few_drivers = leb-true _ _ (each_holds _ good).1.1.0

  pub placed : (p : ℕ) → p < length b.processes → Placed (areas_at b p)
  unfolding good_board
  placed p h = placed_of _ _ (below_at (length b.processes) (λ p. good_areas (length b.drivers) (areas_at b p)) (each_holds _ good).1.1.1.0 p h)

  pub few_slots : (kind : Kind) (k : ℕ) → slots_of kind (driver_at b k) ≤ max_slots
  unfolding good_board
  few_slots kind k = elim (dec_lt k (length b.drivers)) [
    | yes h ↦ few_of kind (driver_at b k) (below_at (length b.drivers) (λ k. good_driver (driver_at b k)) (each_holds _ good).1.1.1.1.0 k h)
    | no h ↦ rw (get_or-eq_default b.drivers no_driver {n = k} (omega arith)) (none_few kind)
  ]

  pub apart : (p q : ℕ) → p ≢ q → p < length b.processes → q < length b.processes → Apart (areas_at b p) (areas_at b q)
  unfolding good_board
  apart p q ne hp hq =
      let e = (each_holds _ good).1.1.1.1.1.0 in
      elim (dec_lt p q) [
        | yes lt ↦ apart_of _ _ (pairwise_at (length b.processes) (λ p q. ram_disjoint (areas_at b p) (areas_at b q)) e p q lt hq)
        | no ge ↦ apart_sym (apart_of _ _ (pairwise_at (length b.processes) (λ p q. ram_disjoint (areas_at b p) (areas_at b q)) e q p (omega arith) hp))
      ]

  pub ground : (p : ℕ) → Ground b (areas_at b p)
  ground p = elim (dec_lt p (length b.processes)) [
    | yes h ↦ let o = placed p h in record { first_low = o.first_low; first_high = o.first_high; grant_high = o.grant_high; few_slots = few_slots; few_drivers = few_drivers }
    | no h ↦ rw (off_areas b p (omega arith)) (record { first_low = omega arith; first_high = omega arith; grant_high = omega arith; few_slots = few_slots; few_drivers = few_drivers })
  ]
