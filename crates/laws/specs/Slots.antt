-- Slots: where they stand, what they may hold, and what a moved break leaves of that.
use Rattle.std.specs.Prelude.{ℕ, ◌+◌, ◌*◌, ◌<◌, ◌≡◌, Bool, ◌||◌, not, leb, ltb, eqb}
use Rattle.std.proofs.Math.Path.{refl, ap}
use Rattle.std.proofs.Common.{sym, ◌∙◌, subst}
use Rattle.std.proofs.Math.Bool.{true, false}
use native.Mathlib.Omega.{arith}
use borrow.Author.Tests.{leb-true, lt-ltb, le-ltb, eqb-true}
use Rattle.definition.specs.Tests.{provided◌then◌else◌}
use Rattle.definition.specs.Limits.{max_drivers, max_slots, kind_slots, all_slots}
use Rattle.definition.specs.Board.{Board, Areas, Kind, subscribe, read_write, read_only, driver_at, slots_of, has_slot}
use Rattle.definition.specs.State.{Pair, is_null, kind_number, slot_at}
use Rattle.definition.specs.Area.{Area, empty, in_ram, in_flash, outside, area_of, accessible, holdable, is_in_ram, clears}
use Rattle.definition.specs.WellFormed.{kind_at, place_at, number_at, good_slot}
use Rattle.laws.specs.Facts.{clash, either, both, or_left}
use Rattle.laws.specs.Areas.{InRam, Lies, area_lies, lies_area, flash_readable}

-- ---- where a slot stands

pub kind_bound : (kind : Kind) → kind_number kind < 3
kind_bound subscribe = omega arith
kind_bound read_write = omega arith
kind_bound read_only = omega arith

module _ (kind : Kind) (k j : ℕ) (hk : k < max_drivers) (hj : j < max_slots) where
  pub slot_bound : slot_at kind k j < all_slots
  unfolding slot_at
  slot_bound = omega (arith, kind_bound kind)

  number_at_lem : number_at (slot_at kind k j) ≡ j
  unfolding slot_at
  number_at_lem = omega arith

  place_at_lem : place_at (slot_at kind k j) ≡ k
  unfolding slot_at
  place_at_lem = go kind
    where
      go : (kind : Kind) → place_at ((kind_number kind * max_drivers + k) * max_slots + j) ≡ k
      go subscribe = omega arith
      go read_write = omega arith
      go read_only = omega arith

  kind_at_lem : kind_at (slot_at kind k j) ≡ kind
  unfolding slot_at provided◌then◌else◌
  kind_at_lem = go kind
    where
      go : (kind : Kind) → kind_at ((kind_number kind * max_drivers + k) * max_slots + j) ≡ kind
      go subscribe = rw (lt-ltb ((0 * max_drivers + k) * max_slots + j) kind_slots (omega arith))
      go read_write = rw (le-ltb ((1 * max_drivers + k) * max_slots + j) kind_slots (omega arith), lt-ltb ((1 * max_drivers + k) * max_slots + j) (2 * kind_slots) (omega arith))
      go read_only = rw (le-ltb ((2 * max_drivers + k) * max_slots + j) kind_slots (omega arith), le-ltb ((2 * max_drivers + k) * max_slots + j) (2 * kind_slots) (omega arith))

-- no two slots stand at one place
pub record SameSlot (kind kind' : Kind) (k j k' j' : ℕ) : Type 0 where
  pub kinds : kind ≡ kind'
  pub places : k ≡ k'
  pub numbers : j ≡ j'

pub slot_one : (kind kind' : Kind) (k j k' j' : ℕ) → k < max_drivers → j < max_slots → k' < max_drivers → j' < max_slots → slot_at kind k j ≡ slot_at kind' k' j' → SameSlot kind kind' k j k' j'
slot_one kind kind' k j k' j' hk hj hk' hj' e = record {
  kinds = sym (kind_at_lem kind k j hk hj) ∙ ap kind_at e ∙ kind_at_lem kind' k' j' hk' hj';
  places = sym (place_at_lem kind k j hk hj) ∙ ap place_at e ∙ place_at_lem kind' k' j' hk' hj';
  numbers = sym (number_at_lem kind k j hk hj) ∙ ap number_at e ∙ number_at_lem kind' k' j' hk' hj';
}

-- ---- what a slot may hold

null_empty : (a : Areas) (break : ℕ) (x : Pair) → is_null x ≡ true → area_of a break x ≡ empty
null_empty a break x e = lies_area a break x empty (eqb-true _ _ (both (eqb x.first 0) (eqb x.second 0) e).1)

pub null_holdable : (kind : Kind) (a : Areas) (break : ℕ) (x : Pair) → is_null x ≡ true → holdable kind a break x ≡ true
unfolding holdable accessible
null_holdable subscribe a break x e = or_left _ _ (both (eqb x.first 0) (eqb x.second 0) e).0
null_holdable read_write a break x e = ap (accessible read_write) (null_empty a break x e)
null_holdable read_only a break x e = ap (accessible read_only) (null_empty a break x e)

module _ (b : Board) (a : Areas) (break i : ℕ) where
  pub slot_null : (x : Pair) → is_null x ≡ true → good_slot b a break i x ≡ true
  unfolding good_slot
  slot_null x e = either (λ t. t ≡ true) (has_slot (kind_at i) b (place_at i) (number_at i)) _ _ (λ _. null_holdable (kind_at i) a break x e) (λ _. e)

  -- whatever a good slot holds, its kind may hold
  pub slot_holdable : (x : Pair) → good_slot b a break i x ≡ true → holdable (kind_at i) a break x ≡ true
  unfolding good_slot provided◌then◌else◌
  slot_holdable x e = go (has_slot (kind_at i) b (place_at i) (number_at i)) e
    where
      go : (t : Bool) → (provided t then holdable (kind_at i) a break x else is_null x) ≡ true → holdable (kind_at i) a break x ≡ true
      go true q = q
      go false q = null_holdable (kind_at i) a break x q

  -- a good slot stays good where what it holds may still be held
  pub slot_carry : (new : ℕ) (x : Pair) → (holdable (kind_at i) a break x ≡ true → holdable (kind_at i) a new x ≡ true) → good_slot b a break i x ≡ true → good_slot b a new i x ≡ true
  unfolding good_slot provided◌then◌else◌
  slot_carry new x f e = go (has_slot (kind_at i) b (place_at i) (number_at i)) e
    where
      go : (t : Bool) → (provided t then holdable (kind_at i) a break x else is_null x) ≡ true → (provided t then holdable (kind_at i) a new x else is_null x) ≡ true
      go true q = f q
      go false q = q

-- a subscribe slot does not mind where the break is
pub slot_low : (b : Board) (a : Areas) (break new i : ℕ) (x : Pair) → i < kind_slots → good_slot b a break i x ≡ true → good_slot b a new i x ≡ true
unfolding provided◌then◌else◌ holdable
slot_low b a break new i x h =
    let low : kind_at i ≡ subscribe = rw (lt-ltb i kind_slots h) in
    slot_carry b a break i new x (λ e. subst (λ n. holdable n a new x ≡ true) (sym low) (subst (λ n. holdable n a break x ≡ true) low e))

-- a slot that the board has, with a pair that its kind may hold
pub slot_new : (kind : Kind) (b : Board) (a : Areas) (break k j : ℕ) (x : Pair) → k < max_drivers → j < max_slots → j < slots_of kind (driver_at b k) → holdable kind a break x ≡ true
    → good_slot b a break (slot_at kind k j) x ≡ true
unfolding good_slot has_slot
slot_new kind b a break k j x hk hj h e =
    rw (kind_at_lem kind k j hk hj, place_at_lem kind k j hk hj, number_at_lem kind k j hk hj) (either (λ t. t ≡ true) (ltb j (slots_of kind (driver_at b k))) _ _ (λ _. e) λ q. clash (lt-ltb _ _ h) q)

-- what a good slot that the board has holds
pub held_holdable : (kind : Kind) (b : Board) (a : Areas) (break k j : ℕ) (x : Pair) → k < max_drivers → j < max_slots → good_slot b a break (slot_at kind k j) x ≡ true → holdable kind a break x ≡ true
held_holdable kind b a break k j x hk hj e = subst (λ n. holdable n a break x ≡ true) (kind_at_lem kind k j hk hj) (slot_holdable b a break (slot_at kind k j) x e)

-- ---- a buffer, and a break that moves

module _ (a : Areas) (x : Pair) where
  -- where the break moves that a buffer lets move, memory that was accessible there still is: in RAM the buffer ends at the new break or below
  accessible_moved : (kind : Kind) (break new : ℕ) (area : Area) → Lies a break x area → (not (is_in_ram area) || leb (x.first + x.second) new) ≡ true → accessible kind area ≡ true → accessible kind (area_of a new x) ≡ true
  unfolding accessible
  accessible_moved kind break new empty z e h = ap (accessible kind) (lies_area a new x empty z) ∙ h
  accessible_moved kind break new in_ram (n, r) e h = ap (accessible kind) (lies_area a new x in_ram (n, (r.0, leb-true _ _ e))) ∙ h
  accessible_moved subscribe break new in_flash l e h = refl
  accessible_moved read_write break new in_flash l e h = clash {t = false} h refl
  accessible_moved read_only break new in_flash (n, q, f) e h = flash_readable a new x f
  accessible_moved subscribe break new outside l e h = refl
  accessible_moved read_write break new outside l e h = clash {t = false} h refl
  accessible_moved read_only break new outside l e h = clash {t = false} h refl

  pub moved_holdable : (kind : Kind) (break new : ℕ) → clears a break new x ≡ true → holdable kind a break x ≡ true → holdable kind a new x ≡ true
  unfolding holdable clears
  moved_holdable subscribe break new e h = h
  moved_holdable read_write break new e h = accessible_moved read_write break new (area_of a break x) (area_lies a break x) e h
  moved_holdable read_only break new e h = accessible_moved read_only break new (area_of a break x) (area_lies a break x) e h

  -- a non-empty read-write buffer lies in RAM below the break
  pub writable_inside : (break : ℕ) → holdable read_write a break x ≡ true → 0 < x.second → InRam a break x
  unfolding holdable accessible
  writable_inside break e h = go (area_of a break x) (area_lies a break x) e
    where
      go : (area : Area) → Lies a break x area → accessible read_write area ≡ true → InRam a break x
      go empty z e = absurd (omega arith)
      go in_ram (n, r) e = r
      go in_flash l e = clash {t = false} e refl
      go outside l e = clash {t = false} e refl
