-- The board without one of its drivers: where the other drivers and their bits stand, what a call reaches there, and that it is good.
use Rattle.std.specs.Prelude.{ℕ, zero, suc, ◌/◌, ◌%◌, ◌^◌, ◌≤◌, ◌<◌, ◌≡◌, ◌≢◌, Bool, ◌&&◌, List, [], ◌∷◌, map, get_or}
use Rattle.std.proofs.Math.Path.{refl, ap}
use Rattle.std.proofs.Common.{sym, ◌∙◌, subst, arith}
use Rattle.std.proofs.Math.Bool.{true, false, not}
use Rattle.std.proofs.Math.Decide.{dec_lt, ℕ_discrete}
use Rattle.std.proofs.Math.ListN.{length, length-map, get_or-map, get_or-eq_default}
use Rattle.std.proofs.Math.Dec.{ltb, eqb}
use borrow.Author.Tests.{leb-true, ltb-true, ltb-false, eqb-false, le-leb, lt-ltb, le-ltb, eq-eqb, ne_eqb, not-true}
use Rattle.definition.specs.Tests.{provided◌then◌else◌}
use Rattle.definition.specs.Limits.{max_drivers}
use Rattle.definition.specs.Board.{Board, Areas, no_areas, Driver, no_driver, Kind, areas_at, driver_at, slots_of, place_of, installed, is_shared, has_slot, permits, Reached, at_place, absent, reach, disjoint, ram_disjoint, flash_disjoint, good_areas, good_driver, good_board}
use Rattle.definition.specs.Decide.{call}
use Rattle.definition.specs.Runs.{sends_shared}
use Rattle.definition.specs.Without.{drop_at, drop_bit, areas_without, board_without}
use Rattle.laws.specs.Facts.{clash, each_holds, all_hold, below_at, at_below, pairwise_at, at_pairs}
use Rattle.laws.specs.Places.{place_number, no_place, reached_at}
use Rattle.promises.specs.TakenOut.{down, up, up_apart, up_rises, up_below, down_below, down_from, length_drop, at_up, at_down, dropped_none, dropped_bit, dropped_small}

-- ---- a driver's place

place_low : (k : ℕ) (ds : List Driver) (n : ℕ) → place_of ds n ≢ k → place_of (drop_at k ds) n ≡ down k (place_of ds n)
unfolding place_of drop_at down provided◌then◌else◌
place_low zero [] n e = refl
place_low (suc k) [] n e = refl
place_low zero (d ∷ ds) n e = go (eqb d.number n) e
  where
    go : (t : Bool) → (provided t then 0 else suc (place_of ds n)) ≢ zero → place_of ds n ≡ down zero (provided t then 0 else suc (place_of ds n))
    go true q = absurd (q refl)
    go false q = refl
place_low (suc k) (d ∷ ds) n e = go (eqb d.number n) e (place_low k ds n)
  where
    go : (t : Bool) → (provided t then 0 else suc (place_of ds n)) ≢ suc k → (place_of ds n ≢ k → place_of (drop_at k ds) n ≡ down k (place_of ds n))
        → (provided t then 0 else suc (place_of (drop_at k ds) n)) ≡ down (suc k) (provided t then 0 else suc (place_of ds n))
    go true q ih = refl
    go false q ih = ap suc (ih (λ z. q (ap suc z)))

-- past the last one no driver is shared
unshared_off : (b : Board) (k : ℕ) → length b.drivers ≤ k → is_shared b k ≡ false
unfolding is_shared
unshared_off b k h = rw (get_or-eq_default b.drivers no_driver {n = k} h)

-- a driver that is reached stands lower, too
abbrev pub lower : ℕ → Reached → Reached
lower k (at_place i) = at_place (down k i)
lower k absent = absent

-- ---- the board

module _ (k : ℕ) (b : Board) where
  pub areas_without_lem : (p : ℕ) → areas_at (board_without k b) p ≡ areas_without k (areas_at b p)
  unfolding board_without
  areas_without_lem p =
      let none : areas_without k no_areas ≡ no_areas = λ i. record { ram_start = 0; ram_end = 0; grant_start = 0; first_break = 0; flash_start = 0; flash_end = 0; permissions = dropped_none k i } in
      ap (get_or (map (areas_without k) b.processes) p) (sym none) ∙ get_or-map (areas_without k) b.processes p no_areas

  pub processes_without : length (board_without k b).processes ≡ length b.processes
  unfolding board_without
  processes_without = length-map b.processes (areas_without k)

  driver_down : (i : ℕ) → i ≢ k → driver_at (board_without k b) (down k i) ≡ driver_at b i
  unfolding board_without
  driver_down i e = at_down k i b.drivers no_driver e

  driver_up : (i : ℕ) → driver_at (board_without k b) i ≡ driver_at b (up k i)
  unfolding board_without
  driver_up i = at_up k i b.drivers no_driver

  pub place_down : (n : ℕ) → place_of b.drivers n ≢ k → place_of (board_without k b).drivers n ≡ down k (place_of b.drivers n)
  unfolding board_without
  place_down n e = place_low k b.drivers n e

  pub slot_down : (kind : Kind) (i j : ℕ) → i ≢ k → has_slot kind (board_without k b) (down k i) j ≡ has_slot kind b i j
  unfolding has_slot
  slot_down kind i j e = ap (λ d. ltb j (slots_of kind d)) (driver_down i e)

  pub shared_down : (i : ℕ) → i ≢ k → is_shared (board_without k b) (down k i) ≡ is_shared b i
  unfolding is_shared
  shared_down i e = ap (λ (d : Driver). not (eqb d.shared 0)) (driver_down i e)

  permits_down : (p i : ℕ) → i ≢ k → permits (areas_at (board_without k b) p) (down k i) ≡ permits (areas_at b p) i
  unfolding permits
  permits_down p i e = ap (λ (a : Areas). eqb (a.permissions / 2 ^ down k i % 2) 1) (areas_without_lem p) ∙ ap (λ n. eqb n 1) (dropped_bit k i (areas_at b p).permissions e)

module _ (k : ℕ) (b : Board) (hk : k < length b.drivers) where
  drivers_without : suc (length (board_without k b).drivers) ≡ length b.drivers
  unfolding board_without
  drivers_without = length_drop k b.drivers hk

  pub installed_down : (i : ℕ) → i ≢ k → installed (board_without k b) (down k i) ≡ installed b i
  installed_down i e = go (ltb i (length b.drivers)) refl
    where
      go : (t : Bool) → ltb i (length b.drivers) ≡ t → installed (board_without k b) (down k i) ≡ t
      go true q = lt-ltb (down k i) (length (board_without k b).drivers) (omega (arith, drivers_without, down_below k i (length b.drivers) hk (ltb-true _ _ q) e))
      go false q = let high : length b.drivers ≤ i = ltb-false _ _ q in le-ltb (down k i) (length (board_without k b).drivers) (omega (arith, drivers_without, down_from k i (length b.drivers) hk (omega arith)))

  module _ (good : good_board b ≡ true) where
    numbers_differ : (i j : ℕ) → i < j → j < length b.drivers → (driver_at b i).number ≢ (driver_at b j).number
    unfolding good_board
    numbers_differ i j h g = eqb-false _ _ (not-true _ (pairwise_at (length b.drivers) _ (each_holds _ good).1.1.1.1.1.1.1.0 i j h g))

    other_number : (i : ℕ) → i < length b.drivers → i ≢ k → (driver_at b i).number ≢ (driver_at b k).number
    other_number i h e = elim (dec_lt i k) [
      | yes lt ↦ numbers_differ i k lt hk
      | no ge ↦ λ q. numbers_differ k i (omega arith) h (sym q)
    ]

    -- the driver that stood at place k is not installed
    pub place_gone : (n : ℕ) → place_of b.drivers n ≡ k → installed (board_without k b) (place_of (board_without k b).drivers n) ≡ false
    place_gone n e =
        let number : (driver_at b k).number ≡ n = ap (λ i. (driver_at b i).number) (sym e) ∙ place_number b.drivers n (subst (λ i. i < length b.drivers) (sym e) hk) in
        let last : place_of (board_without k b).drivers n ≡ length (board_without k b).drivers = no_place (board_without k b).drivers n (λ i h q.
        other_number (up k i) (up_below k i (length b.drivers) hk (omega (arith, drivers_without))) (up_apart k i)
        (ap (λ (d : Driver). d.number) (sym (driver_up k b i)) ∙ q ∙ sym number)) in
        le-ltb (place_of (board_without k b).drivers n) (length (board_without k b).drivers) (omega arith)

    -- ---- what a call of process p reaches, to which the driver at place k is denied

    module _ (p : ℕ) (denied : permits (areas_at b p) k ≡ false) where
      -- the same drivers, each at the place where it stands now
      pub reach_down : (driver : ℕ) → reach (board_without k b) (areas_at (board_without k b) p) driver ≡ lower k (reach b (areas_at b p) driver)
      unfolding reach provided◌then◌else◌
      reach_down driver = elim (ℕ_discrete (place_of b.drivers driver) k) [
        | yes e ↦ rw (place_gone driver e, e, lt-ltb k (length b.drivers) hk, denied)
        | no ne ↦ rw (place_down k b driver ne, installed_down (place_of b.drivers driver) ne, permits_down k b p (place_of b.drivers driver) ne) (go (installed b (place_of b.drivers driver) && permits (areas_at b p) (place_of b.drivers driver)))
      ]
        where
          go : (t : Bool) → (provided t then at_place (down k (place_of b.drivers driver)) else absent) ≡ lower k (provided t then at_place (place_of b.drivers driver) else absent)
          go true = refl
          go false = refl

      -- never the one that is denied
      pub reach_apart : (driver i : ℕ) → reach b (areas_at b p) driver ≡ at_place i → i ≢ k
      reach_apart driver i e q = clash (subst (λ i. permits (areas_at b p) i ≡ true) q (reached_at b (areas_at b p) driver i e).permitted) denied

    -- ---- a command above 0 to a shared driver of the board without it is one to another shared driver of the board

    shared_without : (n : ℕ) → is_shared (board_without k b) (place_of (board_without k b).drivers n) ≡ (not (eqb (place_of b.drivers n) k) && is_shared b (place_of b.drivers n))
    shared_without n = elim (ℕ_discrete (place_of b.drivers n) k) [
      | yes e ↦ rw (eq-eqb (place_of b.drivers n) k e) (unshared_off (board_without k b) (place_of (board_without k b).drivers n) (ltb-false _ _ (place_gone n e)))
      | no ne ↦ rw (ne_eqb (place_of b.drivers n) k ne, place_down k b n ne) (shared_down k b (place_of b.drivers n) ne)
    ]

    pub sends_another : (class r0 r1 r2 r3 : ℕ) → sends_shared (board_without k b) (call class r0 r1 r2 r3) ≡ (not (eqb (place_of b.drivers r0) k) && sends_shared b (call class r0 r1 r2 r3))
    unfolding sends_shared
    sends_another class r0 r1 r2 r3 = rw (shared_without r0) (go (eqb class 2) (eqb (place_of b.drivers r0) k))
      where
        go : (s t : Bool) → (s && ((not t && is_shared b (place_of b.drivers r0)) && ltb 0 r1)) ≡ (not t && (s && (is_shared b (place_of b.drivers r0) && ltb 0 r1)))
        go true true = refl
        go true false = refl
        go false true = refl
        go false false = refl

    -- ---- it is good

    areas_good : (a : Areas) → good_areas (length b.drivers) a ≡ true → good_areas (length (board_without k b).drivers) (areas_without k a) ≡ true
    unfolding good_areas
    areas_good a e =
        let h = each_holds _ e in
        let small : drop_bit k a.permissions < 2 ^ length (board_without k b).drivers = dropped_small k (length (board_without k b).drivers) a.permissions (omega (arith, drivers_without))
        (subst (λ n. a.permissions < 2 ^ n) (sym drivers_without) (ltb-true _ _ h.1.1.1.1.1.1.1.1.1.0)) in
        all_hold _ (h.0, (h.1.0, (h.1.1.0, (h.1.1.1.0, (h.1.1.1.1.0, (h.1.1.1.1.1.0, (h.1.1.1.1.1.1.0, (h.1.1.1.1.1.1.1.0, (h.1.1.1.1.1.1.1.1.0, (lt-ltb _ _ small, tt))))))))))

    pub without_good : good_board (board_without k b) ≡ true
    unfolding good_board disjoint
    without_good =
        let h = each_holds _ good in
        let b' = board_without k b in
        let P = length b'.processes in
        let D = length b'.drivers in
        let known : (p : ℕ) → p < P → p < length b.processes = λ p q. omega (arith, processes_without k b) in
        let stood : (i : ℕ) → i < D → up k i < length b.drivers = λ i q. up_below k i (length b.drivers) hk (omega (arith, drivers_without)) in
        let areas = at_below P (λ p. good_areas D (areas_at b' p)) (λ p q. rw (areas_without_lem k b p) (areas_good (areas_at b p) (below_at (length b.processes) (λ p. good_areas (length b.drivers) (areas_at b p)) h.1.1.1.0 p (known p q)))) in
        let drivers = at_below D (λ i. good_driver (driver_at b' i)) (λ i q. rw (driver_up k b i) (below_at (length b.drivers) (λ i. good_driver (driver_at b i)) h.1.1.1.1.0 (up k i) (stood i q))) in
        let ram = at_pairs P (λ p q. ram_disjoint (areas_at b' p) (areas_at b' q)) (λ p q lt hq. rw (areas_without_lem k b p, areas_without_lem k b q) (pairwise_at (length b.processes) (λ p q. ram_disjoint (areas_at b p) (areas_at b q)) h.1.1.1.1.1.0 p q lt (known q hq))) in
        let flash = at_pairs P (λ p q. flash_disjoint (areas_at b' p) (areas_at b' q)) (λ p q lt hq. rw (areas_without_lem k b p, areas_without_lem k b q) (pairwise_at (length b.processes) (λ p q. flash_disjoint (areas_at b p) (areas_at b q)) h.1.1.1.1.1.1.0 p q lt (known q hq))) in
        let numbers = at_pairs D (λ i j. not (eqb (driver_at b' i).number (driver_at b' j).number)) (λ i j lt hj. rw (driver_up k b i, driver_up k b j) (ap not (ne_eqb _ _ (numbers_differ (up k i) (up k j) (up_rises k i j lt) (stood j hj))))) in
        let few = le-leb D max_drivers (omega (arith, drivers_without, leb-true (length b.drivers) max_drivers h.1.1.0)) in
        all_hold _ (rw (processes_without k b) h.0, (rw (processes_without k b) h.1.0, (few, (areas, (drivers, (ram, (flash, (numbers, tt))))))))
