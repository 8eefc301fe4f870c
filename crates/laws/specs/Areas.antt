-- Where a buffer lies, in numbers: what each area says of a buffer, and that a buffer of which this can be said lies there.
use Rattle.std.specs.Prelude.{ℕ, ◌+◌, ◌≤◌, ◌≡◌, Bool, ◌≢◌}
use Rattle.std.proofs.Math.Path.{refl}
use Rattle.std.proofs.Math.Bool.{true, false}
use Rattle.std.proofs.Math.Dec.{eqb}
use borrow.Author.Tests.{eqb-true, eqb-false, eq-eqb, ne_eqb}
use Rattle.definition.specs.Tests.{provided◌then◌else◌, within}
use Rattle.definition.specs.Board.{Areas, read_only}
use Rattle.definition.specs.State.{Pair}
use Rattle.definition.specs.Area.{Area, empty, in_ram, in_flash, outside, area_of, accessible}
use Rattle.laws.specs.Facts.{within_true, within_false, true_within, false_within}

module _ (a : Areas) (break : ℕ) (x : Pair) where
  -- wholly in [S, break), and wholly in [F, FE)
  abbrev pub InRam : Type 0
  InRam = (a.ram_start ≤ x.first) × (x.first + x.second ≤ break)

  abbrev pub InFlash : Type 0
  InFlash = (a.flash_start ≤ x.first) × (x.first + x.second ≤ a.flash_end)

  -- what each area says of a buffer
  abbrev pub Lies : Area → Type 0
  Lies empty = x.second ≡ 0
  Lies in_ram = (x.second ≢ 0) × InRam
  Lies in_flash = (x.second ≢ 0) × (InRam → ⊥) × InFlash
  Lies outside = (x.second ≢ 0) × (InRam → ⊥) × (InFlash → ⊥)

  -- the area of a buffer, taken apart into its numbers
  pub area_lies : Lies (area_of a break x)
  unfolding area_of provided◌then◌else◌
  area_lies = go _ _ _ refl refl refl
    where
      go : (s t u : Bool) → eqb x.second 0 ≡ s → within a.ram_start break x.first x.second ≡ t → within a.flash_start a.flash_end x.first x.second ≡ u
          → Lies (provided s then empty else provided t then in_ram else provided u then in_flash else outside)
      go true t u p q r = eqb-true _ _ p
      go false true u p q r = (eqb-false _ _ p, within_true _ _ _ _ q)
      go false false true p q r = (eqb-false _ _ p, within_false _ _ _ _ q, within_true _ _ _ _ r)
      go false false false p q r = (eqb-false _ _ p, within_false _ _ _ _ q, within_false _ _ _ _ r)

  -- and put together again
  pub lies_area : (area : Area) → Lies area → area_of a break x ≡ area
  unfolding area_of provided◌then◌else◌
  lies_area empty z = rw (eq-eqb x.second 0 z)
  lies_area in_ram (n, r) = rw (ne_eqb x.second 0 n, true_within a.ram_start break x.first x.second r.0 r.1)
  lies_area in_flash (n, q, f) = rw (ne_eqb x.second 0 n, false_within a.ram_start break x.first x.second q, true_within a.flash_start a.flash_end x.first x.second f.0 f.1)
  lies_area outside (n, q, f) = rw (ne_eqb x.second 0 n, false_within a.ram_start break x.first x.second q, false_within a.flash_start a.flash_end x.first x.second f)

  -- a read-only slot may hold what lies in flash, wherever the break is
  pub flash_readable : InFlash → accessible read_only (area_of a break x) ≡ true
  unfolding accessible
  flash_readable f = go (area_of a break x) area_lies
    where
      go : (area : Area) → Lies area → accessible read_only area ≡ true
      go empty z = refl
      go in_ram l = refl
      go in_flash l = refl
      go outside (n, q, r) = absurd (r f)
