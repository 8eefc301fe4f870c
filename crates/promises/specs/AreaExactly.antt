-- The definition says where a buffer lies, exactly; and no other way to say it does.
use Rattle.std.specs.Prelude.{ℕ, ◌<◌, ◌≡◌, refl, ◌↔◌, true, length}
use Rattle.std.proofs.Common.{sym, subst, arith}
use Rattle.definition.specs.Board.{Board, Areas, areas_at, good_board}
use Rattle.definition.specs.State.{Pair}
use Rattle.definition.specs.Call.{pair}
use Rattle.definition.specs.Area.{Area, empty, in_ram, in_flash, outside, area_of}
use Rattle.laws.specs.Areas.{InRam, InFlash, Lies as At, area_lies, lies_area}
use Rattle.laws.specs.Boards.{Placed, placed}
use Rattle.promises.specs.Conditions.{lies_of, of_lies}
use Rattle.promises.specs.WhichArea.{LiesExactly, SaysWhere}

module _ (a : Areas) (o : Placed a) (break address size : ℕ) where
  abbrev ram : Type 0
  ram = InRam a break (pair address size)

  abbrev flash : Type 0
  flash = InFlash a break (pair address size)

  -- the images lie apart
  never_both_lem : ram → flash → ⊥
  never_both_lem (low, high) (low', high') = omega (arith, o.base, o.flash_top)

  abbrev area : Area
  area = area_of a break (pair address size)

  -- an area is said exactly if its numbers hold
  said : (found : Area) → (area ≡ found) ↔ At a break (pair address size) found
  said found = (λ e. subst (At a break (pair address size)) e (area_lies a break (pair address size)), lies_area a break (pair address size) found)

  pub exactly : LiesExactly a break address size area
  exactly = record {
    nothing = said empty;
    ram = (λ e. let (n, r) = (said in_ram).0 e in (n, lies_of r), λ (n, r). (said in_ram).1 (n, of_lies r));
    flash = (λ e. let (n, _, f) = (said in_flash).0 e in (n, lies_of f), λ (n, f). (said in_flash).1 (n, λ r. never_both_lem r (of_lies f), of_lies f));
    elsewhere = (
      λ e. let (n, r, f) = (said outside).0 e in (n, λ x. r (of_lies x), λ x. f (of_lies x)),
      λ (n, r, f). (said outside).1 (n, λ x. r (lies_of x), λ x. f (lies_of x)),
    );
    never_both = λ (r, f). never_both_lem (of_lies r) (of_lies f);
  }

pub says_where : SaysWhere area_of
says_where b good p break address size known = exactly (areas_at b p) (placed b good p known) break address size

-- so it says one area of a buffer
pub one_area : {a : Areas} {break address size : ℕ} (x y : Area) → LiesExactly a break address size x → LiesExactly a break address size y → x ≡ y
one_area empty y g h = sym (h.nothing.1 (g.nothing.0 refl))
one_area in_ram y g h = sym (h.ram.1 (g.ram.0 refl))
one_area in_flash y g h = sym (h.flash.1 (g.flash.0 refl))
one_area outside y g h = sym (h.elsewhere.1 (g.elsewhere.0 refl))

pub one_way : (areaOf' : Areas → ℕ → Pair → Area) → SaysWhere areaOf' → (b : Board) → good_board b ≡ true → (p break address size : ℕ) → p < length b.processes
    → areaOf' (areas_at b p) break (pair address size) ≡ area_of (areas_at b p) break (pair address size)
one_way areaOf' s b good p break address size known = one_area _ _ (s b good p break address size known) (says_where b good p break address size known)
