-- Wrong ways to say where a buffer lies, to be read; each is refuted on the board of the cases, by one buffer of process 0. And wrong answers to a host that asks, which the
-- layer's statement refutes.
use Rattle.std.specs.Prelude.{ℕ, suc, ◌+◌, ◌≤◌, ◌≡◌, refl, Bool, true, [], eqb}
use Rattle.std.proofs.Common.{sym, ap, ◌∙◌, arith}
use Rattle.definition.specs.Tests.{provided◌then◌else◌, contains, within}
use Rattle.definition.specs.Board.{Areas, Kind, read_only, areas_at}
use Rattle.definition.specs.State.{Pair, State}
use Rattle.definition.specs.Call.{pair}
use Rattle.definition.specs.Area.{Area, empty, in_ram, in_flash, outside}
use Rattle.definition.specs.WellFormed.{good_state}
use Rattle.definition.specs.Image.{image_of}
use Rattle.definition.specs.Located.{Located, refused, lies, located, locate}
use Rattle.definition.specs.Cases.{areas, board, board_good, on_table}
use Rattle.definition.specs.AreaCases.{lends, asked, lent, flash_told, no_table_lem}
use Rattle.laws.specs.Facts.{never}
use Rattle.laws.specs.ImageBack.{good_back, image_well_formed}
use Rattle.promises.specs.WhichArea.{LiesExactly, SaysWhere, TellsWhere}
use Rattle.promises.specs.LocatedExactly.{one_answer}

-- ---- the wrong ways

-- a test of RAM of one's own, and else as it should be
abbrev by_ram : (Areas → ℕ → Pair → Bool) → Areas → ℕ → Pair → Area
by_ram ram a break x =
    provided eqb x.second 0 then empty
    else provided ram a break x then in_ram
    else provided within a.flash_start a.flash_end x.first x.second then in_flash
    else outside

-- a buffer may end one past the break
unfoldable pub one_past : Areas → ℕ → Pair → Area
one_past = by_ram (λ a break x. within a.ram_start (suc break) x.first x.second)

-- it is enough that it begins below the break: it may straddle it
unfoldable pub straddles : Areas → ℕ → Pair → Area
straddles = by_ram (λ a break x. contains a.ram_start break x.first)

-- RAM goes up to its end, whatever the break
unfoldable pub to_the_end : Areas → ℕ → Pair → Area
to_the_end = by_ram (λ a break x. within a.ram_start a.ram_end x.first x.second)

-- flash is tested before the size is
unfoldable pub flash_first : Areas → ℕ → Pair → Area
flash_first a break x =
    provided within a.flash_start a.flash_end x.first x.second then in_flash
    else provided eqb x.second 0 then empty
    else provided within a.ram_start break x.first x.second then in_ram
    else outside

-- every buffer is in RAM
unfoldable pub always_ram : Areas → ℕ → Pair → Area
always_ram a break x = in_ram

-- ---- refuted

-- what is said of a buffer of process 0, whose break is at 0x20001000
module _ (area_of : Areas → ℕ → Pair → Area) (s : SaysWhere area_of) (address size : ℕ) where
  exact : LiesExactly (areas_at board 0) 0x20001000 address size (area_of (areas_at board 0) 0x20001000 (pair address size))
  unfolding board areas
  exact = s board board_good 0 0x20001000 address size (omega arith)

  -- in RAM it ends at the break or below; in flash it has a size
  ram_ends : area_of (areas_at board 0) 0x20001000 (pair address size) ≡ in_ram → address + size ≤ 0x20001000
  ram_ends e = (exact.ram.0 e).1.below

  flash_some : area_of (areas_at board 0) 0x20001000 (pair address size) ≡ in_flash → size ≡ 0 → ⊥
  flash_some e = (exact.flash.0 e).0

-- whoever says RAM of a buffer that ends above the break, and whoever says flash of an empty one
pub ram_past_wrong : (area_of : Areas → ℕ → Pair → Area) (address size : ℕ) → area_of (areas_at board 0) 0x20001000 (pair address size) ≡ in_ram → (address + size ≤ 0x20001000 → ⊥) → ¬ SaysWhere area_of
ram_past_wrong area_of address size e past s = past (ram_ends area_of s address size e)

pub flash_empty_wrong : (area_of : Areas → ℕ → Pair → Area) (address : ℕ) → area_of (areas_at board 0) 0x20001000 (pair address 0) ≡ in_flash → ¬ SaysWhere area_of
flash_empty_wrong area_of address e s = flash_some area_of s address 0 e refl

pub one_past_wrong : ¬ SaysWhere one_past
unfolding one_past board areas on_table
one_past_wrong = ram_past_wrong one_past 0x20000F00 0x101 refl (λ h. omega (arith, h))

pub straddles_wrong : ¬ SaysWhere straddles
unfolding straddles board areas on_table
straddles_wrong = ram_past_wrong straddles 0x20000FFF 0x100 refl (λ h. omega (arith, h))

pub to_the_end_wrong : ¬ SaysWhere to_the_end
unfolding to_the_end board areas on_table
to_the_end_wrong = ram_past_wrong to_the_end 0x20001000 0x100 refl (λ h. omega (arith, h))

pub flash_first_wrong : ¬ SaysWhere flash_first
unfolding flash_first board areas on_table
flash_first_wrong = flash_empty_wrong flash_first 0x00040000 refl

pub always_ram_wrong : ¬ SaysWhere always_ram
unfolding always_ram board areas on_table
always_ram_wrong = ram_past_wrong always_ram 0x20001000 1 refl (λ h. omega (arith, h))

-- ---- wrong answers to a host that asks: of no word at all, and of the table of the cases, on which process 0 lends a buffer in flash

-- anything but the refusal
pub area_unrefused : (r : Located) → (r ≡ refused 2 → ⊥) → ¬ (r ≡ locate read_only 9 7 9 [])
area_unrefused r other e = other (e ∙ no_table_lem)

-- any other area, address or size, and any refusal
pub area_elsewhere : (r : Located) → (r ≡ lies in_flash (pair 0x00040010 3) → ⊥) → ¬ (r ≡ locate read_only 0 1 0 lent)
area_elsewhere r other e = other (e ∙ flash_told)

-- a question about the image of a good state is answered on that state
on_image : (s : State) → good_state s ≡ true → (kind : Kind) (p driver j : ℕ) → locate kind p driver j (image_of s) ≡ located kind p driver j s
unfolding locate provided◌then◌else◌
on_image s g kind p driver j = rw (image_well_formed s g) (ap (located kind p driver j) (good_back s g))

-- the buffer of slot 0, or any other, told of slot 1, which the driver does not have
pub area_another_slot : (r : Located) → (r ≡ refused 8 → ⊥) → ¬ (r ≡ locate read_only 0 1 1 lent)
unfolding asked lends lent
area_another_slot r other e = other (e ∙ on_image lends.state refl read_only 0 1 1)

-- ---- wrong ways to answer a host: none but the definition's has the promise

-- every question is refused, by one number
pub always_refused_wrong : (n : ℕ) → ¬ TellsWhere (λ kind p driver j t. refused n)
always_refused_wrong n s = area_elsewhere (refused n) (λ e. never (cc)) (one_answer (λ kind p driver j t. refused n) s read_only 0 1 0 lent)

-- whichever slot is asked for, slot 0 is told
pub slot_0_wrong : ¬ TellsWhere (λ kind p driver j t. locate kind p driver 0 t)
slot_0_wrong s = area_another_slot (locate read_only 0 1 0 lent) (λ e. never (lies_refused (sym flash_told ∙ e))) (one_answer (λ kind p driver j t. locate kind p driver 0 t) s read_only 0 1 1 lent)
  where
    lies_refused : lies in_flash (pair 0x00040010 3) ≡ refused 8 → ◌≡◌ {A = ℕ} 0 1
    lies_refused e = cc
