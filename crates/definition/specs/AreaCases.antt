-- Where a buffer lies, computed: at every edge of process 0 of the board of the cases, and what a host is told that asks.
use Rattle.std.specs.Prelude.{ℕ, ◌≡◌, refl, List, [], ◌∷◌, map}
use Rattle.definition.specs.Board.{Kind, subscribe, read_write, read_only}
use Rattle.definition.specs.State.{Pair, null}
use Rattle.definition.specs.Call.{pair}
use Rattle.definition.specs.Area.{Area, empty, in_ram, in_flash, outside, area_of}
use Rattle.definition.specs.World.{World, step}
use Rattle.definition.specs.Image.{image_of}
use Rattle.definition.specs.Located.{Located, refused, lies, has_buffer, located, locate, lent_by}
use Rattle.definition.specs.Cases.{areas, begin, by0, on_table}

-- ---- by its numbers: RAM from 0x20000000, the break at 0x20001000, flash from 0x00040000 to 0x00044000

pub record Placed : Type 0 where
  pub buffer : Pair
  pub area : Area

infix 80 ◌is◌
abbrev ◌is◌ : Pair → Area → Placed
x is area = record { buffer = x; area = area }

pub judged : Placed → Area
unfolding areas on_table
judged x = area_of (areas 0 0) 0x20001000 x.buffer

pub given : Placed → Area
given x = x.area

pub placed : List Placed
placed =
    -- empty at any address, in RAM and in flash too
    pair 0 0 is empty
    ∷ pair 0xFFFFFFFF 0 is empty
    ∷ pair 0x20000000 0 is empty
    ∷ pair 0x00040000 0 is empty
    -- RAM, from its first byte up to the break; one byte before, and one past the break
    ∷ pair 0x20000000 0x1000 is in_ram
    ∷ pair 0x20000000 1 is in_ram
    ∷ pair 0x20000FFF 1 is in_ram
    ∷ pair 0x1FFFFFFF 1 is outside
    ∷ pair 0x1FFFFFFF 2 is outside
    ∷ pair 0x20000F00 0x101 is outside
    ∷ pair 0x20001000 1 is outside
    -- above the break, up to the end of RAM; another process's RAM
    ∷ pair 0x20001000 0x1000 is outside
    ∷ pair 0x20002000 1 is outside
    -- flash, all of it; one byte before, and one past its end
    ∷ pair 0x00040000 0x4000 is in_flash
    ∷ pair 0x00043FFF 1 is in_flash
    ∷ pair 0x0003FFFF 1 is outside
    ∷ pair 0x00043FFF 2 is outside
    ∷ pair 0x00044000 1 is outside
    -- a sum that would wrap in 32 bits into RAM, and into flash
    ∷ pair 0xFFFFFF00 0x20000200 is outside
    ∷ pair 0xFFFFFFFF 0x00040002 is outside
    ∷ []

pub areas_judged : map judged placed ≡ map given placed
unfolding placed judged given
areas_judged = refl

-- ---- a host that asks

-- process 0 lends a buffer in RAM and one in flash; then it exits
unfoldable pub lends : World
unfolding begin by0
lends = (step (by0 4 1 0 0x00040010 3) (step (by0 3 1 0 0x20000F00 0x100) begin).after).after

unfoldable pub exits : World
unfolding lends by0
exits = (step (by0 6 0 0 0 0) lends).after

-- the kind, the process, the driver and the slot that are asked for, and what is told
pub record Question : Type 0 where
  pub kind : Kind
  pub process : ℕ
  pub driver : ℕ
  pub slot : ℕ
  pub tells : Located

unfoldable pub asked : World → Question → Located
unfolding has_buffer located on_table
asked w x = located x.kind x.process x.driver x.slot w.state

unfoldable pub told : Question → Located
told x = x.tells

pub questions : List Question
questions =
    record { kind = read_write; process = 0; driver = 1; slot = 0; tells = lies in_ram (pair 0x20000F00 0x100) }
    ∷ record { kind = read_only; process = 0; driver = 1; slot = 0; tells = lies in_flash (pair 0x00040010 3) }
    ∷ record { kind = read_only; process = 1; driver = 1; slot = 0; tells = lies empty null }
    -- 3 before 7 before 8; a driver has no more slots than it says, and a subscribe slot holds no buffer
    ∷ record { kind = read_only; process = 2; driver = 7; slot = 9; tells = refused 3 }
    ∷ record { kind = read_only; process = 1; driver = 7; slot = 9; tells = refused 7 }
    ∷ record { kind = read_only; process = 1; driver = 1; slot = 1; tells = refused 8 }
    ∷ record { kind = subscribe; process = 0; driver = 1; slot = 0; tells = refused 8 }
    ∷ []

pub questions_answered : map (asked lends) questions ≡ map told questions
unfolding questions asked told lends
questions_answered = refl

pub exited_answered : asked exits (record { kind = read_write; process = 0; driver = 1; slot = 0; tells = lies empty null }) ≡ lies empty null
unfolding asked exits
exited_answered = refl

-- on a table, and 2 before all others; and the classes that name a kind
unfoldable pub lent : List ℕ
unfolding lends
lent = image_of lends.state

pub flash_told : locate read_only 0 1 0 lent ≡ lies in_flash (pair 0x00040010 3)
unfolding asked lent locate
flash_told = refl

pub no_table_lem : locate read_only 9 7 9 [] ≡ refused 2
unfolding asked locate
no_table_lem = refl

pub classes : map lent_by (0 ∷ 1 ∷ 2 ∷ 3 ∷ 4 ∷ 5 ∷ []) ≡ subscribe ∷ subscribe ∷ subscribe ∷ read_write ∷ read_only ∷ subscribe ∷ []
unfolding on_table
classes = refl
