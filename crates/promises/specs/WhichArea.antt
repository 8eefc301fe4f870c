-- Where a buffer lies, as plain propositions over numbers: each of the four answers exactly if its condition holds.
use Rattle.std.specs.Prelude.{ℕ, ◌≤◌, ◌<◌, ◌≡◌, ◌↔◌, ◌≢◌, ◌⊎◌, true, false, List, length}
use Rattle.definition.specs.Board.{Board, Areas, Kind, subscribe, read_write, areas_at, driver_at, slots_of, good_board}
use Rattle.definition.specs.State.{Pair, held}
use Rattle.definition.specs.Call.{pair}
use Rattle.definition.specs.Area.{Area, empty, in_ram, in_flash, outside}
use Rattle.definition.specs.World.{process_at}
use Rattle.definition.specs.Image.{state_of, well_formed}
use Rattle.definition.specs.Located.{Located, refused, lies}
use Rattle.promises.specs.Accepted.{Lies}

-- the area that is said of the size bytes from address, by a process's areas and its break
pub record LiesExactly (a : Areas) (break address size : ℕ) (area : Area) : Type 0 where
  pub nothing : (area ≡ empty) ↔ (size ≡ 0)
  pub ram : (area ≡ in_ram) ↔ ((size ≢ 0) × Lies a.ram_start break address size)
  pub flash : (area ≡ in_flash) ↔ ((size ≢ 0) × Lies a.flash_start a.flash_end address size)
  pub elsewhere : (area ≡ outside) ↔ ((size ≢ 0) × ¬ Lies a.ram_start break address size × ¬ Lies a.flash_start a.flash_end address size)
  -- RAM and flash never both hold, so that none of the four goes by the order of the tests
  pub never_both : ¬ (Lies a.ram_start break address size × Lies a.flash_start a.flash_end address size)

-- whoever says it, of a process on a good board, wherever its break is
abbrev pub SaysWhere : (Areas → ℕ → Pair → Area) → Type 0
SaysWhere area_of = (b : Board) → good_board b ≡ true → (p break address size : ℕ) → p < length b.processes
    → LiesExactly (areas_at b p) break address size (area_of (areas_at b p) break (pair address size))

-- slot j of a kind, which is for buffers, of the driver with this number, which stands at place k
pub record IsBuffer (kind : Kind) (b : Board) (driver k j : ℕ) : Type 0 where
  pub installed : k < length b.drivers
  pub number : (driver_at b k).number ≡ driver
  pub slot : j < slots_of kind (driver_at b k)
  pub buffer : kind ≢ subscribe

-- a host is told of the buffer that the slot holds: its area exactly, and that is one that the process may lend memory of
pub record ToldExactly (kind : Kind) (p driver j : ℕ) (t : List ℕ) (area : Area) (x : Pair) : Type 0 where
  pub formed : well_formed t ≡ true
  pub known : p < length (state_of t).board.processes
  pub place : ℕ
  pub named : IsBuffer kind (state_of t).board driver place j
  pub holds : x ≡ held kind (process_at (state_of t) p) place j
  pub exact : LiesExactly (areas_at (state_of t).board p) (process_at (state_of t) p).break x.first x.second area
  pub inside : area ≢ outside
  pub writable : kind ≡ read_write → area ≢ in_flash

-- or refused: the first of these that holds
pub data RefusedFor (kind : Kind) (p driver j : ℕ) (t : List ℕ) (n : ℕ) : Type 0 where
  no_table : n ≡ 2 → well_formed t ≡ false → RefusedFor kind p driver j t n
  no_process : n ≡ 3 → well_formed t ≡ true → length (state_of t).board.processes ≤ p → RefusedFor kind p driver j t n
  no_driver : n ≡ 7 → well_formed t ≡ true → p < length (state_of t).board.processes → ((k : ℕ) → k < length (state_of t).board.drivers → (driver_at (state_of t).board k).number ≢ driver)
      → RefusedFor kind p driver j t n
  no_buffer : n ≡ 8 → well_formed t ≡ true → p < length (state_of t).board.processes → (k : ℕ) → k < length (state_of t).board.drivers → (driver_at (state_of t).board k).number ≡ driver
      → (kind ≡ subscribe) ⊎ (slots_of kind (driver_at (state_of t).board k) ≤ j) → RefusedFor kind p driver j t n

-- whoever answers a host, whatever it asks of whatever table: each answer exactly if it is so
pub record TellsWhere (locate : Kind → (p driver j : ℕ) → List ℕ → Located) : Type 0 where
  pub tells : (kind : Kind) (p driver j : ℕ) (t : List ℕ) (area : Area) (x : Pair) → (locate kind p driver j t ≡ lies area x) ↔ ToldExactly kind p driver j t area x
  pub refuses : (kind : Kind) (p driver j : ℕ) (t : List ℕ) (n : ℕ) → (locate kind p driver j t ≡ refused n) ↔ RefusedFor kind p driver j t n
