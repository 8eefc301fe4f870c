-- The board without one of its drivers (request 3): its words and its bit of every mask are taken out, and higher bits move down.
use Rattle.std.specs.Prelude.{ℕ, zero, suc, ◌+◌, ◌*◌, ◌/◌, ◌%◌, List, [], ◌∷◌, map}
use Rattle.definition.specs.Board.{Board, Areas}
use Rattle.definition.specs.Image.{lent_board, board_of}

-- a list without the element at place k
module _ {A : Type 0} where
  unfoldable pub drop_at : ℕ → List A → List A
  drop_at k [] = []
  drop_at zero (x ∷ l) = l
  drop_at (suc k) (x ∷ l) = x ∷ drop_at k l

-- a mask without bit k
unfoldable pub drop_bit : ℕ → ℕ → ℕ
drop_bit zero mask = mask / 2
drop_bit (suc k) mask = mask % 2 + 2 * drop_bit k (mask / 2)

abbrev pub areas_without : ℕ → Areas → Areas
areas_without k a = record {
  ram_start = a.ram_start;
  ram_end = a.ram_end;
  grant_start = a.grant_start;
  first_break = a.first_break;
  flash_start = a.flash_start;
  flash_end = a.flash_end;
  permissions = drop_bit k a.permissions;
}

-- the board without the driver at place k
unfoldable pub board_without : ℕ → Board → Board
board_without k b = record { processes = map (areas_without k) b.processes; drivers = drop_at k b.drivers }

-- its words, as they are lent to start
abbrev pub words_without : ℕ → List ℕ → List ℕ
words_without k words = lent_board (board_without k (board_of words))
