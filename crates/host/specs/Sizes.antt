-- What a host is told of the limits, and of the sizes that follow from them.
use Rattle.std.specs.Prelude.{ℕ, List, [], ◌∷◌}
use Rattle.definition.specs.Limits.{max_processes, max_drivers, max_slots, max_queue, max_board_words, image_bytes, memory_base, flash_base}
use Rattle.definition.specs.Image.{table_words}

-- each by its place: a board's processes and drivers, a driver's slots of a kind, a process's queued upcalls; the words of a table and of the largest
-- board, the bytes of an image, and the addresses of both images
abbrev pub sizes : List ℕ
sizes = max_processes ∷ max_drivers ∷ max_slots ∷ max_queue ∷ table_words ∷ max_board_words ∷ image_bytes ∷ memory_base ∷ flash_base ∷ []
