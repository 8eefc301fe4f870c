-- What a host asks of a lent table: where a held buffer lies. It is no step: the table is only read.
use Rattle.std.specs.Prelude.{ℕ, Bool, false, not, List, [], ◌∷◌, length, ltb, eqb}
use Rattle.definition.specs.Tests.{provided◌then◌else◌, Row, ◌when◌, first_of}
use Rattle.definition.specs.Board.{Board, Kind, subscribe, read_write, read_only, areas_at, place_of, installed, has_slot}
use Rattle.definition.specs.State.{Pair, held, State}
use Rattle.definition.specs.Call.{class_of}
use Rattle.definition.specs.Area.{Area, area_of}
use Rattle.definition.specs.World.{process_at}
use Rattle.definition.specs.Image.{state_of, well_formed}

-- the area of the buffer, with its address and size; or the number that the question is refused with
pub data Located : Type 0 where
  refused : (number : ℕ) → Located
  lies : Area → Pair → Located

-- slot j of a kind of the driver at place k is there, and is for a buffer: a subscribe slot holds an upcall
unfoldable pub has_buffer : Kind → Board → ℕ → ℕ → Bool
has_buffer subscribe b k j = false
has_buffer read_write b k j = has_slot read_write b k j
has_buffer read_only b k j = has_slot read_only b k j

-- rows 3, 7 and 8 of the table of refusals, of a question for that slot of process p
abbrev pub question_rows : Kind → Board → (p k j : ℕ) → List Row
question_rows kind b p k j = 3 when not (ltb p (length b.processes)) ∷ 7 when not (installed b k) ∷ 8 when not (has_buffer kind b k j) ∷ []

-- an exited process, which holds nothing, can be asked about
unfoldable pub located : Kind → (process driver slot : ℕ) → State → Located
located kind p driver j s =
    let k = place_of s.board.drivers driver in
    let x = held kind (process_at s p) k j in
    let n = first_of (question_rows kind s.board p k j) in
    provided eqb n 0 then lies (area_of (areas_at s.board p) (process_at s p).break x) x else refused n

-- row 2 stands before them
unfoldable pub locate : Kind → (process driver slot : ℕ) → (table : List ℕ) → Located
locate kind p driver j t = provided well_formed t then located kind p driver j (state_of t) else refused 2

-- the slots that a class's calls fill, as far as they are for buffers: the class is that of the allow that lends one
abbrev pub lent_by : ℕ → Kind
lent_by class = provided eqb class (class_of read_write) then read_write else provided eqb class (class_of read_only) then read_only else subscribe
