-- A reader of records that makes up the length of a deposit's bytes is refuted on the reader's own equation.
use Rattle.std.specs.Prelude.{ℕ, ◌-◌, ◌≡◌, List, [], ◌∷◌, Result, Ok, Err}
use Rattle.std.proofs.Common.{ap}
use Rattle.definition.specs.Tests.{provided◌then◌else◌}
use Rattle.definition.specs.Trace.{and_then, group, groups, number, fields, bytes, kinds, bytes_after, record_of, one_record, read_at}
use Rattle.trace.specs.Meaning.{record_found}
use Rattle.trace.specs.declared.numbers.ReadError.{ReadError}
use Rattle.trace.specs.declared.records.Record.{Record}

-- the equation of `trace::reader::next_at`, and of `trace::records::record_at`
abbrev pub Reads : (List ℕ → ℕ → Result Record ReadError) → Type 0
Reads read = (s : List ℕ) (at : ℕ) → read s at ≡ record_found (read_at one_record s at)

-- how many bytes after its fields a reader tells that a record has
abbrev pub bytes_told : Result Record ReadError → ℕ
bytes_told (Ok r) = r.next - r.from
bytes_told (Err e) = 0

-- a deposit of two bytes
pub deposits : List ℕ
deposits = 3 ∷ 0 ∷ 1 ∷ 0 ∷ 0 ∷ 2 ∷ 10 ∷ 20 ∷ []

-- whatever reader tells that it has another number of bytes
pub reader_wrong : (read : List ℕ → ℕ → Result Record ReadError) → (bytes_told (read deposits 0) ≡ 2 → ⊥) → ¬ Reads read
unfolding deposits provided◌then◌else◌ and_then group groups number fields bytes kinds bytes_after record_of one_record read_at
reader_wrong read other e = other (ap bytes_told (e deposits 0))
