-- How many bytes were read: no more than there was room for. And which: those that the reader had next, where they are known.
use Rattle.std.specs.Prelude.{ℕ, ◌≤◌, List, take, IfOk, IfSome, MatchOption, Result}
use Rattle.std.specs.declared.option.Option.{Option}
use Rattle.std.specs.Io.KnownBytes.{Consumes, IsAtEnd}

-- all that the reader had
abbrev pub All : {E : Type 0} → ℕ → Result (Option ℕ) E → Type 0
All room r = IfOk r (λ whole. IfSome whole (λ n. n ≤ room))

-- the first of the bytes are all that the reader had, or all of the bytes are the next that it had
abbrev pub AllRead : {E : Type 0} → Option (List ℕ) → Option (List ℕ) → Result (Option ℕ) E → List ℕ → Type 0
AllRead old new r bytes = IfOk r (λ whole. MatchOption whole (Consumes old new bytes) (λ n. Consumes old new (take n bytes) × IsAtEnd new))
