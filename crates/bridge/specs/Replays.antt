-- A run over a trace in several calls of the layer's `replay`: what their contracts say of them, and no more.
use Rattle.std.specs.Prelude.{ℕ, List, ◌++◌, take}
use Rattle.definition.specs.Table.{Lent}
use Rattle.layer.specs.declared.Progress.{Progress}
use Rattle.layer.specs.declared.Progress.TheVariants.{Ended, Paused}
use Rattle.layer.specs.Replaying.{Plays}

-- calls one after the other, each from the place at which the last one paused and on what it left, with buffers of any length: what they wrote, in order
pub data Replayed (s : List ℕ) : Lent → ℕ → Lent → List ℕ → Type 0 where
  ended : (x : Lent) (at : ℕ) (old : List ℕ) (n : ℕ) (y : Lent) (new : List ℕ) → Plays s x at old (Ended n) y new → Replayed s x at y (take n new)
  went : (x : Lent) (at : ℕ) (old : List ℕ) (i n : ℕ) (y : Lent) (new : List ℕ) {z : Lent} {rest : List ℕ} → Plays s x at old (Paused i n) y new → Replayed s y i z rest
      → Replayed s x at z (take n new ++ rest)

-- what one call is among them: where it ended, the last; where it paused, one before any that go on from there
unfoldable pub Joins : List ℕ → Lent → (at : ℕ) → Progress → Lent → (new : List ℕ) → Type 0
Joins s x at (Ended n) y new = Replayed s x at y (take n new)
Joins s x at (Paused i n) y new = (z : Lent) (rest : List ℕ) → Replayed s y i z rest → Replayed s x at z (take n new ++ rest)
