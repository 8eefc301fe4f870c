-- What a call of replay did is what it is among several.
use Prim.Native.Nat.{ℕ}
use mathlib.Core.List.{List}
use Rattle.definition.specs.Table.{Lent}
use Rattle.layer.specs.declared.Progress.{Progress}
use Rattle.layer.specs.declared.Progress.TheVariants.{Ended, Paused}
use Rattle.layer.specs.Replaying.{Plays}
use Rattle.bridge.specs.Replays.{ended, went, Joins}

pub joins : (s : List ℕ) (x : Lent) (at : ℕ) (old : List ℕ) (r : Progress) (y : Lent) (new : List ℕ) → Plays s x at old r y new → Joins s x at r y new
unfolding Joins
joins s x at old (Ended n) y new plays = ended x at old n y new plays
joins s x at old (Paused i n) y new plays = λ z rest further. went x at old i n y new plays further
