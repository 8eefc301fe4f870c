-- Choosing by a test, as std says it: its lemmas then decide tests of numbers.
use Rattle.std.specs.Prelude.{Bool, true, false, cond}
use mathlib.Core.Path.{◌≡◌, refl}
use Rattle.definition.specs.Tests.{provided◌then◌else◌}

pub chosen : {A : Type 0} (t : Bool) (x y : A) → (provided t then x else y) ≡ cond t x y
unfolding provided◌then◌else◌
chosen true x y = refl
chosen false x y = refl
