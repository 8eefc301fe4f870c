-- The word of a signed register.
use mathlib.Core.Path.{◌≡◌, ap}
use lib.IntN.{ℤ}
use mir.Syntax.{w32}
use mir.Val.{SFits, of_z, to_z}
use mir.ValLaws.{to_z-of_z}
use Rattle.definition.specs.Signed.{word_of}

-- a number that fits is passed on in it as it is
pub register_word : (x : ℤ) → SFits w32 x → word_of (to_z w32 (of_z w32 x)) ≡ word_of x
register_word x f = ap word_of (to_z-of_z w32 x f)
