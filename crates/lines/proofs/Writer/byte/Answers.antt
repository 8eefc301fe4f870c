-- One store.
use mathlib.Core.Path.{refl}
use native.Mathlib.Omega.{arith}
use lib.ListN.{length-set}
use Rattle.lines.proofs.LineLaws.{put_one}
use Rattle.lines.proofs.Writer.byte.Goals as goal

pub returns : goal.returns
returns c = record { same = refl; size = length-set _ _ _; put = put_one _ _ _ (omega arith) }
