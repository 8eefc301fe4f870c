-- What is found on the checked table is found where rows 1 and 2 let the step pass.
use native.Mathlib.Omega.{arith}
use Rattle.definition.specs.Table.{wrong_image}
use Rattle.layer.proofs.PublicLaws.{its_length}
use Rattle.layer.proofs.FetchLaws.{finds_checked}
use Rattle.layer.proofs.steps.fetch.Goals as goal

pub returns : goal.returns
unfolding wrong_image
returns c = finds_checked _ _ _ _ _ c.find.ensures (grind (arith, its_length)) (grind arith) (grind arith) (grind arith)
