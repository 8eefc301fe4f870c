-- What is done to the run, and told of it, is what the outcome leads to.
use mathlib.Core.Path.{refl}
use Rattle.definition.specs.Decide.{awaits}
use Rattle.definition.specs.World.{answer_of, process_after, claims_after, write_of}
use Rattle.table.specs.TableLaws.{turned, told}
use Rattle.layer.proofs.StepLaws.{performed_alone}
use Rattle.layer.proofs.known.wait.Goals as goal

pub returns : goal.returns
unfolding answer_of process_after claims_after write_of
returns c =
    let x = c.requires.0 in
    performed_alone _ (λ w. awaits) awaits _ (λ m f. refl) refl _ _ (told _ x _ _ c.wait.ensures.1) (turned _ x _ _ c.wait.ensures.0)
