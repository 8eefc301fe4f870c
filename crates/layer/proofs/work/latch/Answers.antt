-- A refusal changes nothing; else the driver's claim has the peak's word for its latch.
use mathlib.Core.Path.{refl, ◌∙◌}
use Rattle.layer.proofs.WordLaws.{register_word}
use Rattle.layer.proofs.LatchLaws.{latch_refused, latch_stored}
use Rattle.layer.proofs.work.latch.Goals as goal

pub returns-in_err-place : goal.returns-in_err-place
returns-in_err-place c = latch_refused _ c.requires _ _ _ _ c.from_residual.ensures.1 c.in_err-place.ensures.number

pub returns : goal.returns
returns c =
    let found = c.in_ok-place.ensures in
    latch_stored _ c.requires _ _ found.number _ (found.place _ refl) _ _ (c.to_word.ensures ∙ register_word _ c.ranges.peak) c.set_latch.ensures
