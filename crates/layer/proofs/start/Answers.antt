-- What start answers and leaves has nothing to do with the images.
use Rattle.layer.proofs.PublicLaws.{starts}
use Rattle.layer.proofs.start.Goals as goal

pub returns : goal.returns
returns c = starts _ _ _ _ c.start.ensures.answer c.start.ensures.after
