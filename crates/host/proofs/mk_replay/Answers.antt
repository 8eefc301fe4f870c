-- Where out has room the run is the layer's, and how far it came is told.
use Rattle.host.proofs.RunLaws.{runs_told}
use Rattle.host.proofs.mk_replay.Goals as goal

pub returns : goal.returns
returns c = runs_told _ _ _ _ _ c.in-Some.ensures.cases.enough _ _ _ c.replay-played.ensures c.words_of.ensures
