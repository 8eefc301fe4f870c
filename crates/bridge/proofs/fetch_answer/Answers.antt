-- The layer's contract is the case of a fetch whose number and place are told together.
use Rattle.bridge.specs.Calls.{found}
use Rattle.bridge.proofs.fetch_answer.Goals as goal

pub returns : goal.returns
returns c = found c.fetch_answer.ensures
