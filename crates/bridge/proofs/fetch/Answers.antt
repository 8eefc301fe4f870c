-- The number and the slice are those of the same fetch.
use Rattle.bridge.specs.Calls.{handed}
use Rattle.bridge.proofs.fetch.Goals as goal

pub returns : goal.returns
returns c = record { part = _; call = handed c.fetch_number.ensures c.fetch.ensures; itself = c.fetch.ensures }
