-- The invariant: the first p processes are running and cleared.
use mathlib.Core.Path.{◌≡◌}
use Rattle.definition.specs.Image.{board_of, image_of}
use Rattle.table.specs.Starts.{running_first}
use Rattle.table.proofs.starts.put_breaks.Given as goal

abbrev pub invariant-loop-p : goal.invariant-loop-p
invariant-loop-p l = l.table ≡ image_of (running_first l.p (board_of l.board.words.now))
