-- The first row of the queue reads as its first upcall.
use mathlib.Core.Path.{ap, ◌∙◌}
use native.Mathlib.Omega.{arith}
use Rattle.definition.specs.Image.{read_upcall, queue_from}
use Rattle.laws.specs.Codec.{queued_back}
use Rattle.process.proofs.queue.first.Goals as goal

pub returns : goal.returns
returns c = λ p z w. c.upcall_at.ensures ∙ ap (λ run. read_upcall run queue_from) w ∙ queued_back p 0 (omega arith)
