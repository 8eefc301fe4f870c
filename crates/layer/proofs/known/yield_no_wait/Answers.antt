-- What was read before the delivery says whether and where the byte is written; the rest is the delivery's.
use native.Mathlib.Omega.{arith}
use Rattle.layer.proofs.ReadLaws.{areas_here}
use Rattle.layer.proofs.YieldLaws.{in_memory, yield_outside, yield_tells}
use Rattle.layer.proofs.known.yield_no_wait.Goals as goal

pub returns-then-not-contains : goal.returns-then-not-contains
returns-then-not-contains c = yield_outside _ c.requires.0 _ c.requires.2 _ (areas_here c.board_of.ensures.words c.areas-areas.ensures c.requires.2) _ c.brk-brk.ensures _ _ _ c.deliver-answer.ensures.0 c.deliver-answer.ensures.1 _ (λ low high. grind arith)

pub overflow_sub-memory : goal.overflow_sub-memory
overflow_sub-memory c = (in_memory _ c.requires.0 _ c.requires.2 _ (areas_here c.board_of.ensures.words c.areas-areas.ensures c.requires.2) _ c.brk-brk.ensures _ (grind arith) (grind arith)).0

pub bounds-memory-address : goal.bounds-memory-address
bounds-memory-address c =
    let (low, high) = in_memory _ c.requires.0 _ c.requires.2 _ (areas_here c.board_of.ensures.words c.areas-areas.ensures c.requires.2) _ c.brk-brk.ensures c.args.address (grind arith) (grind arith) in
    omega (arith, c.requires.1)

pub returns : goal.returns
returns c = yield_tells _ c.requires.0 _ c.requires.2 _ (areas_here c.board_of.ensures.words c.areas-areas.ensures c.requires.2) _ c.brk-brk.ensures _ _ _ c.deliver-answer.ensures.0 c.deliver-answer.ensures.1 _ (grind arith) (grind arith) _ c.queued-queued.ensures _ c.from.ensures
