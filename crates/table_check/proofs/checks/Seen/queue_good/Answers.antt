-- Each queued upcall by its test, at its place in the run.
use Rattle.std.proofs.Common.{rules, ap, ◌+◌, ◌*◌}
use borrow.Author.Tests.{tests}
use native.Mathlib.Omega.{arith}
use lib.ListN.{get_or}
use Rattle.definition.specs.State.{no_upcall}
use Rattle.definition.specs.WellFormed.{good_upcall}
use Rattle.definition.specs.Image.{words_in_upcall, queue_from, read_upcall, read_process, board_at}
use Rattle.laws.specs.Reads.{queue_count, upcall_read}
use Rattle.board.specs.Below.{all_below}
use Rattle.table_check.specs.Parts.{good_queue}
use Rattle.table_check.proofs.checks.Seen.queue_good.Goals as goal

pub returns : goal.returns
unfolding good_queue
returns c =
    let run = c.args.self.now.run.now in
    let good = good_upcall (board_at c.args.self.now.board.words.now c.args.self.now.board.at) (read_process run) in
    let n = queue_count run in
    all_below _ _ _ _ c.all.ensures.ran (cc) (λ i. good (get_or (read_process run).queue i no_upcall)) (λ i. good (read_upcall run (queue_from + i * words_in_upcall))) (λ x b q k. search (rules, tests)) (λ i h. ap good (upcall_read run i (omega arith)))
