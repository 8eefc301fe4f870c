-- Each process by the definition's test.
use Rattle.std.proofs.Common.{rules, sym, ap₂, ◌∙◌, ◌+◌, ◌*◌, ◌&&◌, Bool, ℕ}
use borrow.Author.Tests.{tests}
use Rattle.definition.specs.Tests.{every_below}
use Rattle.definition.specs.Limits.{areas_words}
use Rattle.definition.specs.Board.{good_areas}
use Rattle.definition.specs.Image.{areas_from, read_areas, board_at}
use Rattle.laws.specs.Reads.{areas_read, drivers_read}
use Rattle.board.specs.Below.{all_below}
use Rattle.board.specs.Boards.{apart_from, good_process_at}
use Rattle.board.proofs.Board.processes_good.Goals as goal

pub returns : goal.returns
unfolding good_process_at
returns c =
    let t = c.args.self.words.now in
    let at = c.args.self.at in
    let h : ℕ → Bool = λ p. good_areas c.drivers-drivers.result (read_areas t (areas_from + p * areas_words)) && every_below p (apart_from (board_at t at) p) in
    all_below _ _ _ _ c.all.ensures.ran (cc) (good_process_at (board_at t at)) h (λ x b q k. search (rules, tests))
    (λ p l. ap₂ (λ n a. good_areas n a && every_below p (apart_from (board_at t at) p)) (c.drivers-drivers.ensures ∙ sym (drivers_read t at)) (sym (areas_read t at p l)))
