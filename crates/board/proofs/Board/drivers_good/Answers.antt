-- Each driver by the definition's test.
use Rattle.std.proofs.Common.{rules, sym, ap, ◌+◌, ◌*◌, ◌&&◌, Bool, ℕ}
use borrow.Author.Tests.{tests}
use Rattle.definition.specs.Tests.{every_below}
use Rattle.definition.specs.Limits.{driver_words}
use Rattle.definition.specs.Board.{good_driver}
use Rattle.definition.specs.Image.{read_driver, board_at}
use Rattle.laws.specs.Reads.{driver_read}
use Rattle.board.specs.Below.{all_below}
use Rattle.board.specs.Boards.{differs_from, good_driver_at}
use Rattle.board.proofs.Board.drivers_good.Goals as goal

pub returns : goal.returns
unfolding good_driver_at
returns c =
    let t = c.args.self.words.now in
    let at = c.args.self.at in
    let h : ℕ → Bool = λ k. good_driver (read_driver t (at + 1 + k * driver_words)) && every_below k (differs_from (board_at t at) k) in
    all_below _ _ _ _ c.all.ensures.ran (cc) (good_driver_at (board_at t at)) h (λ x b q k. search (rules, tests))
    (λ i l. ap (λ d. good_driver d && every_below i (differs_from (board_at t at) i)) (sym (driver_read t at i l)))
