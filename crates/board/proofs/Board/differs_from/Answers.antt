-- Each driver before this one has another number.
use Rattle.std.proofs.Common.{rules, sym, ap, ap₂, ◌∙◌, ◌+◌, ◌*◌, Bool, not, ℕ}
use borrow.Author.Tests.{tests}
use native.Mathlib.Omega.{arith}
use lib.Dec.{eqb}
use lib.ListN.{get_or}
use Rattle.definition.specs.Limits.{driver_words}
use Rattle.definition.specs.Board.{Driver}
use Rattle.definition.specs.Image.{board_at}
use Rattle.laws.specs.Reads.{driver_read}
use Rattle.board.specs.Below.{all_below}
use Rattle.board.specs.Boards.{differs_from}
use Rattle.board.proofs.Board.differs_from.Goals as goal

pub returns : goal.returns
unfolding differs_from
returns c =
    let t = c.args.self.words.now in
    let at = c.args.self.at in
    let number = c.driver-number.result.number in
    let h : ℕ → Bool = λ i. not (eqb (get_or t (at + 1 + i * driver_words) 0) number) in
    let number_of = λ (d : Driver). d.number in
    let here = driver_read t at c.args.k (omega arith) in
    all_below _ _ _ _ c.all.ensures.ran (cc) (differs_from (board_at t at) c.args.k) h (λ x b q k. search (rules, tests))
    (λ i l. ap₂ (λ n m. not (eqb n m)) (sym (ap number_of (driver_read t at i (omega arith)))) (ap number_of (c.driver-number.ensures ∙ sym here)))
