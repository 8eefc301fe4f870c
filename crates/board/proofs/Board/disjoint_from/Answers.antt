-- Each process before this one stands apart from it.
use Rattle.std.proofs.Common.{rules, sym, ap₂, ◌∙◌, ◌+◌, ◌*◌, ◌&&◌, Bool, ℕ}
use borrow.Author.Tests.{tests}
use native.Mathlib.Omega.{arith}
use Rattle.definition.specs.Limits.{areas_words}
use Rattle.definition.specs.Board.{ram_disjoint, flash_disjoint}
use Rattle.definition.specs.Image.{areas_from, read_areas, board_at}
use Rattle.laws.specs.Reads.{areas_read}
use Rattle.board.specs.Meaning.{areas_of}
use Rattle.board.specs.Below.{all_below}
use Rattle.board.specs.Boards.{apart_from}
use Rattle.board.proofs.Board.disjoint_from.Goals as goal

pub returns : goal.returns
unfolding apart_from
returns c =
    let t = c.args.self.words.now in
    let at = c.args.self.at in
    let j = c.args.process.0 in
    let b = areas_of c.areas-b.result in
    let h : ℕ → Bool = λ i. ram_disjoint (read_areas t (areas_from + i * areas_words)) b && flash_disjoint (read_areas t (areas_from + i * areas_words)) b in
    all_below _ _ _ _ c.all.ensures.ran (cc) (apart_from (board_at t at) j) h (λ x b q k. search (rules, tests))
    (λ i l. ap₂ (λ a b. ram_disjoint a b && flash_disjoint a b) (sym (areas_read t at i (omega arith))) (c.areas-b.ensures ∙ sym (areas_read t at j (omega arith))))
