-- The first driver with the number, or none.
use Rattle.std.proofs.Common.{rules, ◌≡◌, ◌+◌, ◌*◌, ℕ, get_or}
use Rattle.std.proofs.lemmas.Iterator.{first_from_Range}
use borrow.Author.Tests.{tests}
use Rattle.definition.specs.Limits.{driver_words}
use Rattle.board.proofs.BoardLaws.{place_so}
use Rattle.board.proofs.Board.place_of.Goals as goal

pub returns-clause-place : goal.returns-clause-place
returns-clause-place c =
    let t = c.args.self.words.now in
    let at = c.args.self.at in
    let here : ℕ → Type 0 = λ k. get_or t (at + 1 + k * driver_words) 0 ≡ c.args.driver.0 in
    let first = first_from_Range _ _ _ c.find.result here (λ k. here k → ⊥) c.find.ensures.ran (λ x q k. search (rules, tests)) (λ x q k. search (rules, tests)) in
    place_so t at c.args.driver.0 _ c.find.result c.drivers.ensures first
