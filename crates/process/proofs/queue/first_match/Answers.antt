-- The rows are looked at from the first on, and each row's test is the definition's.
use Rattle.std.proofs.Common.{rules, ◌≡◌, ◌*◌, Bool, true, false, ℕ}
use Rattle.std.proofs.lemmas.Iterator.{first_from_Range}
use borrow.Author.Tests.{tests}
use Rattle.definition.specs.Image.{read_upcall, words_in_upcall}
use Rattle.process.specs.FirstMatch.{is_of}
use Rattle.process.proofs.SearchLaws.{searched}
use Rattle.process.proofs.queue.first_match.Goals as goal

pub returns : goal.returns
returns c =
    let passes : ℕ → Bool = λ i. is_of c.args.place c.args.number (read_upcall c.args.rows.now (i * words_in_upcall)) in
    let first = first_from_Range _ _ _ c.find.result (λ i. passes i ≡ true) (λ i. passes i ≡ false) c.find.ensures.ran (λ x q k. search (rules, tests)) (λ x q k. search (rules, tests)) in
    let (found, within) = searched (is_of c.args.place c.args.number) c.args.rows.now c.args.n c.find.result first in
    record { first = found; within = within }
