-- The rows from the slot's first upcall on become what the cancel leaves of them, and so the queue does; where there is none, it is what the cancel leaves.
use mathlib.Core.Path.{sym, ◌∙◌}
use native.Mathlib.Omega.{arith}
use lib.ListN.{length-take, length-drop}
use Rattle.process.specs.FirstMatch.{is_of}
use Rattle.process.proofs.SearchLaws.{some_within, lent_first, found_does, none_does}
use Rattle.process.proofs.queue.cancel.Goals as goal

pub remove-gone-requires : goal.remove-gone-requires
remove-gone-requires c =
    let below = some_within _ c.in-Some.is c.first_match.ensures.within in
    (simp (length-take, length-drop) (omega arith), lent_first (is_of c.args.place c.args.number) c.args.run.now _ _ _ (omega arith) (omega (arith, below)) (sym c.in-Some.is ∙ c.first_match.ensures.first))

pub returns-in-Some : goal.returns-in-Some
returns-in-Some c =
    let below = some_within _ c.in-Some.is c.first_match.ensures.within in
    found_does _ _ _ _ _ _ _
    c.word-n.ensures
    (simp (length-take, length-drop) (omega arith))
    (omega (arith, below))
    (sym c.in-Some.is ∙ c.first_match.ensures.first)
    c.remove-gone.ensures.0
    c.remove-gone.ensures.1

pub returns-in_default : goal.returns-in_default
returns-in_default c = none_does _ _ _ _ c.word-n.ensures (sym c.in_default.is ∙ c.first_match.ensures.first)
