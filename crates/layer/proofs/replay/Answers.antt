-- From place 0 the whole trace is played; from another the records there, on a table that is checked once.
use mathlib.Core.Path.{ap}
use borrow.Author.Rules.{rules}
use Rattle.layer.proofs.ReplayLaws.{leaves_as}
use Rattle.layer.proofs.BeginLaws.{plays_whole, plays_on}
use Rattle.layer.proofs.replay.Goals as goal

pub returns-then-at-eq0 : goal.returns-then-at-eq0
returns-then-at-eq0 c = plays_whole _ _ _ _ _ _ _ c.if-at-eq0.true c.begin.ensures

pub returns : goal.returns
returns c =
    let same = c.records.ensures.same in
    plays_on _ _ _ _ c.if-at-eq0.false _ _ _ (leaves_as _ _ _ _ (search (rules, ap (λ x. x.0) same)) (search (rules, ap (λ x. x.1) same)) (ap (λ x. x.2) same) c.records.ensures.leaves)
