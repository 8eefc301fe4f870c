-- A byte read goes on to what the whole is, by the contract of `group_of`; where no byte or no group is left, nothing is.
use mathlib.Core.Path.{refl, sym, ap, ◌∙◌}
use Prim.Native.Nat.{◌+◌, ◌-◌}
use native.Mathlib.Omega.{arith}
use Rattle.std.proofs.Common.{Some}
use Rattle.std.proofs.lemmas.Option.{MatchOption-at_none, MatchOption-at_some}
use Rattle.definition.specs.Trace.{number, read_at}
use Rattle.trace.specs.Meaning.{group_of, number_found}
use Rattle.trace.proofs.NumberLaws as N
use Rattle.trace.proofs.numbers.groups_at.Goals as goal

pub loop-read-init : goal.loop-read-init
unfolding number
loop-read-init c = (omega arith, refl)

pub returns-in_err-byte : goal.returns-in_err-byte
returns-in_err-byte c =
    let none = c.in_err-byte.ensures.ok_part in
    let out = MatchOption-at_none _ _ none c.get.ensures.lookup.3 in
    N.passed_none _ _ _ c.from_residual.ensures.1 c.in_err-byte.ensures.value ∙ ap number_found (sym (N.turn_cut _ _ _ _ _ _ (omega arith) out) ∙ c.loop-read.invariant.1)

pub returns-in_err-v : goal.returns-in_err-v
unfolding read_at group_of
returns-in_err-v c =
    let byte = MatchOption-at_some _ _ _ c.in_ok-byte.ensures.ok_part c.get.ensures.lookup.3 in
    let none = c.in_err-v.ensures.ok_part in
    N.passed_none _ _ _ c.from_residual-in_err-v.ensures.1 c.in_err-v.ensures.value
    ∙ ap number_found (N.turn _ (4 - c.loop-read._read) _ _ _ _ _ _ (omega arith) byte none c.group_of.ensures.0 c.loop-read.invariant.1)

pub returns-in-Last : goal.returns-in-Last
unfolding read_at group_of
returns-in-Last c =
    let byte = MatchOption-at_some _ _ _ c.in_ok-byte.ensures.ok_part c.get.ensures.lookup.3 in
    let is = c.in_ok-v.ensures.ok_part ∙ ap Some c.in-Last.is in
    ap number_found (N.turn _ (4 - c.loop-read._read) _ _ _ _ _ _ (omega arith) byte is c.group_of.ensures.0 c.loop-read.invariant.1)

pub loop-read-preserved : goal.loop-read-preserved
unfolding group_of
loop-read-preserved c =
    let byte = MatchOption-at_some _ _ _ c.in_ok-byte.ensures.ok_part c.get.ensures.lookup.3 in
    let is = c.in_ok-v.ensures.ok_part ∙ ap Some c.in-More.is in
    let room = N.room c.args.most is c.group_of.ensures.1 in
    (omega arith, N.turn _ (5 - (c.loop-read._read + 1)) _ _ _ _ _ _ (omega arith) byte is c.group_of.ensures.0 c.loop-read.invariant.1)

pub returns : goal.returns
returns c = ap number_found (sym (N.turn_none _ _ _ _ _ _ (omega arith)) ∙ c.loop-read.invariant.1)
