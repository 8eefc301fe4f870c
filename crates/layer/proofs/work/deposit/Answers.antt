-- Each return is a step of the definition; what is accepted is written to the memory image, since the held buffer lies in RAM below the break.
use mathlib.Core.Path.{refl, sym}
use native.Mathlib.Omega.{arith}
use borrow.Author.Tests.{eqb-true}
use Rattle.layer.proofs.StepLaws.{refused_given}
use Rattle.layer.proofs.DepositLaws.{deposit_refuses, deposit_none, deposit_inside, deposit_made}
use Rattle.layer.proofs.work.deposit.Goals as goal

pub returns-in_err-pair : goal.returns-in_err-pair
returns-in_err-pair c =
    refused_given _ _ _ c.requires.0 (λ n. refl) _ _ c.from_residual.ensures.1 (deposit_refuses _ c.requires.0 _ _ _ _ c.args.bytes.now _ c.in_err-pair.ensures.number) c.args.memory.now

pub returns-then-is_empty : goal.returns-then-is_empty
returns-then-is_empty c = deposit_none _ c.requires.0 _ _ _ _ c.args.bytes.now c.in_ok-pair.ensures.number (eqb-true _ _ (sym c.if-is_empty.ensures)) _

pub overflow_sub-from : goal.overflow_sub-from
overflow_sub-from c = let found = c.in_ok-pair.ensures in (deposit_inside _ c.requires.0 _ _ _ _ c.args.bytes.now found.number _ found.pair c.if-is_empty.ensures).0

pub slice_bounds-copy-end : goal.slice_bounds-copy-end
slice_bounds-copy-end c =
    let found = c.in_ok-pair.ensures in
    let (low, high) = deposit_inside _ c.requires.0 _ _ _ _ c.args.bytes.now found.number _ found.pair c.if-is_empty.ensures in
    omega (arith, c.requires.1)

pub returns : goal.returns
returns c =
    let found = c.in_ok-pair.ensures in
    deposit_made _ c.requires.0 _ _ _ _ c.args.bytes.now found.number _ found.pair c.if-is_empty.ensures _ _ c.requires.1 c.copy.ensures
