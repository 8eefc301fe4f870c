-- A refusal changes nothing, and so does a register set that is set aside; a known call is made.
use mathlib.Core.Path.{refl}
use Rattle.layer.proofs.StepLaws.{refused_given}
use Rattle.layer.proofs.KnownLaws.{aside_step, known_step}
use Rattle.layer.proofs.work.call.Goals as goal

pub returns-in_err-call : goal.returns-in_err-call
returns-in_err-call c = refused_given _ _ _ c.requires.0 (λ n. refl) _ _ c.from_residual.ensures.1 (c.in_err-call.ensures.number _ _ _ _ _) c.args.memory.now

pub returns-in_default : goal.returns-in_default
returns-in_default c = aside_step _ _ _ _ _ _ _ (c.in_ok-call.ensures.number _ _ _ _ _) _ c.decode.ensures c.requires.0 c.in_default.is _ c.set_aside.ensures c.args.memory.now

pub returns : goal.returns
returns c = known_step _ _ _ _ _ _ _ (c.in_ok-call.ensures.number _ _ _ _ _) _ c.decode.ensures _ c.in-Some.is c.args.memory.now _ _ _ c.known.ensures
