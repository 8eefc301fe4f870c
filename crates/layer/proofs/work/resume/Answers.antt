-- A refusal changes nothing; a process that waits goes on as in a wait.
use mathlib.Core.Path.{refl}
use Rattle.definition.specs.Decide.{decide_accepted}
use Rattle.layer.proofs.StepLaws.{refused_given, accepted_step}
use Rattle.layer.proofs.work.resume.Goals as goal

pub returns-in_err-resume : goal.returns-in_err-resume
returns-in_err-resume c = refused_given _ _ _ c.requires (λ n. refl) _ _ c.from_residual.ensures.1 c.in_err-resume.ensures.number

pub returns : goal.returns
unfolding decide_accepted
returns c m = accepted_step _ _ _ c.in_ok-resume.ensures.number m _ _ m (c.wait.ensures m)
