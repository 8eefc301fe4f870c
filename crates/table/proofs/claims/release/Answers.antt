-- The words put at the driver's place are those of its claim with no owner.
use Rattle.definition.specs.World.{with_owner}
use Rattle.table.specs.Lift.{claim_turns}
use Rattle.table.proofs.claims.release.Goals as goal

pub returns : goal.returns
returns c = claim_turns c.args.table.now c.args.k c.requires.1 (with_owner 0) _ _ c.claim_at.ensures c.put_claim.ensures
