-- The words put at the driver's place are those of its claim with the new latch.
use Rattle.table.specs.Tables.{with_latch}
use Rattle.table.specs.Lift.{claim_turns}
use Rattle.table.proofs.claims.set_latch.Goals as goal

pub returns : goal.returns
returns c = claim_turns c.args.table.now c.args.k c.requires.1 (with_latch c.args.value) _ _ c.claim_at.ensures c.put_claim.ensures
