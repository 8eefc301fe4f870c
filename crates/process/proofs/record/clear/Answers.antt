-- A run of zeros is a record with nothing in it, and then its status and break are set.
use Rattle.process.proofs.RecordLaws.{clear_does, status_cast}
use Rattle.process.proofs.record.clear.Goals as goal

pub returns : goal.returns
returns c = clear_does c.args.run.now _ _ _ _ c.requires c.zero.ensures (status_cast c.args.status)
