-- The break is the word that the process reads as its break.
use Rattle.process.proofs.RecordLaws.{break_gives}
use Rattle.process.proofs.record.brk.Goals as goal

pub returns : goal.returns
returns c = break_gives c.args.run.now
