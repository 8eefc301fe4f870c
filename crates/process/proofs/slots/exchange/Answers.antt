-- The pair's two words go over those of the slot; what stood there was read before.
use Rattle.types.specs.Meaning.{pair_of}
use Rattle.process.specs.RunLaws.{gives}
use Rattle.process.proofs.SlotLaws.{slot_does}
use Rattle.process.proofs.slots.exchange.Goals as goal

pub returns : goal.returns
returns c = (slot_does c.args.slot (pair_of c.args.pair) _ _ c.requires.1 c.put.ensures, gives _ _ _ c.held-old.ensures)
