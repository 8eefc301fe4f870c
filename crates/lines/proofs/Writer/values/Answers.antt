-- Each turn puts a space and the digits of one value.
use mathlib.Core.Path.{refl, sym}
use native.Mathlib.Omega.{arith}
use Rattle.definition.specs.Lines.{spaced}
use Rattle.lines.specs.PutLaws.{put_none}
use Rattle.lines.proofs.LineLaws.{spaced_room, next_spaced}
use Rattle.lines.proofs.WriterLaws.{then, said}
use Rattle.lines.proofs.Writer.values.Goals as goal

pub loop-value-init : goal.loop-value-init
unfolding spaced
loop-value-init g c = record { same = refl; size = refl; put = put_none _ _ }

pub byte-requires : goal.byte-requires
byte-requires g c =
    let x = c.loop-value.invariant in
    omega (arith, spaced_room g.T.Value.number c.args.values.now _ _ (omega arith) c.value-item.is _ refl, c.requires, x.put.place, x.size)

pub word-requires : goal.word-requires
word-requires g c =
    let x = c.loop-value.invariant in
    omega (arith, spaced_room g.T.Value.number c.args.values.now _ _ (omega arith) c.value-item.is _ c.to_word.ensures, c.requires, x.put.place, x.size, c.byte.ensures.size, c.byte.ensures.put.place)

pub loop-value-preserved : goal.loop-value-preserved
loop-value-preserved g c =
    said (sym (next_spaced g.T.Value.number c.args.values.now _ _ (omega arith) c.value-item.is _ c.to_word.ensures)) (then (omega (arith, c.requires)) (then (omega (arith, c.requires)) c.loop-value.invariant c.byte.ensures) c.word.ensures)
