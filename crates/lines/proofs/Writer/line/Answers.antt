-- Three puts, one after the other, are the line.
use native.Mathlib.Omega.{arith}
use Rattle.std.proofs.lemmas.List.{map-id}
use Rattle.lines.specs.LineLengths.{spaced_length, below_all}
use Rattle.lines.proofs.WriterLaws.{line_written}
use Rattle.lines.proofs.Writer.line.Goals as goal

pub values-requires : goal.values-requires
values-requires c =
    let l = c.args.values.now in
    rw (map-id l) (omega (arith, c.requires, c.byte.ensures.size, c.byte.ensures.put.place, spaced_length 9 l (below_all _ l (λ i. omega (arith, c.type_inv.values i)))))

pub byte-requires-2 : goal.byte-requires-2
byte-requires-2 c =
    let l = c.args.values.now in
    let x = rw (map-id l) at c.values.ensures in
    omega (arith, c.requires, c.byte.ensures.size, c.byte.ensures.put.place, x.size, x.put.place, spaced_length 9 l (below_all _ l (λ i. omega (arith, c.type_inv.values i))))

pub returns-clause-writes : goal.returns-clause-writes
returns-clause-writes c = line_written (omega (arith, c.requires)) c.byte.ensures c.args.values.now (rw (map-id c.args.values.now) at c.values.ensures) c.byte-2.ensures
