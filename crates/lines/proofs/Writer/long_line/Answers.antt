-- Five puts, one after the other, are the line: its first value has up to 64 bits, the others are bytes.
use native.Mathlib.Omega.{arith}
use Rattle.std.proofs.lemmas.List.{map-id}
use Rattle.lines.specs.LineLengths.{decimal_length, spaced_length, below_all}
use Rattle.lines.proofs.WriterLaws.{line_of_parts}
use Rattle.lines.proofs.Writer.long_line.Goals as goal

pub decimal-requires : goal.decimal-requires
decimal-requires c = omega (arith, decimal_length 19 c.args.first (omega arith), c.byte.ensures.size, c.byte.ensures.put.place, c.byte-2.ensures.size, c.byte-2.ensures.put.place)

pub values-requires : goal.values-requires
values-requires c =
    let l = c.args.bytes.now in
    rw (map-id l) (omega (arith, decimal_length 19 c.args.first (omega arith), spaced_length 2 l (below_all _ l (λ i. omega (arith, c.type_inv.bytes i))), c.byte.ensures.size, c.byte.ensures.put.place, c.byte-2.ensures.size, c.byte-2.ensures.put.place, c.decimal.ensures.size, c.decimal.ensures.put.place))

pub byte-requires-3 : goal.byte-requires-3
byte-requires-3 c =
    let l = c.args.bytes.now in
    let x = rw (map-id l) at c.values.ensures in
    omega (arith, decimal_length 19 c.args.first (omega arith), spaced_length 2 l (below_all _ l (λ i. omega (arith, c.type_inv.bytes i))), c.byte.ensures.size, c.byte.ensures.put.place, c.byte-2.ensures.size, c.byte-2.ensures.put.place, c.decimal.ensures.size, c.decimal.ensures.put.place, x.size, x.put.place)

pub returns-clause-writes : goal.returns-clause-writes
returns-clause-writes c =
    let l = c.args.bytes.now in
    line_of_parts (omega (arith, c.requires)) c.byte.ensures c.args.first l c.byte-2.ensures c.decimal.ensures (rw (map-id l) at c.values.ensures) c.byte-3.ensures
