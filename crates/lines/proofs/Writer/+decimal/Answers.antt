-- The tenth of the number has one digit less; its digits are put, and the last one after them.
use mathlib.Core.Path.{sym}
use native.Mathlib.Omega.{arith}
use Rattle.lines.proofs.LineLaws.{decimal_more, decimal_length_more}
use Rattle.lines.proofs.WriterLaws.{then, said}
use Rattle.lines.proofs.Writer.+decimal.Goals as goal

pub decimal-requires : goal.decimal-requires
decimal-requires t c = let n = c.args.n in (omega (arith, c.decreases), omega (arith, c.requires, decimal_length_more n (omega arith) (omega arith)))

pub byte-requires : goal.byte-requires
byte-requires t c = omega (arith, decimal_length_more c.args.n (omega arith) (omega arith), c.decimal.ensures.size, c.decimal.ensures.put.place, c.requires)

pub returns-in-Err : goal.returns-in-Err
returns-in-Err t c = said (sym (decimal_more c.args.n (omega arith) (omega arith))) (then (omega (arith, c.requires)) c.decimal.ensures c.byte.ensures)
