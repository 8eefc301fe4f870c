-- A number of more than 32 bits has the digits of its tenth, then the last one. The measure is the number.
use Rattle.lines.proofs.Writer.+decimal.Given as goal

abbrev pub decreases-decimal : goal.decreases-decimal
decreases-decimal l = l.n
