-- What a writer leaves in the buffer that it holds.
use Rattle.std.specs.Prelude.{ℕ, ◌+◌, ◌≤◌, ◌≡◌, List, length}
use Rattle.std.proofs.Common.{sym, ◌∙◌}
use Rattle.lines.specs.declared.Writer.{Writer}
use Rattle.lines.specs.Puts.{Put}

-- so many bytes have room
abbrev pub HasRoom : ℕ → Writer → Type 0
HasRoom n w = w.at + n ≤ length w.out.now

-- the bytes are put at its place, in the buffer that it held
pub record Writes (l : List ℕ) (w w' : Writer) : Type 0 where
  pub same : w'.out.ghost_name ≡ w.out.ghost_name
  pub size : length w'.out.now ≡ length w.out.now
  pub put : Put l w.at w.out.now w'.out.now w'.at

-- they stand there in one way
pub one_written : (l : List ℕ) (w a b : Writer) → Writes l w a → Writes l w b → (a.out.now ≡ b.out.now) × (a.at ≡ b.at)
one_written l w a b x y = (x.put.left ∙ sym y.put.left, x.put.place ∙ sym y.put.place)
