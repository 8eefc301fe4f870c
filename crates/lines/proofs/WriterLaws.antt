-- Laws of a writer: one put after another, the same bytes said otherwise, and whole lines.
use Prim.Native.Nat.{ℕ, ◌≤◌}
use mathlib.Core.Path.{◌≡◌, subst, ◌∙◌}
use mathlib.Core.List.{List, [], ◌∷◌, ◌++◌}
use lib.ListN.{length}
use Rattle.definition.specs.Lines.{decimal, spaced, line}
use Rattle.lines.specs.declared.Writer.{Writer}
use Rattle.lines.specs.PutLaws.{put_then}
use Rattle.lines.specs.Writes.{Writes}

pub then : {l l' : List ℕ} {w w' w'' : Writer} → w.at ≤ length w.out.now → Writes l w w' → Writes l' w' w'' → Writes (l ++ l') w w''
then here x y = record { same = y.same ∙ x.same; size = y.size ∙ x.size; put = put_then here x.put y.put }

pub said : {l l' : List ℕ} {w w' : Writer} → l ≡ l' → Writes l w w' → Writes l' w w'
said {w = w} {w' = w'} e x = subst (λ l. Writes l w w') e x

module _ {letter : ℕ} {w a : Writer} (here : w.at ≤ length w.out.now) (first : Writes (letter ∷ []) w a) where
  pub line_written : (l : List ℕ) {b w' : Writer} → Writes (spaced l) a b → Writes (10 ∷ []) b w' → Writes (line letter l) w w'
  unfolding line
  line_written l x y = then here (then here first x) y

  -- the same, with the first value apart
  pub line_of_parts : (v : ℕ) (l : List ℕ) {b c d w' : Writer} → Writes (32 ∷ []) a b → Writes (decimal v) b c → Writes (spaced l) c d → Writes (10 ∷ []) d w' → Writes (line letter (v ∷ l)) w w'
  unfolding line spaced
  line_of_parts v l x y z e = then here (then here (then here (then here first x) y) z) e
