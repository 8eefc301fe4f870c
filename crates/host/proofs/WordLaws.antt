-- Laws of the words of an answer: what a host is told by them.
use Prim.Native.Nat.{ℕ, ◌≤◌, ◌<◌}
use mathlib.Core.Path.{◌≡◌, sym, ap, ap₂, ◌∙◌}
use mathlib.Core.Bool.{true, false}
use mathlib.Core.List.{List, [], ◌∷◌, ◌++◌}
use lib.ListN.{length, drop}
use borrow.Author.Tests.{le-leb, lt-leb}
use Rattle.std.specs.Prelude.{Result}
use Rattle.definition.specs.Tests.{provided◌then◌else◌}
use Rattle.definition.specs.Answer.{Answer, changes_nothing}
use Rattle.definition.specs.Decide.{fetch}
use Rattle.definition.specs.World.{Step, own, Out}
use Rattle.definition.specs.Table.{Lent, table_step}
use Rattle.laws.specs.Unchanged.{unchanged}
use Rattle.types.specs.declared.Refusal.{Refusal}
use Rattle.types.specs.Meaning.{refusal_of}
use Rattle.layer.specs.declared.Place.{Place}
use Rattle.layer.specs.Steps.{lent}
use Rattle.layer.specs.Fetching.{image_of, handed, Finds}
use Rattle.layer.specs.StatementLaws.{part_size}
use Rattle.host.specs.Answers.{image_word, answer_words, place_words, told, tell, answered}

-- ---- what a host is told

module _ (step : Lent → Out Lent) (x : Lent) (out : List ℕ) where
  -- out has no room
  pub told_nothing : length out < 6 → tell step x out ≡ told false x out
  unfolding tell provided◌then◌else◌
  told_nothing h = rw (lt-leb 6 (length out) h)

  -- it has
  pub told_answer : (x' : Lent) {words : List ℕ} → 6 ≤ length out → x' ≡ (step x).after → words ≡ answer_words (step x).answer → tell step x out ≡ told true x' (words ++ drop 6 out)
  unfolding tell provided◌then◌else◌
  told_answer x' h e w = rw (le-leb 6 (length out) h) (ap₂ (λ (y : Lent) (l : List ℕ). told true y (l ++ drop 6 out)) (sym e) (sym w))

-- ---- of a fetch

found_words : (r : Answer) (m f : List ℕ) (x : Result Place Refusal) → Finds r m f x → place_words (refusal_of x) (handed x) ≡ answer_words r
found_words r m f x h = ap (λ (k : ℕ). 11 ∷ refusal_of x ∷ image_word (image_of (handed x).image) ∷ (handed x).place ∷ k ∷ 0 ∷ []) (part_size (handed x) m f h.inside) ∙ sym (ap answer_words h.answer)

module _ (p driver j offset n : ℕ) (t m f out : List ℕ) where
  abbrev asked : Step
  asked = own p (fetch driver j offset n)

  abbrev given : Answer
  given = (table_step asked (lent t m f)).answer

  -- a fetch leaves all as it was, and its answer is what was found
  pub told_fetched : (r : Result Place Refusal) {words : List ℕ} → 6 ≤ length out → Finds given m f r → words ≡ place_words (refusal_of r) (handed r) → tell (table_step asked) (lent t m f) out ≡ told true (lent t m f) (words ++ drop 6 out)
  told_fetched r h finds w =
      told_answer (table_step asked) (lent t m f) out (lent t m f) h (sym (unchanged.tables asked (lent t m f) (ap changes_nothing finds.answer))) (w ∙ found_words given m f r finds)

-- ---- of a held buffer

module _ (words out : List ℕ) where
  pub asked_nothing : length out < 6 → answered words out ≡ (false, out)
  unfolding answered provided◌then◌else◌
  asked_nothing h = rw (lt-leb 6 (length out) h)

  pub asked_answer : {words' : List ℕ} → 6 ≤ length out → words' ≡ words → answered words out ≡ (true, words' ++ drop 6 out)
  unfolding answered provided◌then◌else◌
  asked_answer h e = rw (le-leb 6 (length out) h) (ap (λ (l : List ℕ). (true, l ++ drop 6 out)) (sym e))
