-- What a host is told of a run over a trace: a kind, the place to go on from and how many bytes were written, at the front of a slice that it lends.
use Rattle.std.specs.Prelude.{ℕ, ◌≡◌, Bool, true, false, List, [], ◌∷◌, ◌++◌, length, drop, leb}
use Rattle.definition.specs.Tests.{provided◌then◌else◌}
use Rattle.definition.specs.Table.{Lent}
use Rattle.layer.specs.declared.Progress.{Progress}
use Rattle.layer.specs.declared.Progress.TheVariants.{Ended, Paused}
use Rattle.layer.specs.Replaying.{Plays}

abbrev pub progress_words : Progress → List ℕ
progress_words (Ended n) = 0 ∷ 0 ∷ n ∷ []
progress_words (Paused at n) = 1 ∷ at ∷ n ∷ []

-- the run is made, and how far it came is told
abbrev pub RunTold : List ℕ → Lent → (at : ℕ) → (lines out : List ℕ) → Bool → Lent → (linesAfter outAfter : List ℕ) → Type 0
RunTold s x at lines out r y lines' out' = (r ≡ true) × ((p : Progress) × (Plays s x at lines p y lines' × (out' ≡ progress_words p ++ drop 3 out)))

-- where out has fewer than three words, nothing is done
abbrev pub NotRun : Lent → (lines out : List ℕ) → Bool → Lent → (linesAfter outAfter : List ℕ) → Type 0
NotRun x lines out r y lines' out' = (r ≡ false) × (y ≡ x) × (lines' ≡ lines) × (out' ≡ out)

unfoldable pub Runs : List ℕ → Lent → (at : ℕ) → (lines out : List ℕ) → Bool → Lent → (linesAfter outAfter : List ℕ) → Type 0
Runs s x at lines out r y lines' out' = provided leb 3 (length out) then RunTold s x at lines out r y lines' out' else NotRun x lines out r y lines' out'
