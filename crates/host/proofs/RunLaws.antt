-- Laws of what a host is told of a run over a trace.
use Prim.Native.Nat.{ℕ, ◌≤◌, ◌<◌}
use mathlib.Core.Path.{◌≡◌, refl, ap}
use mathlib.Core.Bool.{true, false}
use mathlib.Core.List.{List, ◌++◌}
use lib.ListN.{length, drop}
use borrow.Author.Tests.{le-leb, lt-leb}
use Rattle.definition.specs.Tests.{provided◌then◌else◌}
use Rattle.definition.specs.Table.{Lent}
use Rattle.layer.specs.declared.Progress.{Progress}
use Rattle.layer.specs.Replaying.{Plays}
use Rattle.host.specs.Runs.{progress_words, Runs}

module _ (s : List ℕ) (x : Lent) (at : ℕ) (lines out : List ℕ) where
  pub runs_nothing : length out < 3 → Runs s x at lines out false x lines out
  unfolding Runs provided◌then◌else◌
  runs_nothing h = rw (lt-leb 3 (length out) h) (refl, refl, refl, refl)

  pub runs_told : 3 ≤ length out → (p : Progress) (y : Lent) (lines' : List ℕ) {words : List ℕ} → Plays s x at lines p y lines' → words ≡ progress_words p → Runs s x at lines out true y lines' (words ++ drop 3 out)
  unfolding Runs provided◌then◌else◌
  runs_told h p y lines' plays w = rw (le-leb 3 (length out) h) (refl, (p, (plays, ap (λ l. l ++ drop 3 out) w)))
