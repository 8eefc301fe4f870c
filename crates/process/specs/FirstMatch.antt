-- The first upcall of a queue that passes a test: where it stands.
use Rattle.std.specs.Prelude.{ℕ, suc, ◌<◌, ◌≡◌, Bool, true, false, ◌&&◌, List, [], ◌∷◌, length, get_or, eqb, Option, Some, None}
use Rattle.definition.specs.Tests.{provided◌then◌else◌}
use Rattle.definition.specs.State.{Upcall, no_upcall}

-- an upcall is of slot j of the driver at place k
abbrev pub is_of : ℕ → ℕ → Upcall → Bool
is_of k j u = eqb u.place k && eqb u.slot j

-- one place further on
abbrev pub further : Option ℕ → Option ℕ
further (Some i) = Some (suc i)
further None = None

unfoldable pub first_match : (Upcall → Bool) → List Upcall → Option ℕ
first_match f [] = None
first_match f (u ∷ q) = provided f u then Some 0 else further (first_match f q)

-- ---- what that says

-- no upcall before place n passes
abbrev pub NoneBelow : ℕ → (Upcall → Bool) → List Upcall → Type 0
NoneBelow n f q = (m : ℕ) → m < n → f (get_or q m no_upcall) ≡ false

-- the one at a place is there and passes, and none before it does; or none of all does
abbrev pub IsFirst : (Upcall → Bool) → List Upcall → Option ℕ → Type 0
IsFirst f q (Some i) = (i < length q) × (f (get_or q i no_upcall) ≡ true) × NoneBelow i f q
IsFirst f q None = NoneBelow (length q) f q
