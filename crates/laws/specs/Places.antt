-- Laws of place_of and reach. On a good board the drivers' numbers differ, so a driver's number and its place tell each other.
use Rattle.std.specs.Prelude.{ℕ, zero, suc, ◌<◌, ◌≡◌, refl, ◌≢◌, Bool, true, false, ◌&&◌, List, [], ◌∷◌, length, get_or, eqb}
use Rattle.std.proofs.Common.{ap, sym, ◌∙◌, subst, arith, ltb-true, eqb-true, eq-eqb, ne_eqb}
use Rattle.std.proofs.lemmas.Bool.{eqb-false, not-true}
use Rattle.definition.specs.Tests.{provided◌then◌else◌}
use Rattle.definition.specs.Board.{Board, Areas, Driver, no_driver, driver_at, place_of, installed, permits, at_place, absent, reach, good_board}
use Rattle.definition.specs.Answer.{Answer}
use Rattle.definition.specs.Decide.{Outcome, answers, reaching}
use Rattle.laws.specs.Facts.{never, either, both, each_holds, pairwise_at}

-- the driver at the place of an installed number has that number
pub place_number : (ds : List Driver) (n : ℕ) → place_of ds n < length ds → (get_or ds (place_of ds n) no_driver).number ≡ n
unfolding place_of provided◌then◌else◌
place_number [] n h = absurd (omega arith)
place_number (d ∷ ds) n h = go (eqb d.number n) refl h (place_number ds n)
  where
    go : (t : Bool) → eqb d.number n ≡ t → (provided t then 0 else suc (place_of ds n)) < suc (length ds) → (place_of ds n < length ds → (get_or ds (place_of ds n) no_driver).number ≡ n)
        → (get_or (d ∷ ds) (provided t then 0 else suc (place_of ds n)) no_driver).number ≡ n
    go true e h' ih = eqb-true d.number n e
    go false e h' ih = ih (omega arith)

-- so two numbers with one place are one
pub place_one : (ds : List Driver) (n m : ℕ) → place_of ds n < length ds → place_of ds n ≡ place_of ds m → n ≡ m
place_one ds n m h q = sym (place_number ds n h) ∙ ap (λ k. (get_or ds k no_driver).number) q ∙ place_number ds m (subst (λ k. k < length ds) q h)

-- where no driver has a number, its place is past the last one
pub no_place : (ds : List Driver) (n : ℕ) → ((i : ℕ) → i < length ds → (get_or ds i no_driver).number ≡ n → ⊥) → place_of ds n ≡ length ds
unfolding place_of provided◌then◌else◌
no_place [] n f = refl
no_place (d ∷ ds) n f = rw (ne_eqb d.number n (f 0 (omega arith))) (ap suc (no_place ds n (λ i q. f (suc i) (omega arith))))

-- the first driver with a number stands at that number's place
pub first_place : (ds : List Driver) (n k : ℕ) → k < length ds → (get_or ds k no_driver).number ≡ n → ((i : ℕ) → i < k → (get_or ds i no_driver).number ≢ n) → place_of ds n ≡ k
unfolding place_of provided◌then◌else◌
first_place [] n k h e f = absurd (omega arith)
first_place (d ∷ ds) n zero h e f = rw (eq-eqb d.number n e)
first_place (d ∷ ds) n (suc k) h e f = rw (ne_eqb d.number n (f 0 (omega arith))) (ap suc (first_place ds n k (omega arith) e (λ i q. f (suc i) (omega arith))))

pub number_place : (b : Board) (n k : ℕ) → good_board b ≡ true → k < length b.drivers → (driver_at b k).number ≡ n → place_of b.drivers n ≡ k
unfolding good_board
number_place b n k good h e = first_place b.drivers n k h e (λ i q same.
    let differ = pairwise_at (length b.drivers) _ (each_holds _ good).1.1.1.1.1.1.1.0 i k q h in
    eqb-false _ _ (not-true _ differ) (same ∙ sym e))

-- ---- a driver that is reached

pub record ReachedAt (b : Board) (a : Areas) (driver k : ℕ) : Type 0 where
  pub place : place_of b.drivers driver ≡ k
  pub installed : k < length b.drivers
  pub permitted : permits a k ≡ true

pub reached_at : (b : Board) (a : Areas) (driver k : ℕ) → reach b a driver ≡ at_place k → ReachedAt b a driver k
unfolding reach
reached_at b a driver k e = either (λ r. r ≡ at_place k → ReachedAt b a driver k) _ _ _
    (λ t q. let (i, p) = both _ _ t in let here = at_one _ k q in record { place = here; installed = subst (λ k. k < length b.drivers) here (ltb-true _ _ i); permitted = subst (λ k. permits a k ≡ true) here p })
    (λ _ q. never (cc)) e
  where
    at_one : (i j : ℕ) → at_place i ≡ at_place j → i ≡ j
    at_one i j q = cc

-- what is decided of a call that names a driver, as a choice by one test
pub reached_if : (b : Board) (a : Areas) (driver : ℕ) (x : Answer) (f : ℕ → Outcome)
    → reaching (reach b a driver) x f ≡ (provided installed b (place_of b.drivers driver) && permits a (place_of b.drivers driver) then f (place_of b.drivers driver) else answers x)
unfolding reach reaching provided◌then◌else◌
reached_if b a driver x f = go (installed b (place_of b.drivers driver) && permits a (place_of b.drivers driver))
  where
    go : (t : Bool) → reaching (provided t then at_place (place_of b.drivers driver) else absent) x f ≡ (provided t then f (place_of b.drivers driver) else answers x)
    go true = refl
    go false = refl
