-- Tests as propositions: what a test tells, and what a choice by tests comes to. A test is true or false, so each law goes by cases.
use Rattle.std.specs.Prelude.{ℕ, ◌≤◌, ◌<◌, ◌≡◌, ◌↔◌, ◌⊎◌, Bool, ◌&&◌, ◌||◌, not, List, [], ◌∷◌, leb, ltb, eqb}
use Rattle.std.proofs.Math.Path.{refl}
use Rattle.std.proofs.Common.{inl, inr, arith, leb-true, ltb-true, eqb-true, le-leb, lt-ltb, eq-eqb}
use Rattle.std.proofs.Math.Logic.Iff as Iff
use Rattle.std.proofs.Math.Logic.{and-true}
use Rattle.std.proofs.Math.Bool.{true, false}
use Rattle.definition.specs.Tests.{provided◌then◌else◌, all_of, every_below, contains}
use Rattle.laws.specs.Facts.{clash, both, and, implied, implies, below_at, at_below, contains_true, true_contains}
use Rattle.promises.specs.Accepted.{Lies}

-- a test holds exactly if a proposition does
abbrev pub Tells : Bool → Type 0 → Type 0
Tells t P = (t ≡ true) ↔ P

pub le_told : (a b : ℕ) → Tells (leb a b) (a ≤ b)
le_told a b = (leb-true a b, le-leb a b)

pub lt_told : (a b : ℕ) → Tells (ltb a b) (a < b)
lt_told a b = (ltb-true a b, lt-ltb a b)

pub eq_told : (a b : ℕ) → Tells (eqb a b) (a ≡ b)
eq_told a b = (eqb-true a b, eq-eqb a b)

pub contains_told : (low high address : ℕ) → Tells (contains low high address) (Lies low high address 1)
contains_told low high address =
    (λ e. let (p, q) = contains_true low high address e in record { above = p; below = omega arith }, λ l. true_contains low high address l.above (omega arith))

module _ {P : Type 0} where
  pub not_told : (t : Bool) → Tells t P → Tells (not t) (¬ P)
  not_told true f = (λ e p. clash {t = false} e refl, λ n. absurd (n (f.0 refl)))
  not_told false f = (λ e p. clash (f.1 p) refl, λ n. refl)

module _ {P Q : Type 0} where
  pub and_told : (s t : Bool) → Tells s P → Tells t Q → Tells (s && t) (P × Q)
  and_told s t f g = (λ e. let (a, b) = both s t e in (f.0 a, g.0 b), λ h. and (f.1 h.0) (g.1 h.1))

  pub or_told : (s t : Bool) → Tells s P → Tells t Q → Tells (s || t) (P ⊎ Q)
  or_told true t f g = (λ e. inl (f.0 refl), λ h. refl)
  or_told false t f g = (λ e. inr (g.0 e), λ h. elim h [ inl p ↦ clash (f.1 p) refl | inr q ↦ g.1 q ])

  pub implies_told : (s t : Bool) → Tells s P → Tells t Q → Tells (not s || t) (P → Q)
  implies_told s t f g = (λ e p. g.0 (implied s t e (f.1 p)), λ h. implies s t (λ e. g.1 (h (f.0 e))))

  pub all_told : (t : Bool) (ts : List Bool) → Tells t P → Tells (all_of ts) Q → Tells (all_of (t ∷ ts)) (P × Q)
  unfolding all_of
  all_told t ts f g = and_told t (all_of ts) f g

pub none_told : Tells (all_of []) Unit
unfolding all_of
none_told = (λ e. tt, λ u. refl)

pub every_told : (n : ℕ) (f : ℕ → Bool) (P : ℕ → Type 0) → ((i : ℕ) → Tells (f i) (P i)) → Tells (every_below n f) ((i : ℕ) → i < n → P i)
every_told n f P h = (λ e i q. (h i).0 (below_at n f e i q), λ g. at_below n f (λ i q. (h i).1 (g i q)))

-- ---- choices, one side of which never has the property S

module _ {A : Type 0} (S : A → Type 0) where
  module _ {P Q : Type 0} where
    pub if_told : (t : Bool) (x y : A) → Tells t P → S x ↔ Q → ¬ S y → S (provided t then x else y) ↔ (P × Q)
    unfolding provided◌then◌else◌
    if_told true x y f g n = (λ s. (f.0 refl, g.0 s), λ h. g.1 h.1)
    if_told false x y f g n = (λ s. absurd (n s), λ h. clash (f.1 h.0) refl)

    pub unless_told : (t : Bool) (x y : A) → Tells t P → ¬ S x → S y ↔ Q → S (provided not t then x else y) ↔ (P × Q)
    unfolding provided◌then◌else◌
    unless_told true x y f n g = (λ s. (f.0 refl, g.0 s), λ h. g.1 h.1)
    unless_told false x y f n g = (λ s. absurd (n s), λ h. clash (f.1 h.0) refl)

  -- where the other side always has it
  module _ {P : Type 0} where
    pub if_holds : (t : Bool) (x y : A) → Tells t P → S x → ¬ S y → S (provided t then x else y) ↔ P
    if_holds t x y f s n = Iff.trans (if_told t x y f (λ _. tt {0}, λ _. s) n) and-true

    pub unless_holds : (t : Bool) (x y : A) → Tells t P → ¬ S x → S y → S (provided not t then x else y) ↔ P
    unless_holds t x y f n s = Iff.trans (unless_told t x y f n (λ _. tt {0}, λ _. s)) and-true
