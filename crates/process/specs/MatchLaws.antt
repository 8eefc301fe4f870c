-- Laws of the first upcall that passes a test: the place that is found is the least, and the least place is what is found.
-- Each is shown of any `further` that takes the step to the next place, and then, on its own, of the one that is defined: a wrong step is refused at each of them.
use Rattle.std.specs.Prelude.{ℕ, zero, suc, ◌-◌, ◌≤◌, ◌<◌, ◌≡◌, Bool, length, get_or, drop, Option, Some, None}
use Rattle.std.proofs.Math.Path.{refl}
use Rattle.std.proofs.Common.{sym, ap, subst, ◌∙◌, add-zero, not-suc-le-zero, le_of_suc-le-suc, length-drop, get_or-drop}
use Rattle.std.proofs.Math.Bool.{true, false}
use mathlib.Core.List.{List, [], ◌∷◌}
use native.Mathlib.Omega.{arith}
use Rattle.std.proofs.Math.Decide.{dec_lt}
use Rattle.definition.specs.Tests.{provided◌then◌else◌}
use Rattle.definition.specs.State.{Upcall, no_upcall}
use Rattle.laws.specs.Facts.{clash}
use Rattle.process.specs.FirstMatch.{further, first_match, NoneBelow, IsFirst}

module _ (f : Upcall → Bool) where
  -- an upcall that does not pass, in front
  none_more : (u : Upcall) (q : List Upcall) (n : ℕ) → f u ≡ false → NoneBelow n f q → NoneBelow (suc n) f (u ∷ q)
  none_more u q n e h zero b = e
  none_more u q n e h (suc m) b = h m (le_of_suc-le-suc b)

  -- of two places the one before would have been found
  same_place : (q : List Upcall) (i k : ℕ) → IsFirst f q (Some i) → IsFirst f q (Some k) → i ≡ k
  same_place q i k x y = elim (dec_lt i k) [
    | yes b ↦ clash x.1 (y.2 i b)
    | no b ↦ elim (dec_lt k i) [
      | yes c ↦ clash y.1 (x.2 k c)
      | no c ↦ omega arith
    ]
  ]

  module _ (step : (i : ℕ) → further (Some i) ≡ Some (suc i)) where
    goes_on : (u : Upcall) (q : List Upcall) (r : Option ℕ) → f u ≡ false → IsFirst f q r → IsFirst f (u ∷ q) (further r)
    goes_on u q (Some i) e h = subst (IsFirst f (u ∷ q)) (sym (step i)) (omega (arith, h.0), h.1, none_more u q i e h.2)
    goes_on u q None e h = none_more u q (length q) e h

    is_first : (q : List Upcall) → IsFirst f q (first_match f q)
    unfolding first_match provided◌then◌else◌
    is_first [] = λ m b. absurd (not-suc-le-zero b)
    is_first (u ∷ q) = go (f u) refl (is_first q)
      where
        go : (t : Bool) → f u ≡ t → IsFirst f q (first_match f q) → IsFirst f (u ∷ q) (provided t then Some 0 else further (first_match f q))
        go true e h = (omega arith, e, λ m b. absurd (not-suc-le-zero b))
        go false e h = goes_on u q (first_match f q) e h

    found : (q : List Upcall) (r : Option ℕ) → r ≡ first_match f q → IsFirst f q r
    found q r e = subst (IsFirst f q) (sym e) (is_first q)

    only : (q : List Upcall) (r : Option ℕ) → IsFirst f q r → r ≡ first_match f q
    only q r h = go r (first_match f q) h (is_first q)
      where
        go : (r s : Option ℕ) → IsFirst f q r → IsFirst f q s → r ≡ s
        go (Some i) (Some k) x y = ap Some (same_place q i k x y)
        go (Some i) None x y = clash x.1 (y i x.0)
        go None (Some k) x y = clash y.1 (x k y.0)
        go None None x y = refl

    late : (q : List Upcall) (m : ℕ) → first_match f (drop m q) ≡ Some 0 → (i : ℕ) × (first_match f q ≡ Some i) × (i ≤ m)
    late q m e =
        let is : IsFirst f (drop m q) (Some 0) = found (drop m q) (Some 0) (sym e) in
        let inside : 0 < length q - m = subst (λ n. 0 < n) (length-drop m q) is.0 in
        let here : f (get_or q m no_upcall) ≡ true = ap f (ap (λ n. get_or q n no_upcall) (sym (add-zero m)) ∙ sym (get_or-drop m q 0 no_upcall)) ∙ is.1 in
        go (first_match f q) (is_first q) inside here
      where
        go : (r : Option ℕ) → IsFirst f q r → 0 < length q - m → f (get_or q m no_upcall) ≡ true → (i : ℕ) × (r ≡ Some i) × (i ≤ m)
        go (Some i) h b t = elim (dec_lt m i) [
          | yes c ↦ clash t (h.2 m c)
          | no c ↦ (i, refl, omega arith)
        ]
        go None h b t = clash t (h m (omega arith))

  is_further : (u : Upcall) (q : List Upcall) (r : Option ℕ) → f u ≡ false → IsFirst f q r → IsFirst f (u ∷ q) (further r)
  is_further = goes_on λ i. refl

  first_is : (q : List Upcall) → IsFirst f q (first_match f q)
  first_is = is_first λ i. refl

  -- what is found is the first one, and nothing else is
  pub first_found : (q : List Upcall) (r : Option ℕ) → r ≡ first_match f q → IsFirst f q r
  first_found = found λ i. refl

  pub first_only : (q : List Upcall) (r : Option ℕ) → IsFirst f q r → r ≡ first_match f q
  first_only = only λ i. refl

  -- a part of the queue that begins with a match begins at the first one or after it: none is lent that begins before it, or where there is none
  pub lent_late : (q : List Upcall) (m : ℕ) → first_match f (drop m q) ≡ Some 0 → (i : ℕ) × (first_match f q ≡ Some i) × (i ≤ m)
  lent_late = late λ i. refl
