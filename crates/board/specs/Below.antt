-- A test of every number below n, as the chain `(0..n).all(..)` makes it.
use Rattle.std.specs.Prelude.{ℕ, zero, suc, ◌<◌, ◌≡◌, Bool, true, false, ◌&&◌, List, [], ◌∷◌, ◌++◌, map, Option, MatchOption}
use Rattle.std.specs.List.{list_all, range_with_len, FoldsTo}
use Rattle.std.specs.Iterator.{YieldsThen}
use Rattle.std.specs.Fn.{Called}
use Rattle.std.specs.declared.ops.Range.{Range}
use Rattle.std.proofs.Common.{refl, sym, ap, ap₂, ◌∙◌, arith, add-one, zero-add}
use Rattle.std.proofs.Math.Bool.{and-true}
use Rattle.std.proofs.iter.Yields.{nat_range_steps}
use Rattle.std.proofs.lemmas.List.Folds.{list_all-append, list_all-map}
use Rattle.std.proofs.lemmas.List.FromFn.{map-range_with_len_more}
use Rattle.std.proofs.lemmas.Iterator.{YieldsList-from_range}
use Rattle.std.proofs.lemmas.Iterator.Search.{all_from_yields_List}
use denote.Param.Members.{Mut}
use Rattle.definition.specs.Tests.{every_below}

-- the numbers below n, from the first to the last
all_numbers : (f : ℕ → Bool) (n : ℕ) → list_all f (range_with_len 0 n) ≡ every_below n f
unfolding every_below
all_numbers f zero = refl
all_numbers f (suc n) =
    let last : map f (range_with_len 0 (suc n)) ≡ map f (range_with_len 0 n) ++ (f n ∷ []) = rw add-one at (map-range_with_len_more f 0 n n (zero-add n)) in
    sym (list_all-map (λ t. t) f (range_with_len 0 (suc n))) ∙ ap (list_all (λ t. t)) last ∙ list_all-append (λ t. t) (map f (range_with_len 0 n)) (f n ∷ [])
    ∙ ap₂ ◌&&◌ (list_all-map (λ t. t) f (range_with_len 0 n) ∙ all_numbers f n) (and-true (f n))

-- what is tested is said of the numbers below n alone
same_below : (f h : ℕ → Bool) (n : ℕ) → ((i : ℕ) → i < n → h i ≡ f i) → every_below n h ≡ every_below n f
unfolding every_below
same_below f h zero e = refl
same_below f h (suc n) e = ap₂ ◌&&◌ (same_below f h n (λ i l. e i (omega arith))) (e n (omega arith))

module _ {F : Type 0} {g : Mut F (ℕ × Unit {0}) Bool} {s : Range ℕ} (n : ℕ) (u : Range ℕ) (c : F) (r : Bool)
    (ran : (xs : List ℕ) × (o : Option ℕ) × (j : F) × YieldsThen nat_range_steps s xs o u × FoldsTo (λ p x q. Called g p (x, tt) true q) c xs j × MatchOption o (r ≡ true) (λ x. (r ≡ false) × ((k : F) × Called g j (x, tt) false k)))
    (e : s ≡ record { start = 0; end = n }) where
  -- the closure does f
  pub all_same : (f : ℕ → Bool) → ((x : ℕ) (b : Bool) (q : F) → Called g c (x, tt) b q → (q ≡ c) × (b ≡ f x)) → r ≡ every_below n f
  all_same f answers = all_from_yields_List f u c r ran (YieldsList-from_range 0 n n e (omega arith)) answers ∙ all_numbers f n

  -- f is what the definition tests, and h what the closure does
  pub all_below : (f h : ℕ → Bool) → ((x : ℕ) (b : Bool) (q : F) → Called g c (x, tt) b q → (q ≡ c) × (b ≡ h x)) → ((i : ℕ) → i < n → h i ≡ f i) → r ≡ every_below n f
  all_below f h answers same = all_same h answers ∙ same_below f h n same
