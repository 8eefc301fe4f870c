-- Words that are all zero, and rows that zeros follow.
use Rattle.std.specs.Prelude.{ℕ, ◌+◌, ◌-◌, ◌*◌, ◌≤◌, ◌<◌, ◌≡◌, refl, Bool, true, List, ◌++◌, length, get_or, eqb}
use Rattle.std.proofs.Math.Path.{sym, ap, subst}
use Rattle.std.proofs.Common.{ap₂, ◌∙◌, mul_comm, arith, length-drop, ext_get_or, eqb-true, eq-eqb}
use Rattle.std.proofs.Math.Nat.{mul-sub}
use Rattle.std.proofs.Math.ListN.{drop, replicate}
use Rattle.std.proofs.lemmas.List.{length-replicate}
use Rattle.definition.specs.Tests.{every_below}
use Rattle.definition.specs.Words.{part, tabulate, grid}
use Rattle.laws.specs.Facts.{below_at, at_below, get_d_same}
use Rattle.laws.specs.Rows.{part_length, part_part, drop_part, part_join, row_fits, grid_tab, grid_rest}

unfoldable pub all_zero : List ℕ → Bool
all_zero l = every_below (length l) (λ i. eqb (get_or l i 0) 0)

pub zero_is : (l : List ℕ) → all_zero l ≡ true → l ≡ replicate (length l) 0
unfolding all_zero
zero_is l h =
    ext_get_or 0 l (replicate (length l) 0) (sym (length-replicate (length l) 0))
    (λ i k. eqb-true _ _ (below_at (length l) (λ i. eqb (get_or l i 0) 0) h i k) ∙ sym (get_d_same (length l) i 0))

pub is_zero : (n : ℕ) → all_zero (replicate n 0) ≡ true
unfolding all_zero
is_zero n = at_below (length (replicate {A = ℕ} n 0)) (λ i. eqb (get_or (replicate n 0) i 0) 0) (λ i h. eq-eqb _ _ (get_d_same n i 0))

pub zero_any : (l : List ℕ) (n : ℕ) → l ≡ replicate n 0 → all_zero l ≡ true
zero_any l n e = rw e (is_zero n)

-- the words from place a up to place e are zero
unfoldable pub zero_between : ℕ → ℕ → List ℕ → Bool
zero_between a e t = all_zero (part a (e - a) t)

pub none_between : (a : ℕ) (t : List ℕ) → zero_between a a t ≡ true
unfolding zero_between part all_zero every_below
none_between a t = let z : a - a ≡ 0 = omega arith in rw z refl

-- ---- rows from place a on: room for n of them, k in use, zeros after them

module _ (t : List ℕ) (a n k w : ℕ) where
  -- what follows the rows in use
  rest : drop (k * w) (part a (n * w) t) ≡ part (a + k * w) (a + n * w - (a + k * w)) t
  rest = drop_part a (k * w) (n * w) t ∙ ap (λ (j : ℕ). part (a + k * w) j t) (omega arith)

  rest_length : a + n * w ≤ length t → length (drop (k * w) (part a (n * w) t)) ≡ (n - k) * w
  rest_length fits =
      length-drop (k * w) (part a (n * w) t) ∙ ap (λ (j : ℕ). j - k * w) (part_length a (n * w) t fits)
      ∙ sym (rw (mul_comm (n - k) w, mul-sub w n k, mul_comm w n, mul_comm w k))

  module _ {A : Type 0} (e : A → List ℕ) (d : A) (size : (x : A) → length (e x) ≡ w) (none : e d ≡ replicate w 0) (room : k ≤ n) where
    -- read and written again they are the same words
    pub rows_again : (f : ℕ → A) → a + n * w ≤ length t → ((i : ℕ) → i < k → e (f i) ≡ part (a + i * w) w t) → zero_between (a + k * w) (a + n * w) t ≡ true
        → grid e d n (tabulate k f) ≡ part a (n * w) t
    unfolding zero_between
    rows_again f fits rows z =
        grid_tab e d w size none k n f (part a (n * w) t) room (part_length a (n * w) t fits)
        (λ i h. rows i h ∙ sym (part_part a (n * w) (i * w) w t (row_fits i n w (omega arith))))
        (zero_is _ (ap all_zero rest ∙ z) ∙ ap (λ (j : ℕ). replicate j 0) (rest_length fits))

    -- where k elements are written, zeros follow
    pub rows_zero : (l : List A) → length l ≡ k → part a (n * w) t ≡ grid e d n l → zero_between (a + k * w) (a + n * w) t ≡ true
    unfolding zero_between
    rows_zero l c q =
        zero_any _ ((n - k) * w) (sym rest ∙ ap (drop (k * w)) q
        ∙ subst (λ j. drop (j * w) (grid e d n l) ≡ replicate ((n - j) * w) 0) c (grid_rest e d w size none n l (omega arith)))

-- words that stand side by side
pub side_by_side : (t : List ℕ) (a m n : ℕ) {x y : List ℕ} → x ≡ part a m t → y ≡ part (a + m) n t → x ++ y ≡ part a (m + n) t
side_by_side t a m n p q = ap₂ (λ (x y : List ℕ). x ++ y) p q ∙ part_join a m n t
