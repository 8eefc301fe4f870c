-- A place taken out of a list, and a bit out of a mask: where the others stand then.
use Prim.Native.Nat.{ℕ, zero, suc, ◌+◌, ◌*◌, ◌/◌, ◌%◌, ◌^◌, ◌<◌}
use Rattle.std.specs.Prelude.{◌≡◌, ◌≢◌, length, get_or}
use Rattle.std.proofs.Math.Path.{refl, ap}
use Rattle.std.proofs.Common.{sym, ◌∙◌, arith}
use mathlib.Core.List.{List, [], ◌∷◌}
use Rattle.std.proofs.Math.Nat.{div-div-eq-div-mul}
use Rattle.definition.specs.Without.{drop_at, drop_bit}

-- ---- places: where place i stands when place k is taken out, and which place stood at i before

unfoldable pub down : ℕ → ℕ → ℕ
down zero zero = zero
down zero (suc i) = i
down (suc k) zero = zero
down (suc k) (suc i) = suc (down k i)

unfoldable pub up : ℕ → ℕ → ℕ
up zero i = suc i
up (suc k) zero = zero
up (suc k) (suc i) = suc (up k i)

pub up_apart : (k i : ℕ) → up k i ≢ k
unfolding up
up_apart zero i e = omega arith
up_apart (suc k) zero e = omega arith
up_apart (suc k) (suc i) e = up_apart k i (omega arith)

pub down_up : (k i : ℕ) → down k (up k i) ≡ i
unfolding up down
down_up zero i = refl
down_up (suc k) zero = refl
down_up (suc k) (suc i) = ap suc (down_up k i)

pub up_down : (k i : ℕ) → i ≢ k → up k (down k i) ≡ i
unfolding up down
up_down zero zero e = absurd (e refl)
up_down zero (suc i) e = refl
up_down (suc k) zero e = refl
up_down (suc k) (suc i) e = ap suc (up_down k i (λ q. e (ap suc q)))

pub down_one : (k i j : ℕ) → i ≢ k → j ≢ k → down k i ≡ down k j → i ≡ j
down_one k i j p q e = sym (up_down k i p) ∙ ap (up k) e ∙ up_down k j q

pub up_rises : (k i j : ℕ) → i < j → up k i < up k j
unfolding up
up_rises zero i j h = omega arith
up_rises (suc k) i zero h = absurd (omega arith)
up_rises (suc k) zero (suc j) h = omega arith
up_rises (suc k) (suc i) (suc j) h = omega (arith, up_rises k i j (omega arith))

-- among n places, of which one is taken out
pub up_below : (k i n : ℕ) → k < n → suc i < n → up k i < n
unfolding up
up_below zero i n hk hi = hi
up_below (suc k) zero n hk hi = omega arith
up_below (suc k) (suc i) zero hk hi = absurd (omega arith)
up_below (suc k) (suc i) (suc n) hk hi = omega (arith, up_below k i n (omega arith) (omega arith))

pub down_below : (k i n : ℕ) → k < n → i < n → i ≢ k → suc (down k i) < n
unfolding down
down_below zero zero n hk hi ne = absurd (ne refl)
down_below zero (suc i) n hk hi ne = hi
down_below (suc k) zero n hk hi ne = omega arith
down_below (suc k) (suc i) zero hk hi ne = absurd (omega arith)
down_below (suc k) (suc i) (suc n) hk hi ne = omega (arith, down_below k i n (omega arith) (omega arith) (λ q. ne (ap suc q)))

-- and past them
pub down_from : (k i n : ℕ) → k < n → n < suc i → n < suc (suc (down k i))
unfolding down
down_from zero zero n hk hi = omega arith
down_from zero (suc i) n hk hi = omega arith
down_from (suc k) zero n hk hi = absurd (omega arith)
down_from (suc k) (suc i) zero hk hi = absurd (omega arith)
down_from (suc k) (suc i) (suc n) hk hi = omega (arith, down_from k i n (omega arith) (omega arith))

-- ---- lists

module _ {A : Type 0} where
  pub length_drop : (k : ℕ) (l : List A) → k < length l → suc (length (drop_at k l)) ≡ length l
  unfolding drop_at
  length_drop k [] h = absurd (omega arith)
  length_drop zero (x ∷ l) h = refl
  length_drop (suc k) (x ∷ l) h = ap suc (length_drop k l (omega arith))

  pub at_up : (k i : ℕ) (l : List A) (d : A) → get_or (drop_at k l) i d ≡ get_or l (up k i) d
  unfolding drop_at up
  at_up k i [] d = refl
  at_up zero i (x ∷ l) d = refl
  at_up (suc k) zero (x ∷ l) d = refl
  at_up (suc k) (suc i) (x ∷ l) d = at_up k i l d

  pub at_down : (k i : ℕ) (l : List A) (d : A) → i ≢ k → get_or (drop_at k l) (down k i) d ≡ get_or l i d
  at_down k i l d e = at_up k (down k i) l d ∙ ap (λ n. get_or l n d) (up_down k i e)

-- ---- masks

pub dropped_none : (k : ℕ) → drop_bit k 0 ≡ 0
unfolding drop_bit
dropped_none zero = refl
dropped_none (suc k) = rw (dropped_none k)

half_bits : (m i : ℕ) → m / 2 / 2 ^ i ≡ m / 2 ^ suc i
half_bits m i = div-div-eq-div-mul m 2 (2 ^ i) ∙ ap (λ n. m / n) (omega arith)

pub dropped_bit : (k i m : ℕ) → i ≢ k → drop_bit k m / 2 ^ down k i % 2 ≡ m / 2 ^ i % 2
unfolding drop_bit down
dropped_bit zero zero m e = absurd (e refl)
dropped_bit zero (suc i) m e = ap (λ n. n % 2) (half_bits m i)
dropped_bit (suc k) zero m e = omega arith
dropped_bit (suc k) (suc i) m e =
    let rest : (m % 2 + 2 * drop_bit k (m / 2)) / 2 ≡ drop_bit k (m / 2) = omega arith in
    ap (λ n. n % 2) (sym (half_bits (m % 2 + 2 * drop_bit k (m / 2)) (down k i)) ∙ ap (λ n. n / 2 ^ down k i) rest)
    ∙ dropped_bit k i (m / 2) (λ q. e (ap suc q)) ∙ ap (λ n. n % 2) (half_bits m i)

-- a mask of n + 1 bits has n left
pub dropped_small : (k n m : ℕ) → k < suc n → m < 2 ^ suc n → drop_bit k m < 2 ^ n
unfolding drop_bit
dropped_small zero n m hk h = omega arith
dropped_small (suc k) zero m hk h = absurd (omega arith)
dropped_small (suc k) (suc n) m hk h = omega (arith, dropped_small k n (m / 2) (omega arith) (omega arith))
