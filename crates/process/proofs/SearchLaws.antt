-- The search for a slot's first upcall in rows of words, and the rows from it on: what is done to them is done to all.
use Prim.Native.Nat.{ℕ, suc, ◌+◌, ◌-◌, ◌*◌, ◌≤◌, ◌<◌}
use mathlib.Core.Path.{◌≡◌, refl, sym, ap, ap₂, subst, ◌∙◌}
use mathlib.Core.Bool.{Bool, true, false}
use mathlib.Core.List.{List, [], ◌∷◌, ◌++◌, append_assoc}
use native.Mathlib.Nat.{zero-add, add_assoc}
use native.Mathlib.Omega.{arith}
use lib.ListN.{length, take, drop, get_or, set, length-append}
use lib.Seq.{length-take-le, take-add, drop-drop, get_or-drop}
use borrow.Rule.Slice.PartMut.{mid_of, put_mid}
use Rattle.std.specs.Prelude.{Option, Some, None, IfSome, MatchOption}
use Rattle.definition.specs.Tests.{provided◌then◌else◌}
use Rattle.definition.specs.State.{Upcall, no_upcall, with_queue}
use Rattle.definition.specs.Words.{part, grid}
use Rattle.definition.specs.Image.{upcall_words, read_upcall, words_in_upcall, queue_from, process_words}
use Rattle.definition.specs.World.{cancel}
use Rattle.laws.specs.Rows.{tab_length, tab_at, tab_ext, part_part, grid_full, row_fits}
use Rattle.laws.specs.Codec.{upcall_words_lem}
use Rattle.process.specs.Runs.{Does}
use Rattle.process.specs.QueueRows.{upcalls_in, Keeps}
use Rattle.process.specs.FirstMatch.{is_of, first_match, NoneBelow, IsFirst}
use Rattle.process.specs.MatchLaws.{first_found, first_only}
use Rattle.process.proofs.QueueLaws.{rest_lent, rest_back, lent}
use Rattle.process.proofs.CancelLaws.{tab_apart, rows, rows_apart, Kept, kept_none, kept_goes, cancel_append, queue_of, cancel_does}

-- ---- one row

read_drop : (t : List ℕ) (a b : ℕ) → read_upcall (drop a t) b ≡ read_upcall t (a + b)
read_drop t a b =
    let w : (j : ℕ) → get_or (drop a t) (b + j) 0 ≡ get_or t (a + b + j) 0 = λ j. get_or-drop a t (b + j) 0 ∙ ap (λ n. get_or t n 0) (sym (add_assoc a b j)) in
    λ i. record { place = get_or-drop a t b 0 i; slot = w 1 i; argument0 = w 2 i; argument1 = w 3 i; argument2 = w 4 i; pair = record { first = w 5 i; second = w 6 i } }

upcalls_length : (n : ℕ) (t : List ℕ) → length (upcalls_in n t) ≡ n
upcalls_length n t = tab_length n (λ m. read_upcall t (m * words_in_upcall))

-- ---- the search

-- the first row that passes, as the search tells it
module _ (f : Upcall → Bool) (t : List ℕ) (n : ℕ) where
  abbrev passes : ℕ → Bool
  passes k = f (read_upcall t (k * words_in_upcall))

  in_queue : (k : ℕ) → k < n → f (get_or (upcalls_in n t) k no_upcall) ≡ passes k
  in_queue k h = ap f (tab_at n _ k no_upcall h)

  pub searched : (r : Option ℕ) → MatchOption r ((k : ℕ) → 0 ≤ k → k < n → passes k ≡ false) (λ i. (0 ≤ i) × (i < n) × (passes i ≡ true) × ((k : ℕ) → 0 ≤ k → k < i → passes k ≡ false))
      → (r ≡ first_match f (upcalls_in n t)) × IfSome r (λ i. i < n)
  searched (Some i) (z, h, e, none) = (first_only f (upcalls_in n t) (Some i) (omega (arith, upcalls_length n t), in_queue i h ∙ e, λ m b. in_queue m (omega arith) ∙ none m (omega arith) b), h)
  searched None none =
      let inside = upcalls_length n t in
      (first_only f (upcalls_in n t) None (λ m b. in_queue m (omega (arith, inside)) ∙ none m (omega arith) (omega (arith, inside))), tt)

-- a place that is found is one of the rows
pub some_within : (n : ℕ) {r : Option ℕ} {i : ℕ} → r ≡ Some i → IfSome r (λ k. k < n) → i < n
some_within n e h = subst (λ (r : Option ℕ). IfSome r (λ k. k < n)) e h

-- ---- the rows from the i-th on

cancel_none : (k j : ℕ) (q : List Upcall) → NoneBelow (length q) (is_of k j) q → cancel k j q ≡ q
unfolding cancel provided◌then◌else◌
cancel_none k j [] h = refl
cancel_none k j (u ∷ q) h = rw (h 0 (omega arith)) (ap (λ (r : List Upcall). u ∷ r) (cancel_none k j q (λ m b. h (suc m) (omega arith))))

module _ (t : List ℕ) (n i : ℕ) (b : i ≤ n) where
  -- those rows, and the ones before them
  upcalls_apart : upcalls_in n t ≡ upcalls_in i t ++ upcalls_in (n - i) (drop (i * words_in_upcall) t)
  upcalls_apart =
      let m : i + (n - i) ≡ n = omega arith in
      ap (λ (k : ℕ). upcalls_in k t) (sym m)
      ∙ tab_apart i (n - i) (λ m. read_upcall t (m * words_in_upcall))
      ∙ ap (λ (r : List Upcall). upcalls_in i t ++ r) (tab_ext (n - i) _ _ (λ m h. ap (read_upcall t) (omega arith) ∙ sym (read_drop t (i * words_in_upcall) (m * words_in_upcall))))

  -- a slot's first upcall is the first of the rows from it on
  first_there : (f : Upcall → Bool) → Some i ≡ first_match f (upcalls_in n t) → first_match f (upcalls_in (n - i) (drop (i * words_in_upcall) t)) ≡ Some 0
  first_there f e =
      let is : IsFirst f (upcalls_in n t) (Some i) = first_found f (upcalls_in n t) (Some i) e in
      let h : i < n = omega (arith, is.0, upcalls_length n t) in
      let r : get_or (upcalls_in (n - i) (drop (i * words_in_upcall) t)) 0 no_upcall ≡ get_or (upcalls_in n t) i no_upcall =
      tab_at (n - i) _ 0 no_upcall (omega arith) ∙ read_drop t (i * words_in_upcall) (0 * words_in_upcall) ∙ ap (read_upcall t) (omega arith) ∙ sym (tab_at n _ i no_upcall h) in
      sym (first_only f (upcalls_in (n - i) (drop (i * words_in_upcall) t)) (Some 0) (omega (arith, upcalls_length (n - i) (drop (i * words_in_upcall) t)), ap f r ∙ is.1, λ m b. absurd (omega arith)))

  rows_read : n * words_in_upcall ≤ length t → grid upcall_words no_upcall i (upcalls_in i t) ≡ take (i * words_in_upcall) t
  unfolding part
  rows_read h = grid_full upcall_words no_upcall words_in_upcall (λ x. refl) i _ (take (i * words_in_upcall) t) (length-take-le (i * words_in_upcall) t (omega arith)) λ m g.
      let fits : m * words_in_upcall + words_in_upcall ≤ i * words_in_upcall = row_fits m i words_in_upcall g in
      upcall_words_lem t (m * words_in_upcall) (omega arith) ∙ sym (part_part 0 (i * words_in_upcall) (m * words_in_upcall) words_in_upcall t fits ∙ ap (λ (a : ℕ). part a words_in_upcall t) (zero-add (m * words_in_upcall)))

  -- what is done to the rows from the i-th on is done to all, where the slot has none before them
  pub keeps_all : (k j left : ℕ) (after : List ℕ) → n * words_in_upcall ≤ length t → NoneBelow i (is_of k j) (upcalls_in n t) → Keeps (cancel k j) (n - i) (drop (i * words_in_upcall) t) left after
      → Keeps (cancel k j) n t (i + left) (take (i * words_in_upcall) t ++ after)
  keeps_all k j left after h none s =
      let a : List Upcall = upcalls_in i t in
      let c : List Upcall = cancel k j (upcalls_in (n - i) (drop (i * words_in_upcall) t)) in
      let size : length a ≡ i = upcalls_length i t in
      let l : cancel k j (upcalls_in n t) ≡ a ++ c =
      ap (cancel k j) upcalls_apart
      ∙ cancel_append k j a (upcalls_in (n - i) (drop (i * words_in_upcall) t))
      ∙ ap (λ (r : List Upcall). r ++ c) (cancel_none k j a (λ m g. ap (is_of k j) (tab_at i _ m no_upcall (omega arith) ∙ sym (tab_at n _ m no_upcall (omega arith))) ∙ none m (omega arith))) in
      let front : rows a ≡ take (i * words_in_upcall) t = ap (λ (m : ℕ). grid upcall_words no_upcall m a) size ∙ rows_read h in
      let end : i * words_in_upcall + (n - i) * words_in_upcall ≡ n * words_in_upcall = omega arith in
      let rest : drop ((n - i) * words_in_upcall) (drop (i * words_in_upcall) t) ≡ drop (n * words_in_upcall) t = drop-drop ((n - i) * words_in_upcall) (i * words_in_upcall) t ∙ ap (λ (m : ℕ). drop m t) end in
      let count : i + left ≡ length (a ++ c) = simp length-append (omega (arith, s.count)) in
      record {
        few = omega (arith, s.few);
        count = count ∙ ap length (sym l);
        words =
            ap₂ (λ (x y : List ℕ). x ++ y) (sym front) (s.words ∙ ap (λ (r : List ℕ). grid upcall_words no_upcall (n - i) c ++ r) rest)
            ∙ sym (append_assoc (rows a) (grid upcall_words no_upcall (n - i) c) (drop (n * words_in_upcall) t))
            ∙ ap (λ (x : List ℕ). x ++ drop (n * words_in_upcall) t) (sym (ap (grid upcall_words no_upcall n) l ∙ rows_apart n a c (omega arith) ∙ ap (λ (m : ℕ). rows a ++ grid upcall_words no_upcall (n - m) c) size));
      }

-- where the first row is of the slot, it has gone before the loop begins
pub kept_first : (k j n : ℕ) (t : List ℕ) → n * words_in_upcall ≤ length t → first_match (is_of k j) (upcalls_in n t) ≡ Some 0 → (1 ≤ n) × Kept k j 1 t 0 t
kept_first k j n t h e =
    let is : IsFirst (is_of k j) (upcalls_in n t) (Some 0) = first_found (is_of k j) (upcalls_in n t) (Some 0) (sym e) in
    let some : 1 ≤ n = omega (arith, is.0, upcalls_length n t) in
    (some, kept_goes k j 0 t 0 t (kept_none k j t) (omega arith) (read_upcall t (0 * words_in_upcall)) refl 0 t (ap (is_of k j) (sym (tab_at n _ 0 no_upcall some)) ∙ is.1) refl refl)

-- ---- the process

-- where none is queued, nothing is to be done
pub none_does : (k j : ℕ) (run : List ℕ) (n : ℕ) → n ≡ get_or run 2 0 → None ≡ first_match (is_of k j) (upcalls_in n (lent run)) → Does (λ p. with_queue (cancel k j p.queue) p) run run
none_does k j run n e s p z w =
    let q : upcalls_in n (lent run) ≡ p.queue = queue_of run n p e z w in
    let none : IsFirst (is_of k j) p.queue None = first_found (is_of k j) p.queue None (s ∙ ap (first_match (is_of k j)) q) in
    w ∙ ap (λ (l : List Upcall). process_words (with_queue l p)) (sym (cancel_none k j p.queue none))

-- the words lent from a further place on are the last of those lent, and come back behind the first
module _ (run : List ℕ) (a b : ℕ) where
  lent_further : mid_of (a + b) (length run - (a + b)) run ≡ drop b (mid_of a (length run - a) run)
  lent_further = rest_lent run (a + b) ∙ sym (ap (drop b) (rest_lent run a) ∙ drop-drop b a run)

  back_further : (after : List ℕ) → put_mid (a + b) (length run - (a + b)) run after ≡ put_mid a (length run - a) run (take b (mid_of a (length run - a) run) ++ after)
  back_further after =
      rest_back run (a + b) after
      ∙ ap (λ (l : List ℕ). l ++ after) (take-add a b run)
      ∙ append_assoc (take a run) (take b (drop a run)) after
      ∙ sym (rest_back run a (take b (mid_of a (length run - a) run) ++ after) ∙ ap (λ (l : List ℕ). take a run ++ (take b l ++ after)) (rest_lent run a))

-- what is lent from a match on begins with it
pub lent_first : (f : Upcall → Bool) (run : List ℕ) (n i from : ℕ) → from ≡ queue_from + i * words_in_upcall → i ≤ n → Some i ≡ first_match f (upcalls_in n (lent run))
    → first_match f (upcalls_in (n - i) (mid_of from (length run - from) run)) ≡ Some 0
lent_first f run n i from s b e =
    ap (λ (l : List ℕ). first_match f (upcalls_in (n - i) l)) (ap (λ (a : ℕ). mid_of a (length run - a) run) s ∙ lent_further run queue_from (i * words_in_upcall))
    ∙ first_there (lent run) n i b f e

-- the rows from the first match on become what the cancel leaves of them, and the count is less by those that have gone
pub found_does : (k j : ℕ) (run after : List ℕ) (n i gone : ℕ) → n ≡ get_or run 2 0 → n * words_in_upcall ≤ length (lent run) → i ≤ n → Some i ≡ first_match (is_of k j) (upcalls_in n (lent run)) → gone ≤ n - i
    → Keeps (cancel k j) (n - i) (mid_of (queue_from + i * words_in_upcall) (length run - (queue_from + i * words_in_upcall)) run) (n - i - gone) after
    → Does (λ p. with_queue (cancel k j p.queue) p) run (set (put_mid (queue_from + i * words_in_upcall) (length run - (queue_from + i * words_in_upcall)) run after) 2 (n - gone))
found_does k j run after n i gone e h b s g x =
    let l : List ℕ = lent run in
    let is : IsFirst (is_of k j) (upcalls_in n l) (Some i) = first_found (is_of k j) (upcalls_in n l) (Some i) s in
    let from : Keeps (cancel k j) (n - i) (drop (i * words_in_upcall) l) (n - i - gone) after =
    subst (λ (r : List ℕ). Keeps (cancel k j) (n - i) r (n - i - gone) after) (lent_further run queue_from (i * words_in_upcall)) x in
    let all : Keeps (cancel k j) n l (i + (n - i - gone)) (take (i * words_in_upcall) l ++ after) = keeps_all l n i b k j (n - i - gone) after h is.2 from in
    let count : n - gone ≡ i + (n - i - gone) = omega arith in
    λ p z w. ap₂ (λ (r : List ℕ) (m : ℕ). set r 2 m) (back_further run queue_from (i * words_in_upcall) after) count ∙ cancel_does k j run (take (i * words_in_upcall) l ++ after) n (i + (n - i - gone)) e all p z w
