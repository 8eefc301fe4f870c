-- Bytes stored in an image, and the part of it that is one process's RAM.
use Rattle.std.specs.Prelude.{ℕ, suc, ◌+◌, ◌-◌, ◌≤◌, ◌≡◌, refl, List, [], ◌∷◌, length, set, take, drop}
use Rattle.std.proofs.Common.{sym, ap, ◌∙◌, arith, add-suc, drop-set-lt}
use Rattle.std.proofs.lemmas.List.Edits.{sets}
use Rattle.std.proofs.Math.Seq.{length-sets, take-set-lt}
use Rattle.std.proofs.lemmas.List.{take-set-le, drop-set-add}
use Rattle.definition.specs.Limits.{memory_base}
use Rattle.definition.specs.Board.{Areas, no_areas}
use Rattle.definition.specs.World.{Write, ram_of, store}
use Rattle.laws.specs.Fit.{Inside, nowhere, inside}
use Rattle.laws.specs.Boards.{Placed, Apart, before, behind}

-- ---- a store and a part of the list

module _ {A : Type 0} where
  take_sets_le : (n : ℕ) (l : List A) (i : ℕ) (vs : List A) → n ≤ i → take n (sets l i vs) ≡ take n l
  take_sets_le n l i [] h = refl
  take_sets_le n l i (a ∷ vs) h = take_sets_le n (set l i a) (suc i) vs (omega arith) ∙ take-set-le n l i a h

  drop_sets_ge : (n : ℕ) (l : List A) (i : ℕ) (vs : List A) → i + length vs ≤ n → drop n (sets l i vs) ≡ drop n l
  drop_sets_ge n l i [] h = refl
  drop_sets_ge n l i (a ∷ vs) h = drop_sets_ge n (set l i a) (suc i) vs (omega arith) ∙ drop-set-lt n l i a (omega arith)

  drop_sets_add : (n : ℕ) (l : List A) (i : ℕ) (vs : List A) → drop n (sets l (n + i) vs) ≡ sets (drop n l) i vs
  drop_sets_add n l i [] = refl
  drop_sets_add n l i (a ∷ vs) =
      ap (λ k. drop n (sets (set l (n + i) a) k vs)) (sym (add-suc n i)) ∙ drop_sets_add n (set l (n + i) a) (suc i) vs
      ∙ ap (λ r. sets r (suc i) vs) (drop-set-add n l i a)

  take_sets_lt : (n : ℕ) (l : List A) (i : ℕ) (vs : List A) → i + length vs ≤ n → take n (sets l i vs) ≡ sets (take n l) i vs
  take_sets_lt n l i [] h = refl
  take_sets_lt n l i (a ∷ vs) h =
      take_sets_lt n (set l i a) (suc i) vs (omega arith) ∙ ap (λ r. sets r (suc i) vs) (take-set-lt n l i a (omega arith))

  -- the n elements from k on are those before the store, where it lies before or after them
  pub part_before : (k n : ℕ) (l : List A) (i : ℕ) (vs : List A) → i + length vs ≤ k → take n (drop k (sets l i vs)) ≡ take n (drop k l)
  part_before k n l i vs h = ap (take n) (drop_sets_ge k l i vs h)

  pub part_after : (k n : ℕ) (l : List A) (i : ℕ) (vs : List A) → k + n ≤ i → take n (drop k (sets l i vs)) ≡ take n (drop k l)
  part_after k n l i vs h =
      ap (λ j. take n (drop k (sets l j vs))) (omega arith) ∙ ap (take n) (drop_sets_add k l (i - k) vs) ∙ take_sets_le n (drop k l) (i - k) vs (omega arith)

  -- and hold the store where it lies in them
  pub part_in_lem : (k n : ℕ) (l : List A) (i : ℕ) (vs : List A) → k ≤ i → i + length vs ≤ k + n → take n (drop k (sets l i vs)) ≡ sets (take n (drop k l)) (i - k) vs
  part_in_lem k n l i vs h h' =
      ap (λ j. take n (drop k (sets l j vs))) (omega arith) ∙ ap (take n) (drop_sets_add k l (i - k) vs) ∙ take_sets_lt n (drop k l) (i - k) vs (omega arith)

-- ---- a write, the RAM of its process, and that of another

pub length_store : (x : Write) (m : List ℕ) → length (store x m) ≡ length m
unfolding store
length_store x m = length-sets m (x.address - memory_base) x.bytes

pub store_nothing : (x : Write) (m : List ℕ) → x.bytes ≡ [] → store x m ≡ m
unfolding store
store_nothing x m e = rw e

pub store_other : (a b : Areas) (x : Write) (m : List ℕ) → Placed a → Placed b → Apart a b → Inside b x → ram_of a (store x m) ≡ ram_of a m
unfolding store ram_of
store_other a b x m pa pb s (nowhere e) = rw e
store_other a b x m pa pb (before p) (inside i j) =
    let s = pa.base in
    let s' = pb.base in
    let n = pa.some in
    part_after (a.ram_start - memory_base) (a.ram_end - a.ram_start) m (x.address - memory_base) x.bytes (omega arith)
store_other a b x m pa pb (behind p) (inside i j) =
    let s = pa.base in
    let s' = pb.base in
    let n = pa.some in
    part_before (a.ram_start - memory_base) (a.ram_end - a.ram_start) m (x.address - memory_base) x.bytes (omega arith)

-- the write, as a store to the process's own RAM
unfoldable pub store_ram : Areas → Write → List ℕ → List ℕ
store_ram a x ram = sets ram (x.address - a.ram_start) x.bytes

pub store_own : (a : Areas) (x : Write) (m : List ℕ) → Placed a → Inside a x → ram_of a (store x m) ≡ store_ram a x (ram_of a m)
unfolding store ram_of store_ram
store_own a x m p (nowhere e) = rw e
store_own a x m p (inside i j) =
    let s = p.base in
    let n = p.some in
    part_in_lem (a.ram_start - memory_base) (a.ram_end - a.ram_start) m (x.address - memory_base) x.bytes (omega arith) (omega arith)
    ∙ ap (λ k. sets (take (a.ram_end - a.ram_start) (drop (a.ram_start - memory_base) m)) k x.bytes) (omega arith)

-- off the board nothing is written
pub off_board : (x : Write) → Inside no_areas x → x.bytes ≡ []
off_board x (nowhere e) = e
off_board x (inside i j) = go x.bytes j
  where
    go : (l : List ℕ) → x.address + length l ≤ 0 → l ≡ []
    go [] h = refl
    go (n ∷ l) h = absurd (omega arith)
