-- A good state, as propositions: they are what the tests say.
use Prim.Native.Nat.{ℕ, zero, suc, ◌-◌, ◌<◌}
use Rattle.std.specs.Prelude.{◌≡◌, Bool, ◌&&◌, ◌||◌, get_or}
use Rattle.std.proofs.Math.Path.{refl, sym, ap}
use Rattle.std.proofs.Common.{◌∙◌, subst, arith}
use Rattle.std.proofs.Math.Bool.{true, false, not}
use mathlib.Core.List.{List, [], ◌∷◌}
use Rattle.std.proofs.Math.Decide.{dec_lt}
use Rattle.std.proofs.Math.ListN.{length, replicate, get_or-eq_default}
use Rattle.std.proofs.lemmas.List.{length-replicate}
use Rattle.std.proofs.Math.Seq.{ext_get_or}
use Rattle.std.proofs.Math.Dec.{eqb}
use borrow.Author.Tests.{leb-true, ltb-true, eqb-true, le-leb, lt-ltb, eq-eqb, ne_eqb, not-true}
use Rattle.definition.specs.Tests.{provided◌then◌else◌, Each, none, more, every_below}
use Rattle.definition.specs.Limits.{all_slots}
use Rattle.definition.specs.Board.{Board, Areas, no_areas, subscribe, areas_at, has_slot, is_shared, good_board}
use Rattle.definition.specs.State.{Pair, null, is_null, Upcall, no_upcall, Status, running, waiting, exited, is_exited, Process, no_process, held, cleared, Claim, free, State}
use Rattle.definition.specs.World.{process_at}
use Rattle.definition.specs.WellFormed.{good_slot, good_upcall, is_cleared, good_process, may_own, good_claim, good_state}
use Rattle.laws.specs.Facts.{clash, both, implied, implies, or_false, or_right, each_holds, all_hold, below_at, at_below, get_d_same}
use Rattle.laws.specs.Slots.{slot_null}
use Rattle.laws.specs.Fit.{Carried, Fits}
use Rattle.laws.specs.FitAfter.{cleared_fits}
use Rattle.laws.specs.Boards.{ground, off_areas}
use Rattle.laws.specs.Claims.{Owner, ClaimFits, ClaimsFit, free_fits}

pub record Good (s : State) : Type 0 where
  pub board : good_board s.board ≡ true
  pub count : length s.processes ≡ length s.board.processes
  pub each : (p : ℕ) → Fits s.board (areas_at s.board p) (process_at s p)
  pub claim_count : length s.claims ≡ length s.board.drivers
  pub claims : ClaimsFit s.board s.processes s.claims

-- ---- the tests of a process

module _ (b : Board) (process : Process) (u : Upcall) where
  carried_of : good_upcall b process u ≡ true → Carried b process.slots u
  unfolding good_upcall has_slot
  carried_of e =
      let h = each_holds _ e in
      let x = held subscribe process u.place u.slot in
      let first : u.pair.first ≡ x.first = eqb-true _ _ h.1.1.1.0 in
      let second : u.pair.second ≡ x.second = eqb-true _ _ h.1.1.1.1.0 in
      record { installed = ltb-true _ _ h.0; exists = ltb-true _ _ h.1.0; set = not-true _ h.1.1.0; holds = λ i. record { first = first i; second = second i } }

  of_carried : Carried b process.slots u → good_upcall b process u ≡ true
  unfolding good_upcall has_slot
  of_carried c =
      all_hold _ (
        lt-ltb _ _ c.installed,
        (
          lt-ltb _ _ c.exists,
          (
            ap not c.set,
            (
              eq-eqb _ _ (ap (λ (x : Pair). x.first) c.holds),
              (
                eq-eqb _ _ (ap (λ (x : Pair). x.second) c.holds),
                tt,
              ),
            ),
          ),
        ),
      )

-- a range of tests over a list, and its elements
module _ {A : Type 0} (f : A → Bool) (P : A → Type 0) (d : A) where
  each_of : ((x : A) → f x ≡ true → P x) → (l : List A) → every_below (length l) (λ i. f (get_or l i d)) ≡ true → Each P l
  each_of t [] e = none
  each_of t (x ∷ l) e =
      let at = below_at (suc (length l)) (λ i. f (get_or (x ∷ l) i d)) e in
      more (t x (at 0 (omega arith))) (each_of t l (at_below (length l) (λ i. f (get_or l i d)) (λ i h. at (suc i) (omega arith))))

  of_each : ((x : A) → P x → f x ≡ true) → (l : List A) → Each P l → every_below (length l) (λ i. f (get_or l i d)) ≡ true
  of_each t l ps = at_below (length l) (λ i. f (get_or l i d)) (at l ps)
    where
      at : (l : List A) → Each P l → (i : ℕ) → i < length l → f (get_or l i d) ≡ true
      at [] none i h = absurd (omega arith)
      at (x ∷ l) (more p ps) zero h = t x p
      at (x ∷ l) (more p ps) (suc i) h = at l ps i (omega arith)

exited_is : (s : Status) → is_exited s ≡ true → s ≡ exited
exited_is running e = clash e refl
exited_is waiting e = clash e refl
exited_is exited e = refl

null_is : (x : Pair) → is_null x ≡ true → x ≡ null
null_is x e =
    let (p, q) = both (eqb x.first 0) (eqb x.second 0) e in
    let first : x.first ≡ 0 = eqb-true _ _ p in
    let second : x.second ≡ 0 = eqb-true _ _ q in
    λ i. record { first = first i; second = second i }

empty_is : (q : List Upcall) → length q ≡ 0 → q ≡ []
empty_is [] e = refl
empty_is (u ∷ q) e = absurd (omega arith)

module _ (b : Board) (a : Areas) (process : Process) where
  -- an exited process is cleared
  cleared_is : length process.slots ≡ all_slots → is_cleared a process ≡ true → is_exited process.status ≡ true → process ≡ cleared a exited
  unfolding is_cleared cleared
  cleared_is size e x =
      let h = each_holds _ e in
      let break : process.break ≡ a.first_break = eqb-true _ _ h.0 in
      let status : process.status ≡ exited = exited_is process.status x in
      let queue : process.queue ≡ [] = empty_is process.queue (eqb-true _ _ h.1.1.0) in
      let slots : process.slots ≡ replicate all_slots null = ext_get_or null process.slots (replicate all_slots null) (size ∙ sym (length-replicate all_slots null))
      (λ i k. null_is _ (below_at all_slots (λ i. is_null (get_or process.slots i null)) h.1.0 i (omega arith)) ∙ sym (get_d_same all_slots i null)) in
      λ i. record { status = status i; break = break i; slots = slots i; queue = queue i }

  is_cleared_lem : process ≡ cleared a exited → is_cleared a process ≡ true
  unfolding is_cleared cleared
  is_cleared_lem e = rw e (all_hold _ (eq-eqb a.first_break a.first_break refl, (at_below all_slots (λ i. is_null (get_or (replicate all_slots null) i null)) (λ i _. ap is_null (get_d_same all_slots i null)), (refl, tt))))

  fits_of : good_process b a process ≡ true → Fits b a process
  unfolding good_process
  fits_of e =
      let h = each_holds _ e in
      let size : length process.slots ≡ all_slots = eqb-true _ _ h.1.1.0 in
      record {
        low = leb-true _ _ h.0;
        high = leb-true _ _ h.1.0;
        size = size;
        slots = λ i. elim (dec_lt i all_slots) [
          | yes lt ↦ below_at all_slots (λ i. good_slot b a process.break i (get_or process.slots i null)) h.1.1.1.0 i lt
          | no ge ↦ rw (get_or-eq_default process.slots null {n = i} (omega arith)) (slot_null b a process.break i null refl)
        ];
        room = leb-true _ _ h.1.1.1.1.0;
        queued = each_of (good_upcall b process) (Carried b process.slots) no_upcall (carried_of b process) process.queue h.1.1.1.1.1.0;
        clear = λ x. cleared_is size (implied (is_exited process.status) (is_cleared a process) h.1.1.1.1.1.1.0 x) x;
      }

  of_fits : Fits b a process → good_process b a process ≡ true
  unfolding good_process
  of_fits f =
      all_hold _ (
        le-leb _ _ f.low,
        (
          le-leb _ _ f.high,
          (
            eq-eqb _ _ f.size,
            (
              at_below all_slots (λ i. good_slot b a process.break i (get_or process.slots i null)) (λ i _. f.slots i),
              (
                le-leb _ _ f.room,
                (
                  of_each (good_upcall b process) (Carried b process.slots) no_upcall (of_carried b process) process.queue f.queued,
                  (
                    implies (is_exited process.status) (is_cleared a process) (λ e. is_cleared_lem (f.clear e)),
                    tt,
                  ),
                ),
              ),
            ),
          ),
        ),
      )

-- ---- the tests of a claim

module _ (s : State) (k : ℕ) (c : Claim) where
  owner_of : (p : ℕ) → may_own s k p ≡ true → Owner s.board s.processes k p
  unfolding may_own
  owner_of p e = let h = each_holds _ e in record { known = ltb-true _ _ h.0; permitted = h.1.0; awake = not-true _ h.1.1.0 }

  of_owner : (p : ℕ) → Owner s.board s.processes k p → may_own s k p ≡ true
  unfolding may_own
  of_owner p o = all_hold _ (lt-ltb _ _ o.known, (o.permitted, (ap not o.awake, tt)))

  claim_of_lem : good_claim s k c ≡ true → ClaimFits s.board s.processes k c
  unfolding good_claim provided◌then◌else◌
  claim_of_lem e = go (is_shared s.board k) refl e
    where
      go : (t : Bool) → is_shared s.board k ≡ t → (provided t then eqb c.owner 0 || may_own s k (c.owner - 1) else eqb c.owner 0 && eqb c.latch 0) ≡ true
          → ClaimFits s.board s.processes k c
      go true h q = record {
        unshared = λ u. clash h u;
        owned = λ p o. owner_of p (subst (λ n. may_own s k n ≡ true) (omega arith) (or_false (eqb c.owner 0) (may_own s k (c.owner - 1)) q (ne_eqb c.owner 0 (λ z. omega arith))));
      }
      go false h q =
          let (p1, p2) = both (eqb c.owner 0) (eqb c.latch 0) q in
          let owner : c.owner ≡ 0 = eqb-true _ _ p1 in
          let latch : c.latch ≡ 0 = eqb-true _ _ p2 in
          record { unshared = λ _ i. record { owner = owner i; latch = latch i }; owned = λ p o. absurd (omega arith) }

  of_claim : ClaimFits s.board s.processes k c → good_claim s k c ≡ true
  unfolding good_claim provided◌then◌else◌
  of_claim f = go (is_shared s.board k) refl
    where
      shared : (n : ℕ) → c.owner ≡ n → (eqb c.owner 0 || may_own s k (c.owner - 1)) ≡ true
      shared zero e = rw e
      shared (suc n) e = or_right (eqb c.owner 0) (may_own s k (c.owner - 1)) (subst (λ m. may_own s k m ≡ true) (omega arith) (of_owner n (f.owned n e)))

      go : (t : Bool) → is_shared s.board k ≡ t → (provided t then eqb c.owner 0 || may_own s k (c.owner - 1) else eqb c.owner 0 && eqb c.latch 0) ≡ true
      go true h = shared c.owner refl
      go false h = rw (f.unshared h)

-- ---- the tests of a state

module _ (s : State) where
  pub good_of : good_state s ≡ true → Good s
  unfolding good_state
  good_of e =
      let h = each_holds _ e in
      let count : length s.processes ≡ length s.board.processes = eqb-true _ _ h.1.0 in
      let claim_count : length s.claims ≡ length s.board.drivers = eqb-true _ _ h.1.1.0 in
      record {
        board = h.0;
        count = count;
        each = λ p. elim (dec_lt p (length s.board.processes)) [
          | yes lt ↦ fits_of s.board (areas_at s.board p) (process_at s p) (below_at (length s.board.processes) (λ p. good_process s.board (areas_at s.board p) (process_at s p)) h.1.1.1.0 p lt)
          | no ge ↦ rw (get_or-eq_default s.processes no_process {n = p} (omega arith), off_areas s.board p (omega arith))
              (cleared_fits s.board no_areas running (rw (off_areas s.board p (omega arith)) at (ground s.board h.0 p)) (λ q. clash q refl))
        ];
        claim_count = claim_count;
        claims = λ k. elim (dec_lt k (length s.board.drivers)) [
          | yes lt ↦ claim_of_lem s k (get_or s.claims k free) (below_at (length s.board.drivers) (λ k. good_claim s k (get_or s.claims k free)) h.1.1.1.1.0 k lt)
          | no ge ↦ rw (get_or-eq_default s.claims free {n = k} (omega arith)) (free_fits s.board s.processes k)
        ];
      }

  pub of_good : Good s → good_state s ≡ true
  unfolding good_state
  of_good g =
      all_hold _ (
        g.board,
        (
          eq-eqb _ _ g.count,
          (
            eq-eqb _ _ g.claim_count,
            (
              at_below (length s.board.processes) (λ p. good_process s.board (areas_at s.board p) (process_at s p)) (λ p _. of_fits s.board (areas_at s.board p) (process_at s p) (g.each p)),
              (
                at_below (length s.board.drivers) (λ k. good_claim s k (get_or s.claims k free)) (λ k _. of_claim s k (get_or s.claims k free) (g.claims k)),
                tt,
              ),
            ),
          ),
        ),
      )
