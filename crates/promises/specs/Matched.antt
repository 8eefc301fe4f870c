-- Outcomes on a board where a driver is denied to a process, and on the board without that driver, that come to the same: what they do keeps the two records
-- beside each other, gives the same bytes to the process's RAM, and the same answer where the process is told it.
use Rattle.std.specs.Prelude.{ℕ, suc, ◌<◌, ◌≡◌, ◌≢◌, Bool, ◌&&◌, length, get_or, set}
use Rattle.std.proofs.Math.Path.{refl, sym, ap}
use Rattle.std.proofs.Common.{◌∙◌, arith, get_or-set_same, eqb-true, eq-eqb, ne_eqb}
use Rattle.std.proofs.Math.Bool.{true, false}
use mathlib.Core.List.{List, [], ◌∷◌, ◌++◌, tail, map}
use Rattle.std.proofs.Math.Decide.{ℕ_discrete}
use Rattle.std.proofs.Math.Seq.{get_or-set_other}
use Rattle.std.proofs.Math.Dec.{eqb}
use Rattle.std.proofs.lemmas.Bool.{eqb-false}
use Rattle.definition.specs.Tests.{provided◌then◌else◌, Each, none, more, contains}
use Rattle.definition.specs.Limits.{max_drivers, max_slots, all_slots}
use Rattle.definition.specs.Board.{Areas, Kind, subscribe, read_write, read_only}
use Rattle.definition.specs.State.{Pair, null, Upcall, Status, running, waiting, Process, slot_at, cleared, Claim}
use Rattle.definition.specs.Answer.{Answer, nothing, waits, success_with2}
use Rattle.definition.specs.Decide.{Outcome, answers, exchanges, polls, awaits, moves, leaves, queues, writes}
use Rattle.definition.specs.World.{cancel, deliver, is_empty, after_exchange, answer_of, process_after, no_write, write_of}
use Rattle.definition.specs.Without.{areas_without}
use Rattle.laws.specs.Facts.{either, get_d_same, map_tail, map_snoc}
use Rattle.laws.specs.Slots.{slot_bound, slot_one}
use Rattle.laws.specs.Fit.{each_tail, each_snoc}
use Rattle.laws.specs.Stores.{store_ram}
use Rattle.promises.specs.TakenOut.{down, down_one, down_below}
use Rattle.promises.specs.Beside.{lowered, Beside}

-- ---- outcomes that come to the same; what the process is told itself, where it is told

pub data Match (k : ℕ) : Bool → Outcome → Outcome → Type 0 where
  answer : {t : Bool} (x : Answer) → Match k t (answers x) (answers x)
  unheard : (x y : Answer) → Match k false (answers x) (answers y)
  swap : {t : Bool} (kind : Kind) (i j : ℕ) (x : Pair) → i ≢ k → i < max_drivers → j < max_slots → Match k t (exchanges kind i j x) (exchanges kind (down k i) j x)
  poll : {t : Bool} (address : ℕ) → Match k t (polls address) (polls address)
  await : {t : Bool} → Match k t awaits awaits
  move : {t : Bool} (new : ℕ) (x : Answer) → Match k t (moves new x) (moves new x)
  leave : {t : Bool} (s : Status) (x : Answer) → Match k t (leaves s x) (leaves s x)
  queue : {t : Bool} (u : Upcall) → u.place ≢ k → Match k t (queues u) (queues (lowered k u))
  write : {t : Bool} (address : ℕ) (bytes : List ℕ) → Match k t (writes address bytes) (writes address bytes)
  -- a deposit of no byte for the driver that is denied, which is refused where there is no such driver
  unwritten : (address : ℕ) (x : Answer) → Match k false (writes address []) (answers x)

-- ---- queues

deliver_low : (k : ℕ) (x : Answer) (q : List Upcall) → deliver x q ≡ deliver x (map (lowered k) q)
deliver_low k x [] = refl
deliver_low k x (u ∷ q) = refl

empty_low : (k : ℕ) (q : List Upcall) → is_empty q ≡ is_empty (map (lowered k) q)
empty_low k [] = refl
empty_low k (u ∷ q) = refl

module _ (k i j : ℕ) (ne : i ≢ k) where
  same_place : (n : ℕ) → n ≢ k → eqb (down k n) (down k i) ≡ eqb n i
  same_place n e = go (eqb n i) refl
    where
      go : (t : Bool) → eqb n i ≡ t → eqb (down k n) (down k i) ≡ t
      go true q = eq-eqb _ _ (ap (down k) (eqb-true n i q))
      go false q = ne_eqb _ _ (λ z. eqb-false n i q (down_one k n i e ne z))

  cancel_low : (q : List Upcall) → Each (λ u. u.place ≢ k) q → cancel (down k i) j (map (lowered k) q) ≡ map (lowered k) (cancel i j q)
  unfolding cancel provided◌then◌else◌
  cancel_low [] none = refl
  cancel_low (u ∷ q) (more e es) = rw (same_place u.place e) (go (eqb u.place i && eqb u.slot j) (cancel_low q es))
    where
      go : (t : Bool) → cancel (down k i) j (map (lowered k) q) ≡ map (lowered k) (cancel i j q)
          → (provided t then cancel (down k i) j (map (lowered k) q) else lowered k u ∷ cancel (down k i) j (map (lowered k) q)) ≡ map (lowered k) (provided t then cancel i j q else u ∷ cancel i j q)
      go true h = h
      go false h = ap (λ r. lowered k u ∷ r) h

cancel_each : {P : Upcall → Type 0} (i j : ℕ) {q : List Upcall} → Each P q → Each P (cancel i j q)
unfolding cancel
cancel_each i j none = none
cancel_each {P} i j (more {x = u} p ps) = either (Each P) (eqb u.place i && eqb u.slot j) _ _ (λ _. cancel_each i j ps) λ _. more p (cancel_each i j ps)

-- ---- what matching outcomes do

-- two processes that are cleared
pub cleared_beside : (k : ℕ) (a : Areas) (s : Status) → Beside k (cleared a s) (cleared (areas_without k a) s)
unfolding cleared
cleared_beside k a s = record {
  status = refl;
  break = refl;
  slots = λ kind i j _ _ _. get_d_same all_slots (slot_at kind i j) null ∙ sym (get_d_same all_slots (slot_at kind (down k i) j) null);
  nothing = λ kind j _. get_d_same all_slots (slot_at kind k j) null;
  last = λ kind i j _ _. get_d_same all_slots (slot_at kind i j) null;
  queue = refl;
  apart = none;
}

module _ (k : ℕ) (hk : k < max_drivers) (a : Areas) (process process' : Process) (size : length process.slots ≡ all_slots) (size' : length process'.slots ≡ all_slots) (r : Beside k process process') where
  module _ (kind : Kind) (i j : ℕ) (x : Pair) (ne : i ≢ k) (hi : i < max_drivers) (hj : j < max_slots) where
    low : suc (down k i) < max_drivers
    low = down_below k i max_drivers hk hi ne

    swap_slots : (kind' : Kind) (i' j' : ℕ) → i' < max_drivers → j' < max_slots → i' ≢ k
        → get_or (set process.slots (slot_at kind i j) x) (slot_at kind' i' j') null ≡ get_or (set process'.slots (slot_at kind (down k i) j) x) (slot_at kind' (down k i') j') null
    swap_slots kind' i' j' hi' hj' ne' = elim (ℕ_discrete (slot_at kind' i' j') (slot_at kind i j)) [
      | yes e ↦
          let s = slot_one kind' kind i' j' i j hi' hj' hi hj e in
          let e' : slot_at kind' (down k i') j' ≡ slot_at kind (down k i) j = cc (s.kinds, s.places, s.numbers) in
          ap (λ n. get_or (set process.slots (slot_at kind i j) x) n null) e ∙ get_or-set_same process.slots (slot_at kind i j) x null (omega (arith, slot_bound kind i j hi hj))
          ∙ sym (get_or-set_same process'.slots (slot_at kind (down k i) j) x null (omega (arith, slot_bound kind (down k i) j (omega (arith, low)) hj)))
          ∙ sym (ap (λ n. get_or (set process'.slots (slot_at kind (down k i) j) x) n null) e')
      | no d ↦
          let d' : slot_at kind' (down k i') j' ≢ slot_at kind (down k i) j = λ q.
          let low' = down_below k i' max_drivers hk hi' ne' in
          let s = slot_one kind' kind (down k i') j' (down k i) j (omega arith) hj' (omega (arith, low)) hj q in
          let place : i' ≡ i = down_one k i' i ne' ne s.places in
          d (cc (s.kinds, place, s.numbers)) in
          get_or-set_other process.slots (slot_at kind i j) (slot_at kind' i' j') x null d ∙ r.slots kind' i' j' hi' hj' ne'
          ∙ sym (get_or-set_other process'.slots (slot_at kind (down k i) j) (slot_at kind' (down k i') j') x null d')
    ]

    swap_queue : after_exchange kind (down k i) j process'.queue ≡ map (lowered k) (after_exchange kind i j process.queue)
    swap_queue = go kind
      where
        go : (kind : Kind) → after_exchange kind (down k i) j process'.queue ≡ map (lowered k) (after_exchange kind i j process.queue)
        go subscribe = ap (cancel (down k i) j) r.queue ∙ cancel_low k i j ne process.queue r.apart
        go read_write = r.queue
        go read_only = r.queue

    swap_apart : Each (λ u. u.place ≢ k) (after_exchange kind i j process.queue)
    swap_apart = go kind
      where
        go : (kind : Kind) → Each (λ u. u.place ≢ k) (after_exchange kind i j process.queue)
        go subscribe = cancel_each i j r.apart
        go read_write = r.apart
        go read_only = r.apart

  pub after_match : {t : Bool} {o o' : Outcome} → Match k t o o' → Beside k (process_after a process o) (process_after (areas_without k a) process' o')
  unfolding process_after
  after_match (answer x) = r
  after_match (unheard x y) = r
  after_match (swap kind i j x ne hi hj) = record {
    status = r.status;
    break = r.break;
    slots = swap_slots kind i j x ne hi hj;
    nothing = λ kind' j' hj'. get_or-set_other process.slots (slot_at kind i j) (slot_at kind' k j') x null (λ q. ne (sym (slot_one kind' kind k j' i j hk hj' hi hj q).places)) ∙ r.nothing kind' j' hj';
    last = λ kind' i' j' e hj'. get_or-set_other process'.slots (slot_at kind (down k i) j) (slot_at kind' i' j') x null
        (λ q. let l = low kind i j x ne hi hj in let s = slot_one kind' kind i' j' (down k i) j (omega arith) hj' (omega arith) hj q in absurd (omega (arith, s.places))) ∙ r.last kind' i' j' e hj';
    queue = swap_queue kind i j x ne hi hj;
    apart = swap_apart kind i j x ne hi hj;
  }
  after_match (poll address) = record { status = r.status; break = r.break; slots = r.slots; nothing = r.nothing; last = r.last; queue = ap tail r.queue ∙ map_tail (lowered k) process.queue; apart = each_tail r.apart }
  after_match await = record {
    status = ap (λ t. provided t then waiting else running) (empty_low k process.queue ∙ ap is_empty (sym r.queue));
    break = r.break;
    slots = r.slots;
    nothing = r.nothing;
    last = r.last;
    queue = ap tail r.queue ∙ map_tail (lowered k) process.queue;
    apart = each_tail r.apart;
  }
  after_match (move new x) = record { status = r.status; break = refl; slots = r.slots; nothing = r.nothing; last = r.last; queue = r.queue; apart = r.apart }
  after_match (leave s x) = cleared_beside k a s
  after_match (queue u ne) = record { status = r.status; break = r.break; slots = r.slots; nothing = r.nothing; last = r.last; queue = ap (λ q. q ++ (lowered k u ∷ [])) r.queue ∙ sym (map_snoc (lowered k) process.queue u); apart = each_snoc r.apart ne }
  after_match (write address bytes) = r
  after_match (unwritten address x) = r

  pub answer_match : (p : ℕ) (claims claims' : List Claim) {o o' : Outcome} → Match k true o o' → answer_of p claims process o ≡ answer_of p claims' process' o'
  unfolding answer_of
  answer_match p claims claims' (answer x) = refl
  answer_match p claims claims' (swap kind i j x ne hi hj) = ap success_with2 (r.slots kind i j hi hj ne)
  answer_match p claims claims' (poll address) = deliver_low k nothing process.queue ∙ ap (deliver nothing) (sym r.queue)
  answer_match p claims claims' await = deliver_low k waits process.queue ∙ ap (deliver waits) (sym r.queue)
  answer_match p claims claims' (move new x) = refl
  answer_match p claims claims' (leave s x) = refl
  answer_match p claims claims' (queue u ne) = refl
  answer_match p claims claims' (write address bytes) = refl

  pub ram_match : (ram : List ℕ) {t : Bool} {o o' : Outcome} → Match k t o o' → store_ram a (write_of a process o) ram ≡ store_ram (areas_without k a) (write_of (areas_without k a) process' o') ram
  unfolding write_of store_ram
  ram_match ram (answer x) = refl
  ram_match ram (unheard x y) = refl
  ram_match ram (swap kind i j x ne hi hj) = refl
  ram_match ram (poll address) = λ i. store_ram a (provided contains a.ram_start (r.break i) address then record { address = address; bytes = (provided (empty_low k process.queue ∙ ap is_empty (sym r.queue)) i then 0 else 1) ∷ [] } else no_write) ram
  ram_match ram await = refl
  ram_match ram (move new x) = refl
  ram_match ram (leave s x) = refl
  ram_match ram (queue u ne) = refl
  ram_match ram (write address bytes) = refl
  ram_match ram (unwritten address x) = refl
