-- Every outcome keeps the claims good: an owner is a permitted process that has not exited, and an unshared driver has none and latch 0.
use Prim.Native.Nat.{ℕ, suc, ◌<◌}
use Rattle.std.specs.Prelude.{◌≡◌, Bool, ◌&&◌, List, map, length, get_or}
use Rattle.std.proofs.Math.Path.{refl, ap, subst}
use Rattle.std.proofs.Common.{sym, ◌∙◌, arith, length-set}
use Rattle.std.proofs.Math.Bool.{true, false}
use Rattle.std.proofs.Math.ListN.{set, get_or-map}
use Rattle.std.proofs.lemmas.List.{length-map}
use Rattle.std.proofs.Math.Dec.{eqb, eqb-zero-suc}
use borrow.Author.Tests.{eqb-false}
use Rattle.definition.specs.Tests.{provided◌then◌else◌}
use Rattle.definition.specs.Board.{Board, Areas, areas_at, is_shared, permits}
use Rattle.definition.specs.State.{running, waiting, is_exited, Process, no_process, Claim, free}
use Rattle.definition.specs.Decide.{Action, View, areas_of, Outcome, answers, exchanges, polls, awaits, moves, leaves, queues, writes, commands}
use Rattle.definition.specs.World.{is_empty, after_command, freed, with_owner, process_after, claims_after}
use Rattle.laws.specs.Facts.{clash, set_each}
use Rattle.laws.specs.Why.{Why, Because}

-- what may own the driver at place k
pub record Owner (b : Board) (processes : List Process) (k p : ℕ) : Type 0 where
  pub known : p < length b.processes
  pub permitted : permits (areas_at b p) k ≡ true
  pub awake : is_exited (get_or processes p no_process).status ≡ false

pub record ClaimFits (b : Board) (processes : List Process) (k : ℕ) (c : Claim) : Type 0 where
  pub unshared : is_shared b k ≡ false → c ≡ free
  pub owned : (p : ℕ) → c.owner ≡ suc p → Owner b processes k p

abbrev pub ClaimsFit : Board → List Process → List Claim → Type 0
ClaimsFit b processes claims = (k : ℕ) → ClaimFits b processes k (get_or claims k free)

-- whether an outcome ends the process
abbrev pub is_leave : Outcome → Bool
is_leave (answers x) = false
is_leave (exchanges kind k j x) = false
is_leave (polls address) = false
is_leave awaits = false
is_leave (moves new x) = false
is_leave (leaves s x) = true
is_leave (queues u) = false
is_leave (writes address bytes) = false
is_leave (commands k n x y) = false

-- one that does not leaves it awake
stays_awake : (a : Areas) (process : Process) (o : Outcome) → is_leave o ≡ false → is_exited process.status ≡ false → is_exited (process_after a process o).status ≡ false
unfolding process_after provided◌then◌else◌
stays_awake a process (answers x) f e = e
stays_awake a process (exchanges kind k j x) f e = e
stays_awake a process (polls address) f e = e
stays_awake a process awaits f e = go (is_empty process.queue)
  where
    go : (t : Bool) → is_exited (provided t then waiting else running) ≡ false
    go true = refl
    go false = refl
stays_awake a process (moves new x) f e = e
stays_awake a process (leaves s x) f e = clash refl f
stays_awake a process (queues u) f e = e
stays_awake a process (writes address bytes) f e = e
stays_awake a process (commands k n x y) f e = e

-- ---- one claim

module _ (b : Board) (processes : List Process) where
  owner_kept : (k p q : ℕ) (x : Process) → Owner b processes k q → (p ≡ q → is_exited x.status ≡ false) → Owner b (set processes p x) k q
  owner_kept k p q x o e = record {
    known = o.known;
    permitted = o.permitted;
    awake = set_each (λ r. is_exited r.status ≡ false) processes p q x no_process e o.awake;
  }

  pub free_fits : (k : ℕ) → ClaimFits b processes k free
  free_fits k = record { unshared = λ _. refl; owned = λ p o. absurd (omega arith) }

  -- with no owner, and the latch of the old one
  released : (k : ℕ) (c : Claim) → (is_shared b k ≡ false → c ≡ free) → ClaimFits b processes k (with_owner 0 c)
  released k c u = record { unshared = λ e. ap (with_owner 0) (u e); owned = λ q e. absurd (omega arith) }

  -- with the claims of process p given up, where no other owner is lost
  freed_fits : (k p : ℕ) (after : List Process) (c : Claim) → ((q : ℕ) → (p ≡ q → ⊥) → Owner b processes k q → Owner b after k q) → ClaimFits b processes k c → ClaimFits b after k (freed p c)
  unfolding freed provided◌then◌else◌
  freed_fits k p after c others g = go (eqb c.owner (suc p)) refl
    where
      go : (t : Bool) → eqb c.owner (suc p) ≡ t → ClaimFits b after k (provided t then with_owner 0 c else c)
      go true e = record { unshared = λ u. ap (with_owner 0) (g.unshared u); owned = λ q o. absurd (omega arith) }
      go false e = record { unshared = g.unshared; owned = λ q h. others q (λ pq. eqb-false _ _ e (h ∙ ap suc (sym pq))) (g.owned q h) }

  command_fits : (k p n : ℕ) (c : Claim) → is_shared b k ≡ true → Owner b processes k p → ClaimFits b processes k c → ClaimFits b processes k (after_command p n c)
  unfolding after_command provided◌then◌else◌
  command_fits k p n c sh o g = go (eqb n 1 && eqb c.owner 0) (eqb n 2 && eqb c.owner (suc p))
    where
      go : (t u : Bool) → ClaimFits b processes k (provided t then with_owner (suc p) c else provided u then with_owner 0 c else c)
      go true u = record { unshared = λ e. clash sh e; owned = λ q e. subst (λ r. Owner b processes k r) (omega arith) o }
      go false true = released k c g.unshared
      go false false = g

freed_free : (p : ℕ) → freed p free ≡ free
unfolding freed provided◌then◌else◌
freed_free p = rw (eqb-zero-suc p)

pub freed_at : (p : ℕ) (claims : List Claim) (k : ℕ) → get_or (map (freed p) claims) k free ≡ freed p (get_or claims k free)
freed_at p claims k = ap (get_or (map (freed p) claims) k) (sym (freed_free p)) ∙ get_or-map (freed p) claims k free

pub all_freed : (b : Board) (processes after : List Process) (claims : List Claim) (p : ℕ) → ((k q : ℕ) → (p ≡ q → ⊥) → Owner b processes k q → Owner b after k q) → ClaimsFit b processes claims
    → ClaimsFit b after (map (freed p) claims)
all_freed b processes after claims p others c k = rw (freed_at p claims k) (freed_fits b processes k p after (get_or claims k free) (others k) (c k))

-- ---- an outcome

module _ (v : View) (processes : List Process) (claims : List Claim) (c : ClaimsFit v.board processes claims) where
  process : Process
  process = get_or processes v.self no_process

  after : Outcome → List Process
  unfolding process
  after o = set processes v.self (process_after (areas_of v) process o)

  -- where the process goes on, the claims stay good
  kept : (o : Outcome) → is_leave o ≡ false → ClaimsFit v.board (after o) claims
  unfolding process after
  kept o f k = record {
    unshared = (c k).unshared;
    owned = λ q e. owner_kept v.board processes k v.self q (process_after (areas_of v) process o) ((c k).owned q e)
        (λ pq. stays_awake (areas_of v) process o f (subst (λ r. is_exited (get_or processes r no_process).status ≡ false) (sym pq) ((c k).owned q e).awake));
  }

  -- a process that leaves gives up its claims
  given_up : (x : Process) → ClaimsFit v.board (set processes v.self x) (map (freed v.self) claims)
  given_up x = all_freed v.board processes (set processes v.self x) claims v.self (λ k q ne o. owner_kept v.board processes k v.self q x o (λ pq. absurd (ne pq))) c

  -- a command changes the claim that it names
  commanded : (a : Action) (k n x y : ℕ) → Why v process a (commands k n x y) → ClaimsFit v.board (after (commands k n x y)) (set claims k (after_command v.self n (get_or claims k free)))
  unfolding Because process after
  commanded a k n x y w i =
      let live = w.live refl in
      let o : Owner v.board processes k v.self = record { known = live.known; permitted = w.because.permitted; awake = live.awake } in
      let o' = owner_kept v.board processes k v.self v.self (process_after (areas_of v) process (commands k n x y)) o (λ _. stays_awake (areas_of v) process (commands k n x y) refl live.awake) in
      set_each (ClaimFits v.board (after (commands k n x y)) i) claims k i (after_command v.self n (get_or claims k free)) free
      (λ e. subst (λ m. ClaimFits v.board (after (commands k n x y)) m (after_command v.self n (get_or claims k free))) e
      (command_fits v.board (after (commands k n x y)) k v.self n (get_or claims k free) w.because.shared o' (kept (commands k n x y) refl k)))
      (kept (commands k n x y) refl i)

  pub claims_fit_after : (a : Action) (o : Outcome) → Why v (get_or processes v.self no_process) a o
      → ClaimsFit v.board (set processes v.self (process_after (areas_of v) (get_or processes v.self no_process) o)) (claims_after v.self o claims)
  unfolding claims_after process after
  claims_fit_after a (answers x) w = kept (answers x) refl
  claims_fit_after a (exchanges kind k j x) w = kept (exchanges kind k j x) refl
  claims_fit_after a (polls address) w = kept (polls address) refl
  claims_fit_after a awaits w = kept awaits refl
  claims_fit_after a (moves new x) w = kept (moves new x) refl
  claims_fit_after a (leaves s x) w = given_up _
  claims_fit_after a (queues u) w = kept (queues u) refl
  claims_fit_after a (writes address bytes) w = kept (writes address bytes) refl
  claims_fit_after a (commands k n x y) w = commanded a k n x y w

pub claims_length : (p : ℕ) (o : Outcome) (claims : List Claim) → length (claims_after p o claims) ≡ length claims
unfolding claims_after
claims_length p (answers x) claims = refl
claims_length p (exchanges kind k j x) claims = refl
claims_length p (polls address) claims = refl
claims_length p awaits claims = refl
claims_length p (moves new x) claims = refl
claims_length p (leaves s x) claims = length-map claims (freed p)
claims_length p (queues u) claims = refl
claims_length p (writes address bytes) claims = refl
claims_length p (commands k n x y) claims = length-set claims k _
