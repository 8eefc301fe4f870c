-- A call is accepted exactly if its conditions hold. What a running process's call comes to is decided by tests, one after the other; each
-- test tells a condition, and every way through them but one ends in an answer that is no success. So success comes exactly if the
-- conditions along that way hold. The way goes through the place of the driver's number, which on a good board is the driver's place.
use Prim.Native.Nat.{ℕ, suc, ◌+◌, ◌-◌, ◌^◌, ◌≤◌, ◌<◌}
use Rattle.std.specs.Prelude.{◌≡◌, ◌↔◌, ◌≢◌, ◌⊎◌, Bool, ◌||◌, not, List, [], ◌∷◌, leb, ltb, eqb}
use Rattle.std.proofs.Math.Path.{refl}
use Rattle.std.proofs.Common.{ap, ◌∙◌, subst, inl, inr, arith, ltb-true, ltb-false}
use Rattle.std.proofs.Math.Logic.Iff as Iff
use Rattle.std.proofs.Math.Logic.{and-true}
use Rattle.std.proofs.Math.Bool.{true, false}
use Rattle.std.proofs.lemmas.Bool.{lt-leb}
use Rattle.definition.specs.Tests.{provided◌then◌else◌}
use Rattle.definition.specs.Limits.{buffer_slots}
use Rattle.definition.specs.Board.{Kind, subscribe, read_write, read_only, driver_at, slots_of, is_shared, has_slot, permits, reach}
use Rattle.definition.specs.State.{Pair, Upcall, held, Claim}
use Rattle.definition.specs.Answer.{Answer, waits, nothing, success, success_with1, success_with2, failure, RESERVE, NOSUPPORT, NODEVICE, is_accepted}
use Rattle.definition.specs.Call.{Decoded, known, aside, exit_terminate, exit_restart, decode, decode_yield, decode_memop, decode_exit, class_of}
use Rattle.definition.specs.Area.{break_clears}
use Rattle.definition.specs.Decide.{Outcome, reaching, not_installed, decide_exchange_at, decide_exchange, decide_command_at, decide_command, decide_break, decide_break_by, bound_of, decide_known, decide_call, decide_accepted, decide}
use Rattle.definition.specs.World.{World, deliver, owns, command_answer, answer_of, view_of, perform, step}
use Rattle.definition.specs.WellFormed.{good_state}
use Rattle.laws.specs.Facts.{clash, either}
use Rattle.laws.specs.Places.{reached_if}
use Rattle.promises.specs.Accepted.{areas_in, process_in, claim_in, buffer_in, answer_to, IsRunning, Permitted, MayHold, Exchanges, Commands, SharedCommands, BreakMoves, MovedBy}
use Rattle.promises.specs.Promises.{Acceptance}
use Rattle.promises.specs.Told.{Tells, le_told, lt_told, eq_told, not_told, and_told, or_told, all_told, none_told, every_told, if_told, unless_told, if_holds, unless_holds}
use Rattle.promises.specs.Conditions.{accepts_told, clears_told, running_told, answer_by, call_answer, place_to, one_place, at_place, MayMove, moves_of, may_move_lem, moved_up, moved_down}
use Rattle.promises.specs.Decodes.{above, decode_bound, decode_command, decode_exchange, decode_yield_lem, other_class_lem, other_memop_lem}

-- ---- successes

-- S holds of successes only
abbrev Successes : (Answer → Type 0) → Type 0
Successes S = (x : Answer) → S x → is_accepted x ≡ true

fails : (S : Answer → Type 0) → Successes S → (x : Answer) → is_accepted x ≡ false → ¬ S x
fails S only x e s = clash (only x s) e

-- to be accepted, and to be one answer
abbrev IsAccepted : Answer → Type 0
IsAccepted x = is_accepted x ≡ true

any_success : Successes IsAccepted
any_success x s = s

abbrev Is : Answer → Answer → Type 0
Is x y = y ≡ x

is_success : (x : Answer) → is_accepted x ≡ true → Successes (Is x)
is_success x e y q = ap is_accepted q ∙ e

not_installed_lem : (kind : Kind) (x : Pair) → is_accepted (not_installed kind x) ≡ false
not_installed_lem subscribe x = refl
not_installed_lem read_write x = refl
not_installed_lem read_only x = refl

delivery_none : (x : Answer) (q : List Upcall) → is_accepted x ≡ false → is_accepted (deliver x q) ≡ false
delivery_none x [] e = e
delivery_none x (u ∷ q) e = refl

-- ---- each call, for any S that holds of successes only

module _ (w : World) (good : good_state w.state ≡ true) (p : ℕ) (S : Answer → Type 0) (only : Successes S) where
  By : Outcome → Type 0
  By o = S (answer_by w p o)

  -- the process is running, and what is decided then succeeds
  call_told : {Q : Type 0} (class r0 r1 r2 r3 : ℕ) (d : Decoded) → decode class r0 r1 r2 r3 ≡ d → S (answer_by w p (decide_call (view_of w p) (process_in w p) d)) ↔ Q
      → S (answer_to w p class r0 r1 r2 r3) ↔ (IsRunning w p × Q)
  unfolding By step perform decide decide_accepted answer_of
  call_told class r0 r1 r2 r3 d e g =
      if_told By _ _ _ (Iff.trans (eq_told _ 0) (running_told w p class r0 r1 r2 r3)) (rw e g) (fails S only _ refl)

  -- that the driver is reached stands first
  permitted_told : (driver : ℕ) (x : Answer) (f : ℕ → Outcome) (Q : ℕ → Type 0) → is_accepted x ≡ false → S (answer_by w p (f (place_to w driver))) ↔ Q (place_to w driver)
      → S (answer_by w p (reaching (reach w.state.board (areas_in w p) driver) x f)) ↔ ((k : ℕ) × Permitted w p driver k × Q k)
  unfolding By permits answer_of
  permitted_told driver x f Q e g = rw (reached_if w.state.board (areas_in w p) driver x f)
      (Iff.trans (if_told By _ _ _ (and_told _ _ (lt_told _ _) (eq_told _ 1)) g (fails S only x e)) (at_place w good p driver Q))

  exchange_told : (kind : Kind) (driver j x y : ℕ) → S (success_with2 (held kind (process_in w p) (place_to w driver) j))
      → S (answer_to w p (class_of kind) driver j x y) ↔ (Exchanges kind w p driver j x y)
  unfolding By decide_call decide_known decide_exchange decide_exchange_at view_of has_slot answer_of
  exchange_told kind driver j x y s = Iff.trans (call_told _ _ _ _ _ _ (decode_exchange kind driver j x y) (permitted_told driver _ _ fits (not_installed_lem kind _)
      (unless_told By _ _ _ (lt_told _ _) (fails S only _ refl) (unless_holds By _ _ _ (accepts_told kind _ _ x y) (fails S only _ refl) s))))
      (λ h. record { caller = h.0; place = h.1.0; permitted = h.1.1; slot = h.1.2.0; value = h.1.2.1 }, λ e. (e.caller, (e.place, e.permitted, (e.slot, e.value))))
    where
      fits : ℕ → Type 0
      fits k = (j < slots_of kind (driver_at w.state.board k)) × MayHold kind (areas_in w p) (process_in w p).break x y

  -- command 0
  exists_told : (driver x y : ℕ) → S success → S (answer_to w p 2 driver 0 x y) ↔ (Commands w p driver)
  unfolding decode decide_call decide_known decide_command decide_command_at view_of answer_of provided◌then◌else◌
  exists_told driver x y s = Iff.trans (call_told 2 driver 0 x y _ refl (permitted_told driver _ _ (λ k. Unit {0}) refl (λ _. tt, λ _. s)))
      (λ h. record { caller = h.0; place = h.1.0; permitted = h.1.1 }, λ e. (e.caller, (e.place, e.permitted, tt)))

  -- commands 1 to 3
  shared_told : (driver number x y : ℕ) (Owner : ℕ → Type 0) → eqb number 0 ≡ false → leb number 3 ≡ true
      → S (command_answer p number (claim_in w (place_to w driver))) ↔ Owner (claim_in w (place_to w driver)).owner → S (answer_to w p 2 driver number x y) ↔ (SharedCommands w p driver Owner)
  unfolding By decode decide_call decide_known decide_command decide_command_at view_of is_shared answer_of provided◌then◌else◌
  shared_told driver number x y Owner e f g = Iff.trans (call_told 2 driver number x y _ refl (permitted_told driver _ _ owned refl
      (rw (e, f) (unless_told By _ _ _ (not_told _ (eq_told _ 0)) (fails S only _ refl) g))))
      (λ h. record { caller = h.0; place = h.1.0; permitted = h.1.1; shared = h.1.2.0; owner = h.1.2.1 }, λ e. (e.caller, (e.place, e.permitted, (e.shared, e.owner))))
    where
      owned : ℕ → Type 0
      owned k = ((driver_at w.state.board k).shared ≢ 0) × Owner (claim_in w k).owner

  claim_told : (driver x y : ℕ) → S success → S (answer_to w p 2 driver 1 x y) ↔ (SharedCommands w p driver (λ owner. (owner ≡ 0) ⊎ (owner ≡ suc p)))
  unfolding command_answer provided◌then◌else◌
  claim_told driver x y s = shared_told driver 1 x y _ refl refl (if_holds S _ _ _ (or_told _ _ (eq_told _ 0) (eq_told _ (suc p))) s (fails S only _ refl))

  -- commands 2 and 3 answer x to the owner
  owner_told : (x : Answer) (c : Claim) → S x → S (provided not (owns p c) then failure RESERVE else x) ↔ (c.owner ≡ suc p)
  owner_told x c s = unless_holds S _ _ _ (eq_told _ (suc p)) (fails S only _ refl) s

  release_told : (driver x y : ℕ) → S success → S (answer_to w p 2 driver 2 x y) ↔ (SharedCommands w p driver (λ owner. owner ≡ suc p))
  unfolding command_answer provided◌then◌else◌
  release_told driver x y s = shared_told driver 2 x y _ refl refl (owner_told _ (claim_in w (place_to w driver)) s)

  read_told : (driver x y : ℕ) → S (success_with1 (claim_in w (place_to w driver)).latch) → S (answer_to w p 2 driver 3 x y) ↔ (SharedCommands w p driver (λ owner. owner ≡ suc p))
  unfolding command_answer provided◌then◌else◌
  read_told driver x y s = shared_told driver 3 x y _ refl refl (owner_told _ (claim_in w (place_to w driver)) s)

  break_told : {E : Type 0} (answer : Answer) (new : ℕ) (exact : Bool) → S answer → Tells exact E
      → S (answer_by w p (decide_break (view_of w p) (process_in w p) answer new exact)) ↔ (E × MayMove w p new)
  unfolding By decide_break view_of break_clears answer_of
  break_told answer new exact s f = if_holds By _ _ _
      (all_told _ _ f (all_told _ _ (le_told _ _) (all_told _ _ (le_told _ _) (all_told _ _ (every_told buffer_slots _ _ (λ i. clears_told _ _ new (buffer_in w p i))) none_told))))
      s (fails S only _ refl)

  break_to_told : (new x y : ℕ) → S success → S (answer_to w p 5 0 new x y) ↔ (BreakMoves w p new)
  unfolding decode decode_memop decide_call decide_known provided◌then◌else◌
  break_to_told new x y s = Iff.trans (call_told 5 0 new x y _ refl (break_told success new true s (λ _. tt {0}, λ _. refl)))
      (λ h. moves_of h.0 h.1.1, λ b. (b.caller, (tt, may_move_lem b)))

  -- where new is the one place that the change can move the break to, and exact tells whether there is one
  moved_told : (change new : ℕ) (exact : Bool) (E : Type 0) → Tells exact E → (E → MovedBy (process_in w p).break change new)
      → ((n : ℕ) → MovedBy (process_in w p).break change n → E × (n ≡ new)) → S (success_with1 (process_in w p).break)
      → S (answer_by w p (decide_break (view_of w p) (process_in w p) (success_with1 (process_in w p).break) new exact))
      ↔ ((n : ℕ) × MovedBy (process_in w p).break change n × MayMove w p n)
  moved_told change new exact E f there one s = Iff.trans (break_told _ new exact s f)
      (λ h. (new, there h.0, h.1), λ h. let (e, q) = one h.0 h.1 in (e, subst (MayMove w p) q h.2))

  break_by_told : (change x y : ℕ) → change < 2 ^ 32 → S (success_with1 (process_in w p).break)
      → S (answer_to w p 5 1 change x y) ↔ ((new : ℕ) × MovedBy (process_in w p).break change new × BreakMoves w p new)
  unfolding decode decode_memop decide_call decide_known decide_break_by provided◌then◌else◌
  break_by_told change x y small s = Iff.trans (call_told 5 1 change x y _ refl (go (ltb change (2 ^ 31)) refl))
      (λ h. (h.1.0, h.1.1, moves_of h.0 h.1.2), λ h. (h.2.caller, (h.0, h.1, may_move_lem h.2)))
    where
      old : ℕ
      old = (process_in w p).break

      go : (t : Bool) → ltb change (2 ^ 31) ≡ t → S (answer_by w p (provided t then decide_break (view_of w p) (process_in w p) (success_with1 old) (old + change) true
          else decide_break (view_of w p) (process_in w p) (success_with1 old) (old - (2 ^ 32 - change)) (leb (2 ^ 32 - change) old)))
          ↔ ((new : ℕ) × MovedBy old change new × MayMove w p new)
      go true e = moved_told change _ _ (Unit {0}) (λ _. tt, λ _. refl) (λ _. inl (ltb-true _ _ e, refl)) (λ n m. (tt, moved_up old change n (ltb-true _ _ e) m)) s
      go false e = moved_told change _ _ _ (le_told (2 ^ 32 - change) old) (λ h. inr (ltb-false _ _ e, omega arith)) (λ n m. moved_down old change n (ltb-false _ _ e) small m) s

  bound_told : (operation x y z : ℕ) → 2 ≤ operation → operation ≤ 6 → S (success_with1 (bound_of (areas_in w p) operation)) → S (answer_to w p 5 operation x y z) ↔ (IsRunning w p)
  unfolding decide_call decide_known view_of answer_of
  bound_told n x y z h g s = Iff.trans (call_told 5 n x y z _ (decode_bound n x y z h g) (λ _. tt {0}, λ _. s)) and-true

-- ---- the exits, and the calls that are never accepted

module _ (w : World) (p : ℕ) where
  exit_accepts : (code : ℕ) (s t : Bool)
      → is_accepted (answer_by w p (decide_call (view_of w p) (process_in w p) (provided s then known (exit_terminate code) else provided t then known (exit_restart code) else aside (failure NOSUPPORT))))
      ≡ (s || t)
  unfolding decide_call decide_known answer_of provided◌then◌else◌
  exit_accepts code true t = refl
  exit_accepts code false true = refl
  exit_accepts code false false = refl

  -- what is decided is no success, so the call is not accepted, whether or not the process is running
  NotAccepted : Outcome → Type 0
  NotAccepted o = is_accepted (answer_by w p o) ≡ false

  none_call : (class r0 r1 r2 r3 : ℕ) (d : Decoded) → decode class r0 r1 r2 r3 ≡ d → is_accepted (answer_by w p (decide_call (view_of w p) (process_in w p) d)) ≡ false
      → is_accepted (answer_to w p class r0 r1 r2 r3) ≡ false
  unfolding NotAccepted step perform decide decide_accepted answer_of
  none_call class r0 r1 r2 r3 d e f = either NotAccepted _ _ _ (λ _. rw e f) λ _. refl

  -- registers that are set aside
  none_aside : (class r0 r1 r2 r3 : ℕ) → decode class r0 r1 r2 r3 ≡ aside (failure NOSUPPORT) → is_accepted (answer_to w p class r0 r1 r2 r3) ≡ false
  unfolding decide_call answer_of
  none_aside class r0 r1 r2 r3 e = none_call class r0 r1 r2 r3 _ e refl

  none_command : (driver number x y : ℕ) → 3 < number → is_accepted (answer_to w p 2 driver number x y) ≡ false
  unfolding NotAccepted decide_call decide_known decide_command decide_command_at view_of answer_of
  none_command driver n x y h = none_call 2 driver n x y _ (decode_command driver n x y)
      (rw (reached_if w.state.board (areas_in w p) driver (failure NODEVICE) (decide_command_at (view_of w p) n x y)) (either NotAccepted _ _ _ (λ _. either NotAccepted _ _ _ (λ e. clash e (above n 0 (omega arith))) λ _.
      either NotAccepted _ _ _ (λ _. refl) λ _. either NotAccepted _ _ _ (λ e. clash e (lt-leb n 3 h)) λ _. refl) λ _. refl))

  none_yield : (number address x y : ℕ) → is_accepted (answer_to w p 0 number address x y) ≡ false
  unfolding decode_yield decide_call decide_known answer_of
  none_yield n address x y = none_call 0 n address x y _ (decode_yield_lem n address x y)
      (either Decodes _ _ _ (λ _. delivery_none nothing (process_in w p).queue refl) λ _. either Decodes _ _ _ (λ _. delivery_none waits (process_in w p).queue refl) λ _. refl)
    where
      Decodes : Decoded → Type 0
      Decodes d = is_accepted (answer_by w p (decide_call (view_of w p) (process_in w p) d)) ≡ false

-- ---- all calls

pub accepted_exactly : Acceptance
unfolding decode decode_exit decide_call decide_known answer_of provided◌then◌else◌
accepted_exactly w good p = record {
  exchange = λ kind driver j x y. exchange_told w good p _ any_success kind driver j x y refl;
  exchange_answer = λ kind driver j x y e. subst (λ k. answer_to w p (class_of kind) driver j x y ≡ success_with2 (held kind (process_in w p) k j)) (one_place w good e.permitted)
      ((exchange_told w good p _ (is_success (success_with2 _) refl) kind driver j x y refl).1 e);
  exists = λ driver x y. exists_told w good p _ any_success driver x y refl;
  exists_answer = λ driver x y. (exists_told w good p _ (is_success success refl) driver x y refl).1;
  claim = λ driver x y. claim_told w good p _ any_success driver x y refl;
  claim_answer = λ driver x y. (claim_told w good p _ (is_success success refl) driver x y refl).1;
  release = λ driver x y. release_told w good p _ any_success driver x y refl;
  release_answer = λ driver x y. (release_told w good p _ (is_success success refl) driver x y refl).1;
  read = λ driver x y. read_told w good p _ any_success driver x y refl;
  read_answer = λ driver x y c. subst (λ k. answer_to w p 2 driver 3 x y ≡ success_with1 (claim_in w k).latch) (one_place w good c.permitted)
      ((read_told w good p _ (is_success (success_with1 _) refl) driver x y refl).1 c);
  other_command = none_command w p;
  break_to = λ new x y. break_to_told w good p _ any_success new x y refl;
  break_to_answer = λ new x y. (break_to_told w good p _ (is_success success refl) new x y refl).1;
  break_by = λ change x y small. break_by_told w good p _ any_success change x y small refl;
  break_by_answer = λ change x y small. (break_by_told w good p _ (is_success (success_with1 _) refl) change x y small refl).1;
  bound = λ n x y z h g. bound_told w good p _ any_success n x y z h g refl;
  bound_answer = λ n x y z h g. (bound_told w good p _ (is_success (success_with1 _) refl) n x y z h g refl).1;
  other_memop = λ n x y z h. none_aside w p 5 n x y z (other_memop_lem n x y z h);
  exit = λ number code x y. call_told w good p IsAccepted any_success 6 number code x y _ refl
      (rw (exit_accepts w p code (eqb number 0) (eqb number 1)) (or_told _ _ (eq_told number 0) (eq_told number 1)));
  terminate_answer = λ code x y r. call_answer w p 6 0 code x y r;
  restart_answer = λ code x y r. call_answer w p 6 1 code x y r;
  yield = none_yield w p;
  other_class = λ class r0 r1 r2 r3 h. none_aside w p class r0 r1 r2 r3 (other_class_lem class r0 r1 r2 r3 h);
}
