-- A process's step is decided alike on a board where a driver is denied to it and on the board without that driver.
use Rattle.std.specs.Prelude.{ℕ, ◌+◌, ◌-◌, ◌^◌, ◌≤◌, ◌<◌, ◌≡◌, ◌≢◌, Bool, ◌&&◌, leb}
use Rattle.std.proofs.Math.Path.{refl, sym, ap, subst}
use Rattle.std.proofs.Common.{◌∙◌, arith}
use Rattle.std.proofs.Math.Bool.{true, false, not}
use mathlib.Core.List.{List, [], ◌∷◌}
use Rattle.std.proofs.Math.Decide.{ℕ_discrete}
use Rattle.std.proofs.Math.ListN.{length}
use Rattle.std.proofs.lemmas.List.{length-map}
use Rattle.std.proofs.Math.Dec.{ltb, eqb}
use borrow.Author.Tests.{ltb-true, ltb-false, eqb-true, not-false}
use Rattle.definition.specs.Tests.{provided◌then◌else◌, Row, ◌when◌, first_of}
use Rattle.definition.specs.Limits.{max_drivers, max_slots, max_queue}
use Rattle.definition.specs.Board.{Board, Kind, subscribe, read_write, areas_at, driver_at, slots_of, place_of, installed, is_shared, has_slot, permits, Reached, at_place, absent, reach, good_board}
use Rattle.definition.specs.State.{Pair, null, is_exited, Process, held}
use Rattle.definition.specs.Answer.{Answer, success, success_with1}
use Rattle.definition.specs.Call.{Call, yield_no_wait, yield_wait, exchange, command, break_to, break_by, bound, exit_terminate, exit_restart, Decoded, known, aside, decode, decode_yield, decode_memop, decode_exit}
use Rattle.definition.specs.Decide.{Action, call, event, resume, deposit, fetch, View, Outcome, answers, reaching, decide_exchange_at, decide_exchange, decide_command_at, decide_command, decide_break, decide_break_by, decide_known, decide_call, decide_accepted, slot_rows, action_rows, refusal, refuse, decide}
use Rattle.definition.specs.Runs.{hears, sends_shared}
use Rattle.definition.specs.Without.{board_without}
use Rattle.laws.specs.Facts.{clash, either, and, passed}
use Rattle.laws.specs.Why.{Slot}
use Rattle.laws.specs.Walk.{slot_of, nonzero}
use Rattle.laws.specs.Boards.{few_drivers, few_slots}
use Rattle.laws.specs.Places.{ReachedAt, reached_at}
use Rattle.promises.specs.TakenOut.{down}
use Rattle.promises.specs.BoardWithout.{areas_without_lem, processes_without, place_down, slot_down, shared_down, installed_down, place_gone, lower, reach_down, reach_apart}
use Rattle.promises.specs.Beside.{lowered, Beside, clears_same, accepts_same}
use Rattle.promises.specs.Matched.{Match, answer, unheard, swap, poll, await, move, leave, queue, write, unwritten}

-- a command above 0 to a shared driver, once decoded
abbrev asks : Board → Decoded → Bool
asks b (known (yield_no_wait address)) = false
asks b (known yield_wait) = false
asks b (known (exchange kind driver j x)) = false
asks b (known (command driver n x y)) = is_shared b (place_of b.drivers driver) && ltb 0 n
asks b (known (break_to new)) = false
asks b (known (break_by change)) = false
asks b (known (bound n)) = false
asks b (known (exit_terminate code)) = false
asks b (known (exit_restart code)) = false
asks b (aside x) = false

asks_not : (b : Board) (class r0 r1 r2 r3 : ℕ) → sends_shared b (call class r0 r1 r2 r3) ≡ false → asks b (decode class r0 r1 r2 r3) ≡ false
unfolding decode decode_yield decode_memop decode_exit sends_shared
asks_not b class r0 r1 r2 r3 e =
    pick _ _ _ (λ _. pick _ _ _ (λ _. refl) λ _. pick _ _ _ (λ _. refl) λ _. refl) λ _. pick _ _ _ (λ _. refl) λ _. pick _ _ _ (λ q. rw q at e) λ _. pick _ _ _ (λ _. refl) λ _. pick _ _ _ (λ _. refl) λ _.
    pick _ _ _ (λ _. pick _ _ _ (λ _. refl) λ _. pick _ _ _ (λ _. refl) λ _. pick _ _ _ (λ _. refl) λ _. refl) λ _. pick _ _ _ (λ _. pick _ _ _ (λ _. refl) λ _. pick _ _ _ (λ _. refl) λ _. refl) λ _. refl
  where
    pick : (t : Bool) (x y : Decoded) → (t ≡ true → asks b x ≡ false) → (t ≡ false → asks b y ≡ false) → asks b (provided t then x else y) ≡ false
    pick t x y f g = either (λ d. asks b d ≡ false) t x y f g

module _ (k a : ℕ) (b : Board) (good : good_board b ≡ true) (hk : k < length b.drivers) (denied : permits (areas_at b a) k ≡ false) (ram flash : List ℕ)
    (process process' : Process) (r : Beside k process process') where
  abbrev b' : Board
  b' = board_without k b

  abbrev v : View
  v = record { self = a; board = b; ram = ram; flash_image = flash }

  abbrev v' : View
  v' = record { self = a; board = b'; ram = ram; flash_image = flash }

  choose : {t : Bool} {x y x' y' : Outcome} (s : Bool) → (s ≡ true → Match k t x x') → (s ≡ false → Match k t y y') → Match k t (provided s then x else y) (provided s then x' else y')
  unfolding provided◌then◌else◌
  choose true f g = f refl
  choose false f g = g refl

  low : {i : ℕ} → i < length b.drivers → i < max_drivers
  low h = omega (arith, few_drivers b good)

  small : (kind : Kind) (i : ℕ) {j : ℕ} → j < slots_of kind (driver_at b i) → j < max_slots
  small kind i h = omega (arith, few_slots b good kind i)

  -- ---- calls that name a driver: what is reached is the same driver, at the place where it stands, or none on both

  reach_match : (driver : ℕ) (x : Answer) (f f' : ℕ → Outcome) → ((i : ℕ) → i ≢ k → ReachedAt b (areas_at b a) driver i → Match k true (f i) (f' (down k i)))
      → Match k true (reaching (reach b (areas_at b a) driver) x f) (reaching (reach b' (areas_at b' a) driver) x f')
  unfolding reaching
  reach_match driver x f f' g = rw (reach_down k b hk good a denied driver) (go (reach b (areas_at b a) driver) refl)
    where
      go : (d : Reached) → reach b (areas_at b a) driver ≡ d → Match k true (reaching d x f) (reaching (lower k d) x f')
      go (at_place i) e = g i (reach_apart k b hk good a denied driver i e) (reached_at b (areas_at b a) driver i e)
      go absent e = answer x

  exchange_match : (kind : Kind) (driver j : ℕ) (x : Pair) → Match k true (decide_exchange kind v process driver j x) (decide_exchange kind v' process' driver j x)
  unfolding decide_exchange decide_exchange_at has_slot
  exchange_match kind driver j x = reach_match driver _ _ _ λ i ne here.
      rw (slot_down k b kind i j ne, areas_without_lem k b a, accepts_same k (areas_at b a) process process' r kind x)
      (choose _ (λ _. answer _) λ s. choose _ (λ _. answer _) λ _. swap kind i j x ne (low here.installed) (small kind i (ltb-true _ _ (not-false _ s))))

  command_match : (driver n x y : ℕ) → (is_shared b' (place_of b'.drivers driver) && ltb 0 n) ≡ false → Match k true (decide_command v driver n x y) (decide_command v' driver n x y)
  unfolding decide_command decide_command_at
  command_match driver n x y quiet = reach_match driver _ _ _ λ i ne here.
      let ne' : place_of b.drivers driver ≢ k = λ e. ne (sym here.place ∙ e) in
      let quiet' : (is_shared b i && ltb 0 n) ≡ false = sym (ap (λ (t : Bool). t && ltb 0 n) (ap (is_shared b') (place_down k b driver ne' ∙ ap (down k) here.place) ∙ shared_down k b i ne)) ∙ quiet in
      rw (shared_down k b i ne) (choose _ (λ _. answer _) λ z. choose _ (λ _. answer _) λ s. clash (and (not-false (is_shared b i) s) (nonzero n z)) quiet')

  -- ---- all calls

  break_match : (x : Answer) (new : ℕ) (exact : Bool) → Match k true (decide_break v process x new exact) (decide_break v' process' x new exact)
  unfolding decide_break
  break_match x new exact = rw (areas_without_lem k b a, ← clears_same k (areas_at b a) process process' r (low hk) new) (choose _ (λ _. move _ _) λ _. answer _)

  break_by_match : (change : ℕ) → Match k true (decide_break_by v process change) (decide_break_by v' process' change)
  unfolding decide_break_by
  break_by_match change = subst (λ old. Match k true (decide_break_by v process change)
      (provided ltb change (2 ^ 31) then decide_break v' process' (success_with1 old) (old + change) true else decide_break v' process' (success_with1 old) (old - (2 ^ 32 - change)) (leb (2 ^ 32 - change) old)))
      r.break (choose _ (λ _. break_match _ _ _) λ _. break_match _ _ _)

  known_match : (c : Call) → asks b' (known c) ≡ false → Match k true (decide_known v process c) (decide_known v' process' c)
  unfolding decide_known
  known_match (yield_no_wait address) q = poll address
  known_match yield_wait q = await
  known_match (exchange kind driver j x) q = exchange_match kind driver j x
  known_match (command driver n x y) q = command_match driver n x y q
  known_match (break_to new) q = break_match success new true
  known_match (break_by change) q = break_by_match change
  known_match (bound n) q = rw (areas_without_lem k b a) (answer _)
  known_match (exit_terminate code) q = leave _ _
  known_match (exit_restart code) q = leave _ _

  call_match : (d : Decoded) → asks b' d ≡ false → Match k true (decide_call v process d) (decide_call v' process' d)
  unfolding decide_call
  call_match (known c) q = known_match c q
  call_match (aside x) q = answer x

  -- ---- refusals

  refusal_match : (x : Action) → first_of (action_rows v process x) ≡ first_of (action_rows v' process' x) → refusal v process x ≡ refusal v' process' x
  unfolding refusal first_of
  refusal_match x e = λ i. provided not (ltb a (sym (processes_without k b) i)) then 3 else provided is_exited (r.status i) then 4 else e i

  past : (u : View) (x : Process) (y : Action) → refusal u x y ≡ 0 → first_of (action_rows u x y) ≡ 0
  unfolding refusal
  past u x y e = (passed _ _ _ (passed _ _ _ e).1).1

  by_rows : (x : Action) → first_of (action_rows v process x) ≡ first_of (action_rows v' process' x) → (first_of (action_rows v process x) ≡ 0 → Match k (hears x) (decide_accepted v process x) (decide_accepted v' process' x))
      → Match k (hears x) (decide v process x) (decide v' process' x)
  unfolding decide
  by_rows x e f = rw (← refusal_match x e) (choose _ (λ q. f (past v process x (eqb-true _ 0 q))) λ _. answer _)

  -- ---- the driver's own steps, for another driver

  slot_here : (kind : Kind) (driver j : ℕ) (rows : List Row) → first_of (slot_rows kind v driver j rows) ≡ 0 → Slot b kind driver (place_of b.drivers driver) j
  slot_here kind driver j rows n = slot_of kind b driver j (not-false _ (passed _ _ _ n).0) (not-false _ (passed _ _ _ (passed _ _ _ n).1).0)

  -- what its slot holds
  holds_same : (kind : Kind) (driver j : ℕ) → place_of b.drivers driver ≢ k → Slot b kind driver (place_of b.drivers driver) j
      → held kind process (place_of b.drivers driver) j ≡ held kind process' (place_of b'.drivers driver) j
  holds_same kind driver j ne s = r.slots kind (place_of b.drivers driver) j (low s.installed) (small kind (place_of b.drivers driver) s.exists) ne ∙ ap (λ p. held kind process' p j) (sym (place_down k b driver ne))

  -- rows 7 and 8, and what follows
  rows_match : (kind : Kind) (driver j : ℕ) (rows rows' : List Row) → place_of b.drivers driver ≢ k → (Slot b kind driver (place_of b.drivers driver) j → first_of rows ≡ first_of rows')
      → first_of (slot_rows kind v driver j rows) ≡ first_of (slot_rows kind v' driver j rows')
  unfolding first_of provided◌then◌else◌
  rows_match kind driver j rows rows' ne f =
      rw (place_down k b driver ne, installed_down k b hk (place_of b.drivers driver) ne, slot_down k b kind (place_of b.drivers driver) j ne)
      (go (not (installed b (place_of b.drivers driver))) (not (has_slot kind b (place_of b.drivers driver) j)) refl refl)
    where
      go : (s t : Bool) → not (installed b (place_of b.drivers driver)) ≡ s → not (has_slot kind b (place_of b.drivers driver) j) ≡ t
          → (provided s then 7 else provided t then 8 else first_of rows) ≡ (provided s then 7 else provided t then 8 else first_of rows')
      go true t p q = refl
      go false true p q = refl
      go false false p q = f (slot_of kind b driver j (not-false _ p) (not-false _ q))

  event_other : (driver j x y z : ℕ) → place_of b.drivers driver ≢ k → Match k false (decide v process (event driver j x y z)) (decide v' process' (event driver j x y z))
  unfolding decide_accepted
  event_other driver j x y z ne = by_rows (event driver j x y z)
      (rows_match subscribe driver j _ _ ne (λ s. queue_rows (holds_same subscribe driver j ne s)))
      (λ n. rw (← holds_same subscribe driver j ne (slot_here subscribe driver j _ n), place_down k b driver ne) (queue _ ne))
    where
      lengths : length process.queue ≡ length process'.queue
      lengths = sym (length-map process.queue (lowered k)) ∙ ap length (sym r.queue)

      queue_rows : {u u' : Pair} → u ≡ u' → first_of (11 when eqb u.first 0 ∷ 10 when leb max_queue (length process.queue) ∷ []) ≡ first_of (11 when eqb u'.first 0 ∷ 10 when leb max_queue (length process'.queue) ∷ [])
      queue_rows h = λ i. first_of (11 when eqb (h i).first 0 ∷ 10 when leb max_queue (lengths i) ∷ [])

  deposit_other : (driver j offset : ℕ) (bytes : List ℕ) → place_of b.drivers driver ≢ k → Match k false (decide v process (deposit driver j offset bytes)) (decide v' process' (deposit driver j offset bytes))
  unfolding decide_accepted
  deposit_other driver j offset bytes ne = by_rows (deposit driver j offset bytes)
      (rows_match read_write driver j _ _ ne (λ s. ap (λ (u : Pair). first_of (9 when ltb u.second (offset + length bytes) ∷ [])) (holds_same read_write driver j ne s)))
      (λ n. rw (← holds_same read_write driver j ne (slot_here read_write driver j _ n)) (write _ bytes))

  -- ---- and for the driver itself: on the board without it the step is refused, and here its slots hold nothing

  holds_none : (kind : Kind) (driver j : ℕ) → place_of b.drivers driver ≡ k → Slot b kind driver (place_of b.drivers driver) j → held kind process (place_of b.drivers driver) j ≡ null
  holds_none kind driver j e s = ap (λ p. held kind process p j) e ∙ r.nothing kind j (small kind (place_of b.drivers driver) s.exists)

  by_gone : (kind : Kind) (driver j : ℕ) (rows rows' : List Row) (x : Action) → place_of b.drivers driver ≡ k → hears x ≡ false
      → action_rows v process x ≡ slot_rows kind v driver j rows → action_rows v' process' x ≡ slot_rows kind v' driver j rows'
      → (held kind process (place_of b.drivers driver) j ≡ null → first_of rows ≡ 0 → (y : Answer) → Match k false (decide_accepted v process x) (answers y))
      → Match k (hears x) (decide v process x) (decide v' process' x)
  unfolding decide
  by_gone kind driver j rows rows' x e h here there f = rw h
      (either (λ o. Match k false (provided eqb (refusal v process x) 0 then decide_accepted v process x else answers (refuse x (refusal v process x))) o) (eqb (refusal v' process' x) 0) _ _ (λ q. gone (past v' process' x (eqb-true _ 0 q)))
      λ _. either (λ o. Match k false o (answers (refuse x (refusal v' process' x)))) (eqb (refusal v process x) 0) _ _ (λ q. accepted (sym (ap first_of here) ∙ past v process x (eqb-true _ 0 q))) λ _. unheard _ _)
    where
      gone : {A : Type 0} → first_of (action_rows v' process' x) ≡ 0 → A
      gone z = clash (not-false _ (passed _ _ _ (sym (ap first_of there) ∙ z)).0) (place_gone k b hk good driver e)

      accepted : first_of (slot_rows kind v driver j rows) ≡ 0 → Match k false (decide_accepted v process x) (answers (refuse x (refusal v' process' x)))
      accepted n = f (holds_none kind driver j e (slot_here kind driver j rows n)) (passed _ _ _ (passed _ _ _ n).1).1 (refuse x (refusal v' process' x))

  event_denied : (driver j x y z : ℕ) → place_of b.drivers driver ≡ k → Match k false (decide v process (event driver j x y z)) (decide v' process' (event driver j x y z))
  event_denied driver j x y z e = by_gone subscribe driver j _ _ (event driver j x y z) e refl refl refl (λ none n _. clash (ap (λ (u : Pair). eqb u.first 0) none) (passed _ _ _ n).0)

  deposit_denied : (driver j offset : ℕ) (bytes : List ℕ) → place_of b.drivers driver ≡ k → Match k false (decide v process (deposit driver j offset bytes)) (decide v' process' (deposit driver j offset bytes))
  unfolding decide_accepted
  deposit_denied driver j offset bytes e = by_gone read_write driver j _ _ (deposit driver j offset bytes) e refl refl refl (λ none n y.
      let fits : offset + length bytes ≤ (held read_write process (place_of b.drivers driver) j).second = ltb-false _ _ (passed _ _ _ n).0 in
      let zero : (held read_write process (place_of b.drivers driver) j).second ≡ 0 = ap (λ (u : Pair). u.second) none in
      rw (none_left bytes offset (omega arith)) (unwritten _ y))
    where
      none_left : (bytes : List ℕ) (n : ℕ) → n + length bytes ≤ 0 → bytes ≡ []
      none_left [] n h = refl
      none_left (x ∷ bytes) n h = absurd (omega arith)

  -- a fetch changes nothing, whatever it is answered
  fetch_any : (driver j offset n : ℕ) → Match k false (decide v process (fetch driver j offset n)) (decide v' process' (fetch driver j offset n))
  unfolding decide decide_accepted
  fetch_any driver j offset n =
      either (λ o. Match k false o (provided eqb (refusal v' process' (fetch driver j offset n)) 0 then decide_accepted v' process' (fetch driver j offset n) else answers (refuse (fetch driver j offset n) (refusal v' process' (fetch driver j offset n))))) _ _ _
      (λ _. either (λ o. Match k false (decide_accepted v process (fetch driver j offset n)) o) _ _ _ (λ _. unheard _ _) λ _. unheard _ _)
      λ _. either (λ o. Match k false (answers (refuse (fetch driver j offset n) (refusal v process (fetch driver j offset n)))) o) _ _ _ (λ _. unheard _ _) λ _. unheard _ _

  -- ---- all steps

  pub decide_match : (x : Action) → sends_shared b' x ≡ false → Match k (hears x) (decide v process x) (decide v' process' x)
  unfolding decide_accepted
  decide_match (call class r0 r1 r2 r3) q = by_rows (call class r0 r1 r2 r3) (rw r.status) (λ _. call_match (decode class r0 r1 r2 r3) (asks_not b' class r0 r1 r2 r3 q))
  decide_match resume q = by_rows resume (rw r.status) (λ _. await)
  decide_match (event driver j x y z) q = elim (ℕ_discrete (place_of b.drivers driver) k) [ yes e ↦ event_denied driver j x y z e | no ne ↦ event_other driver j x y z ne ]
  decide_match (deposit driver j offset bytes) q = elim (ℕ_discrete (place_of b.drivers driver) k) [ yes e ↦ deposit_denied driver j offset bytes e | no ne ↦ deposit_other driver j offset bytes ne ]
  decide_match (fetch driver j offset n) q = fetch_any driver j offset n
