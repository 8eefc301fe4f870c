-- Demand 2, over every list of steps after an accepted start: slots and queue are what the process's history tells, and what is pending is due.
use Rattle.std.specs.Prelude.{ℕ, zero, suc, ◌<◌, ◌≡◌, Bool, List, [], ◌∷◌, map, length, get_or}
use Rattle.std.proofs.Math.Path.{refl, sym, subst}
use Rattle.std.proofs.Common.{ap, ◌∙◌, arith, eqb-true, eq-eqb, ne_eqb}
use Rattle.std.proofs.Math.Bool.{true, false}
use Rattle.std.proofs.Math.ListN.{get_or-map}
use Rattle.std.proofs.Math.Dec.{eqb}
use Rattle.definition.specs.Tests.{provided◌then◌else◌, Each, none, more}
use Rattle.definition.specs.Limits.{image_bytes, all_slots}
use Rattle.definition.specs.Board.{Board, Areas, Kind, areas_at, no_areas, place_of}
use Rattle.definition.specs.State.{Pair, null, Upcall, Status, running, waiting, Process, held, slot_at, cleared, Claim, free, fresh}
use Rattle.definition.specs.Answer.{Answer, delivered, waits, nothing, success_with2, is_accepted}
use Rattle.definition.specs.Call.{decode, decode_yield, class_of}
use Rattle.definition.specs.Decide.{Action, call, resume, View, Outcome, answers, exchanges, polls, awaits, moves, leaves, queues, writes, commands, decide_known, decide_call, decide_accepted, refuse, decide}
use Rattle.definition.specs.World.{deliver, command_answer, answer_of, World, Step, own, latch, Out, process_at, view_of, perform, step}
use Rattle.definition.specs.Runs.{is_own, run}
use Rattle.definition.specs.Image.{board_of}
use Rattle.definition.specs.Table.{Lent, wrong_image, world_of, lent_of, table_step}
use Rattle.laws.specs.Facts.{never, clash, either, get_d_same}
use Rattle.laws.specs.Why.{is_plain, Left, Because, Why}
use Rattle.laws.specs.Walk.{refuse_plain}
use Rattle.laws.specs.Boards.{ground}
use Rattle.laws.specs.Good.{Good, of_good}
use Rattle.laws.specs.Kept.{decided, decided_why}
use Rattle.laws.specs.ImageBack.{good_back}
use Rattle.promises.specs.History.{Heard, heard, history_of, is_exchange, is_exit, last_pair, Pending, pending, TakenIn, Delivery}
use Rattle.promises.specs.Accepted.{process_in, answer_to, AcceptedExactly}
use Rattle.promises.specs.Promises.{after, history, next_of, record_of, upcall_of, Accounted, Accounting}
use Rattle.promises.specs.Guarded.{guarded, guarded_keeps, guarded_board, run_keeps, run_board, run_length, table_step_lem, table_run, table_history}
use Rattle.promises.specs.Isolation.{other_guarded, own_process}
use Rattle.promises.specs.Conditions.{waiting_passes, answer_by, call_answer}
use Rattle.promises.specs.AcceptedExactly.{accepted_exactly}
use Rattle.promises.specs.SlotsTold.{SlotsTold, plain_silent, deliver_silent, left_exit, last_silent, command_plain, same_kind, outcome_slots}
use Rattle.promises.specs.QueueTold.{QueueTold, plain_queue, outcome_queue}
use Rattle.promises.specs.Demand3.{Started, begun, accepted_start, begun_good, begun_board, record_image}

-- ---- a run

-- a process's slots and queue are what the history tells
pub record Told (b : Board) (process : Process) (hs : List Heard) : Type 0 where
  pub slots : SlotsTold b process hs
  pub queue : QueueTold b process.queue hs

module _ (a : ℕ) (w : World) (hs : List Heard) (g : Good w.state) (h : a < length w.state.board.processes) (t : Told w.state.board (process_at w.state a) hs) where
  -- an answer that tells of no change leaves all as it is told
  plain_told : (x : Action) (y : Answer) → is_plain y ≡ true → Told w.state.board (process_at w.state a) (record { action = x; answer = y } ∷ hs)
  plain_told x y e = record {
    slots = λ kind driver k j s. t.slots kind driver k j s ∙ sym (last_silent kind driver j x y hs (plain_silent y e));
    queue = plain_queue w.state.board x (process_at w.state a).queue hs t.queue y e;
  }

  stepped : (x : Action) → Told w.state.board (process_at (step (own a x) w).after.state a) (record { action = x; answer = (step (own a x) w).answer } ∷ hs)
  unfolding step perform view_of
  stepped x = subst (λ process. Told w.state.board process (record { action = x; answer = (step (own a x) w).answer } ∷ hs)) (sym (own_process a x w g h)) (record {
    slots = outcome_slots (view_of w a) (process_at w.state a) x hs (ground w.state.board g.board a) (g.each a) t.slots a w.state.claims (decided a x w) (decided_why a x w);
    queue = outcome_queue (view_of w a) (process_at w.state a) x hs t.slots t.queue a w.state.claims (decided a x w) (decided_why a x w);
  })

  own_told : (x : Action) → Told w.state.board (process_at (guarded (own a x) w).after.state a) (record { action = x; answer = (guarded (own a x) w).answer } ∷ hs)
  unfolding guarded
  own_told x = either (λ (o : Out World). Told w.state.board (process_at o.after.state a) (record { action = x; answer = o.answer } ∷ hs)) _ _ _
      (λ _. plain_told x (refuse x 1) (refuse_plain x 1)) λ _. stepped x

  -- any step: the process's own is heard, and another's leaves its record
  other_told : (s : Step) → is_own a s ≡ false → Told w.state.board (process_at (guarded s w).after.state a) hs
  other_told s e = subst (λ process. Told w.state.board process hs) (sym (other_guarded a w g h s e).process) t

  any_told : (s : Step) → Told w.state.board (process_at (guarded s w).after.state a) (heard a s (guarded s w).answer hs)
  unfolding heard is_own provided◌then◌else◌
  any_told (latch driver peak) = other_told (latch driver peak) refl
  any_told (own p x) = go (eqb p a) refl
    where
      go : (t : Bool) → eqb p a ≡ t → Told w.state.board (process_at (guarded (own p x) w).after.state a) (provided t then record { action = x; answer = (guarded (own p x) w).answer } ∷ hs else hs)
      go true e = subst (λ q. Told w.state.board (process_at (guarded (own q x) w).after.state a) (record { action = x; answer = (guarded (own q x) w).answer } ∷ hs)) (sym (eqb-true p a e)) (own_told x)
      go false e = other_told (own p x) e

told_run : (a : ℕ) (l : List Step) (w : World) (hs : List Heard) → Good w.state → a < length w.state.board.processes → Told w.state.board (process_at w.state a) hs
    → Told w.state.board (process_at (run guarded l w).state a) (history_of guarded a l w hs)
unfolding run history_of
told_run a [] w hs g h t = t
told_run a (s ∷ l) w hs g h t =
    let board = guarded_board s w in
    subst (λ b. Told b (process_at (run guarded l (guarded s w).after).state a) (history_of guarded a l (guarded s w).after (heard a s (guarded s w).answer hs))) board
    (told_run a l (guarded s w).after (heard a s (guarded s w).answer hs) (guarded_keeps s w g) (rw board h)
    (subst (λ b. Told b (process_at (guarded s w).after.state a) (heard a s (guarded s w).answer hs)) (sym board) (any_told a w hs g h t s)))

-- at the start all slots are (0, 0) and nothing is pending
cleared_told : (b : Board) (r : Areas) → Told b (cleared r running) []
unfolding cleared last_pair pending
cleared_told b r = record { slots = λ kind driver k j _. get_d_same all_slots (slot_at kind k j) null; queue = record { same = refl; known = none; events = none } }

fresh_told : (b : Board) (a : ℕ) → Told b (process_at (fresh b) a) []
unfolding fresh
fresh_told b a = rw (get_or-map (λ r. cleared r running) b.processes a no_areas) (cleared_told b (areas_at b a))

-- ---- the answers to its next step

left_differs : {A : Type 0} {s : Status} {y : Answer} → Left s y → (z : Answer) → is_exit z ≡ false → y ≡ z → A
left_differs l z e q = clash (left_exit l) (ap is_exit q ∙ e)

module _ (v : View) (process : Process) (hs : List Heard) (t : Told v.board process hs) (p : ℕ) (claims : List Claim) where
  -- an accepted subscribe or allow answers what its slot held
  returned : (kind : Kind) (driver j r2 r3 : ℕ) (old : Pair) (o : Outcome) → Why v process (call (class_of kind) driver j r2 r3) o → answer_of p claims process o ≡ success_with2 old
      → old ≡ last_pair kind driver j hs
  unfolding answer_of Because
  returned kind driver j r2 r3 old (answers x) w e = clash {t = is_exchange x} (ap is_exchange e) (plain_silent x w.because).exchange
  returned kind driver j r2 r3 old (exchanges kind' k' j' x) w e =
      let y = w.because in
      let class : class_of kind' ≡ class_of kind = cc y.named in
      let kinds : kind ≡ kind' = same_kind kind kind' (eq-eqb _ _ class) in
      let number : y.driver ≡ driver = cc y.named in
      let slot : j' ≡ j = cc y.named in
      let told : held kind' process k' j' ≡ last_pair kind' y.driver j' hs = t.slots kind' y.driver k' j' y.slot in
      let pairs : held kind' process k' j' ≡ old = same_pair e in
      sym pairs ∙ told ∙ cc (kinds, number, slot)
    where
      same_pair : {x y : Pair} → success_with2 x ≡ success_with2 y → x ≡ y
      same_pair {x} {y} q =
          let one : x.first ≡ y.first = cc in
          let two : x.second ≡ y.second = cc in
          λ i. record { first = one i; second = two i }
  returned kind driver j r2 r3 old (polls address) w e = clash {t = is_exchange (deliver nothing process.queue)} (ap is_exchange e) (deliver_silent nothing process.queue refl).exchange
  returned kind driver j r2 r3 old awaits w e = clash {t = is_exchange (deliver waits process.queue)} (ap is_exchange e) (deliver_silent waits process.queue refl).exchange
  returned kind driver j r2 r3 old (moves new x) w e = clash {t = is_exchange x} (ap is_exchange e) (plain_silent x w.because.plain).exchange
  returned kind driver j r2 r3 old (leaves s x) w e = left_differs w.because (success_with2 old) refl e
  returned kind driver j r2 r3 old (queues u) w e = never (cc)
  returned kind driver j r2 r3 old (writes address bytes) w e = never (cc)
  returned kind driver j r2 r3 old (commands k n x y) w e = clash (ap is_exchange e) (plain_silent (command_answer p n (get_or claims k free)) (command_plain p n (get_or claims k free))).exchange

  -- the delivery of a queue is of its first upcall
  delivered_first : (y : Answer) → is_plain y ≡ true → (pointer r0 r1 r2 r3 : ℕ) → deliver y process.queue ≡ delivered pointer r0 r1 r2 r3 → Delivery hs (delivered pointer r0 r1 r2 r3)
  delivered_first y e pointer r0 r1 r2 r3 q = go process.queue (pending hs) t.queue.same refl t.queue.events q
    where
      go : (l : List Upcall) (us : List Pending) → l ≡ map (upcall_of v.board) us → pending hs ≡ us → Each (TakenIn hs) us → deliver y l ≡ delivered pointer r0 r1 r2 r3 → Delivery hs (delivered pointer r0 r1 r2 r3)
      go [] us same is events d = clash {t = is_plain y} e (ap is_plain d)
      go (x ∷ l) [] same is events d = never (cc)
      go (x ∷ l) (u ∷ us) same is (more event events) d =
          let first : x ≡ upcall_of v.board u = cc in
          record { upcall = u; rest = us; first = is; carries = sym d ∙ ap (λ (z : Upcall). delivered z.pair.first z.argument0 z.argument1 z.argument2 z.pair.second) first; event = event }

  delivery : (a : Action) (pointer r0 r1 r2 r3 : ℕ) (o : Outcome) → Why v process a o → answer_of p claims process o ≡ delivered pointer r0 r1 r2 r3 → Delivery hs (delivered pointer r0 r1 r2 r3)
  unfolding answer_of Because
  delivery a pointer r0 r1 r2 r3 (answers x) w e = clash {t = is_plain x} w.because (ap is_plain e)
  delivery a pointer r0 r1 r2 r3 (exchanges kind k j x) w e = never (cc)
  delivery a pointer r0 r1 r2 r3 (polls address) w e = delivered_first nothing refl pointer r0 r1 r2 r3 e
  delivery a pointer r0 r1 r2 r3 awaits w e = delivered_first waits refl pointer r0 r1 r2 r3 e
  delivery a pointer r0 r1 r2 r3 (moves new x) w e = clash {t = is_plain x} w.because.plain (ap is_plain e)
  delivery a pointer r0 r1 r2 r3 (leaves s x) w e = left_differs w.because (delivered pointer r0 r1 r2 r3) refl e
  delivery a pointer r0 r1 r2 r3 (queues u) w e = never (cc)
  delivery a pointer r0 r1 r2 r3 (writes address bytes) w e = never (cc)
  delivery a pointer r0 r1 r2 r3 (commands k n x y) w e = clash (command_plain p n (get_or claims k free)) (ap is_plain e)

-- behind row 1
module _ (a : ℕ) (w : World) (hs : List Heard) (t : Told w.state.board (process_at w.state a) hs) where
  guarded_returns : (kind : Kind) (driver j r2 r3 : ℕ) (old : Pair) → (guarded (own a (call (class_of kind) driver j r2 r3)) w).answer ≡ success_with2 old → old ≡ last_pair kind driver j hs
  unfolding guarded step perform view_of
  guarded_returns kind driver j r2 r3 old = either (λ (o : Out World). o.answer ≡ success_with2 old → old ≡ last_pair kind driver j hs) _ _ _ (λ _ e. never (cc))
      λ _ e. returned (view_of w a) (process_at w.state a) hs t a w.state.claims kind driver j r2 r3 old _ (decided_why a (call (class_of kind) driver j r2 r3) w) e

  guarded_delivers : (x : Action) (pointer r0 r1 r2 r3 : ℕ) → (guarded (own a x) w).answer ≡ delivered pointer r0 r1 r2 r3 → Delivery hs (delivered pointer r0 r1 r2 r3)
  unfolding guarded step perform view_of
  guarded_delivers x pointer r0 r1 r2 r3 = either (λ (o : Out World). o.answer ≡ delivered pointer r0 r1 r2 r3 → Delivery hs (delivered pointer r0 r1 r2 r3)) _ _ _
      (λ _ e. clash {t = is_plain (refuse x 1)} (refuse_plain x 1) (ap is_plain e))
      λ _ e. delivery (view_of w a) (process_at w.state a) hs t a w.state.claims x pointer r0 r1 r2 r3 _ (decided_why a x w) e

-- a yield of a running process and a resume of a waiting one answer with the first upcall of the queue
yields_first : (a : ℕ) (w : World) (number address r2 r3 : ℕ) → number < 2
    → answer_by w a (decide_call (view_of w a) (process_in w a) (decode 0 number address r2 r3)) ≡ deliver (provided eqb number 0 then nothing else waits) (process_in w a).queue
unfolding decode decode_yield decide_call decide_known answer_of provided◌then◌else◌
yields_first a w zero address r2 r3 h = refl
yields_first a w (suc zero) address r2 r3 h = refl
yields_first a w (suc (suc n)) address r2 r3 h = absurd (omega arith)

module _ (a : ℕ) (w : World) (known : a < length w.state.board.processes) where
  yield_answer : (number address r2 r3 : ℕ) → number < 2 → (process_in w a).status ≡ running → length w.memory ≡ image_bytes
      → (guarded (own a (call 0 number address r2 r3)) w).answer ≡ deliver (provided eqb number 0 then nothing else waits) (process_in w a).queue
  unfolding guarded wrong_image provided◌then◌else◌
  yield_answer n address r2 r3 h e m =
      rw (eq-eqb (length w.memory) image_bytes m) (call_answer w a 0 n address r2 r3 (record { known = known; running = e }) ∙ yields_first a w n address r2 r3 h)

  resume_answer : (process_in w a).status ≡ waiting → (guarded (own a resume) w).answer ≡ deliver waits (process_in w a).queue
  unfolding guarded wrong_image step perform decide decide_accepted answer_of provided◌then◌else◌
  resume_answer e = rw (waiting_passes w a known e)

-- with an image of its length a call is that of the state, and with another it is refused
whole_image : (a : ℕ) (w : World) (class r0 r1 r2 r3 : ℕ) → length w.memory ≡ image_bytes → (guarded (own a (call class r0 r1 r2 r3)) w).answer ≡ answer_to w a class r0 r1 r2 r3
unfolding guarded wrong_image provided◌then◌else◌
whole_image a w class r0 r1 r2 r3 m = rw (eq-eqb (length w.memory) image_bytes m)

no_image : (a : ℕ) (w : World) (class r0 r1 r2 r3 : ℕ) → (length w.memory ≡ image_bytes → ⊥) → is_accepted (guarded (own a (call class r0 r1 r2 r3)) w).answer ≡ false
unfolding guarded wrong_image provided◌then◌else◌
no_image a w class r0 r1 r2 r3 m = rw (ne_eqb (length w.memory) image_bytes m)

-- what is accepted is so in the same world, and by the same answers
accepted_by : {w v : World} {a : ℕ} {f g : (class r0 r1 r2 r3 : ℕ) → Answer} → w ≡ v → ((class r0 r1 r2 r3 : ℕ) → f class r0 r1 r2 r3 ≡ g class r0 r1 r2 r3)
    → AcceptedExactly v a g → AcceptedExactly w a f
accepted_by {v = v} {a = a} {f = f} p q h = subst (λ u. AcceptedExactly u a f) (sym p) (subst (AcceptedExactly v a) (sym (λ i class r0 r1 r2 r3. q class r0 r1 r2 r3 i)) h)

-- ---- the claim

pub accounting : Accounting
accounting words x e a h l =
    let s = accepted_start words x e in
    subst (λ y. Accounted (board_of words) a y (history a l y) (after l y) (next_of a l y)) (sym s.leaves) (accounted s)
  where
    b : Board
    b = board_of words

    w : World
    w = begun words x

    accounted : Started words x → Accounted b a (lent_of w) (history a l (lent_of w)) (after l (lent_of w)) (next_of a l (lent_of w))
    accounted s =
        let g = begun_good words x s in
        let board : w.state.board ≡ b = begun_board words x s in
        let here : a < length w.state.board.processes = subst (λ r. a < length r.processes) (sym board) h in
        let t = told_run a l w [] g here (subst (λ r. Told r (process_at w.state a) []) (sym board) (fresh_told b a)) in
        let end : World = run guarded l w in
        let g' : Good end.state = run_keeps l w g in
        let there : after l (lent_of w) ≡ lent_of end = table_run l w g in
        let heard_so : history a l (lent_of w) ≡ history_of guarded a l w [] = table_history a l w [] g in
        let recorded : record_of a (after l (lent_of w)) ≡ process_at end.state a = ap (record_of a) there ∙ record_image a end g' in
        let told : Told b (process_at end.state a) (history a l (lent_of w)) = subst (λ hs. Told b (process_at end.state a) hs) (sym heard_so) (subst (λ r. Told r (process_at end.state a) (history_of guarded a l w [])) board t) in
        let told' : Told end.state.board (process_at end.state a) (history a l (lent_of w)) = subst (λ r. Told r (process_at end.state a) (history a l (lent_of w))) (sym (run_board l w ∙ board)) told in
        let answer : (y : Step) → (table_step y (after l (lent_of w))).answer ≡ (guarded y end).answer = λ y. ap (λ r. (table_step y r).answer) there ∙ ap (λ (o : Out Lent). o.answer) (table_step_lem y end g') in
        let known : a < length end.state.board.processes = subst (λ r. a < length r.processes) (sym (run_board l w)) here in
        let status : (record_of a (after l (lent_of w))).status ≡ (process_at end.state a).status = ap (λ (z : Process). z.status) recorded in
        let length_end : length end.memory ≡ length w.memory = sym (ap (λ (z : Lent). length z.memory) there) ∙ run_length l (lent_of w) in
        let here : world_of (after l (lent_of w)) ≡ end = ap world_of there ∙ λ i. record { state = good_back end.state (of_good end.state g') i; memory = end.memory; flash = end.flash } in
        record {
          accepts = λ m. accepted_by here (λ class r0 r1 r2 r3. answer _ ∙ whole_image a end class r0 r1 r2 r3 (length_end ∙ m)) (accepted_exactly end (of_good end.state g') a);
          needs_image = λ m class r0 r1 r2 r3. ap is_accepted (answer _) ∙ no_image a end class r0 r1 r2 r3 (λ e. m (sym length_end ∙ e));
          returns = λ kind driver j r2 r3 old q. guarded_returns a end _ told' kind driver j r2 r3 old (sym (answer _) ∙ q);
          delivers = λ action pointer r0 r1 r2 r3 q. guarded_delivers a end _ told' action pointer r0 r1 r2 r3 (sym (answer _) ∙ q);
          yields = λ n address r2 r3 small e m. answer _ ∙ yield_answer a end known n address r2 r3 small (sym status ∙ e) (length_end ∙ m) ∙ ap (deliver _) told.queue.same;
          resumes = λ e. answer _ ∙ resume_answer a end known (sym status ∙ e) ∙ ap (deliver waits) told.queue.same;
          queue = ap (λ (z : Process). z.queue) recorded ∙ told.queue.same;
          slots = λ kind driver j i n. ap (λ z. held kind z (place_of b.drivers driver) j) recorded ∙ told.slots kind driver _ j (record { place = refl; installed = i; exists = n });
        }
