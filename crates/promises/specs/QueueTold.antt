-- One step of a process, and what its history then tells of its queue: it is what is pending.
use Rattle.std.specs.Prelude.{ℕ, ◌<◌, ◌≡◌, Bool, ◌&&◌, get_or}
use Rattle.std.proofs.Math.Path.{refl, sym, ap, subst}
use Rattle.std.proofs.Common.{◌∙◌, eqb-true, eq-eqb, ne_eqb}
use Rattle.std.proofs.Math.Bool.{true, false}
use mathlib.Core.List.{List, [], ◌∷◌, ◌++◌, tail, map}
use Rattle.std.proofs.Math.ListN.{length}
use Rattle.std.proofs.Math.Dec.{eqb}
use Rattle.std.proofs.lemmas.Bool.{eqb-false, not-true}
use Rattle.definition.specs.Tests.{provided◌then◌else◌, Each, none, more}
use Rattle.definition.specs.Board.{Board, Kind, subscribe, read_write, read_only, place_of}
use Rattle.definition.specs.State.{Pair, Upcall, Status, Process, held, cleared, Claim, free}
use Rattle.definition.specs.Answer.{Answer, refused, registers, delivered, waits, nothing, taken, deposited, latched, started, terminated, restarted, fetched, SUCCESS_WITH_2_U32, success_with2}
use Rattle.definition.specs.Call.{class_of}
use Rattle.definition.specs.Decide.{Action, call, event, View, areas_of, Outcome, answers, exchanges, polls, awaits, moves, leaves, queues, writes, commands}
use Rattle.definition.specs.World.{cancel, deliver, after_exchange, answer_of, process_after}
use Rattle.laws.specs.Facts.{never, clash, map_snoc}
use Rattle.laws.specs.Why.{is_plain, Slot, Exchanged, Left, ended, again, Because, Why}
use Rattle.laws.specs.Fit.{each_snoc}
use Rattle.laws.specs.Places.{place_one}
use Rattle.promises.specs.History.{Heard, last_pair, Pending, without, cancelled_by, taken_by, pending_after, pending, cancels, TakenIn}
use Rattle.promises.specs.Promises.{upcall_of}
use Rattle.promises.specs.SlotsTold.{Silent, plain_silent, command_plain, SlotsTold}

-- ---- the queue

-- the drivers of the pending upcalls are installed
abbrev Known : Board → Pending → Type 0
Known b u = place_of b.drivers u.driver < length b.drivers

-- the queue is what a history tells to be pending, each upcall of an event that stands
pub record QueueTold (b : Board) (queue : List Upcall) (hs : List Heard) : Type 0 where
  pub same : queue ≡ map (upcall_of b) (pending hs)
  pub known : Each (Known b) (pending hs)
  pub events : Each (TakenIn hs) (pending hs)

-- answers that tell of no exchange, delivery, event or exit leave what is pending
plain_pending : (holds : ℕ → ℕ → Pair) (a : Action) (y : Answer) (q : List Pending) → is_plain y ≡ true → pending_after holds a y q ≡ q
unfolding pending_after provided◌then◌else◌
plain_pending holds a (refused n) q e = refl
plain_pending holds a (registers r0 r1 r2 r3) q e = rw (not-true (eqb r0 SUCCESS_WITH_2_U32) e)
plain_pending holds a (delivered pointer r0 r1 r2 r3) q e = clash e refl
plain_pending holds a waits q e = refl
plain_pending holds a nothing q e = refl
plain_pending holds a taken q e = clash e refl
plain_pending holds a deposited q e = refl
plain_pending holds a latched q e = refl
plain_pending holds a started q e = refl
plain_pending holds a (terminated code) q e = clash e refl
plain_pending holds a (restarted code) q e = clash e refl
plain_pending holds a (fetched n x) q e = refl

module _ {A : Type 0} {P Q : A → Type 0} where
  each_map : ((x : A) → P x → Q x) → {l : List A} → Each P l → Each Q l
  each_map f none = none
  each_map f (more p ps) = more (f _ p) (each_map f ps)

-- an event stands after a step that does not cancel its upcall
later : (h : Heard) (hs : List Heard) (u : Pending) → cancels u.driver u.slot h ≡ false → TakenIn hs u → TakenIn (h ∷ hs) u
later h hs u e t = record { since = h ∷ t.since; before = t.before; whole = ap (λ r. h ∷ r) t.whole; holds = t.holds; stands = more e t.stands }

silent_cancels : (a : Action) (y : Answer) → Silent y → (driver j : ℕ) → cancels driver j (record { action = a; answer = y }) ≡ false
unfolding cancels
silent_cancels a y s driver j = rw (s.exit, s.exchange)

-- a step that cancels nothing, where what is then pending is known
uncancelled_queue : (b : Board) (h : Heard) (hs : List Heard) → ((driver j : ℕ) → cancels driver j h ≡ false) → (queue : List Upcall) (q : List Pending) → pending (h ∷ hs) ≡ q
    → queue ≡ map (upcall_of b) q → Each (Known b) q → Each (TakenIn hs) q → QueueTold b queue (h ∷ hs)
uncancelled_queue b h hs c queue q e same known events =
    let stand : Each (TakenIn (h ∷ hs)) q = each_map (λ u. later h hs u (c u.driver u.slot)) events in
    record { same = same ∙ ap (map (upcall_of b)) (sym e); known = subst (Each (Known b)) (sym e) known; events = subst (Each (TakenIn (h ∷ hs))) (sym e) stand }

module _ (b : Board) (a : Action) (queue : List Upcall) (hs : List Heard) (t : QueueTold b queue hs) where
  pub plain_queue : (y : Answer) → is_plain y ≡ true → QueueTold b queue (record { action = a; answer = y } ∷ hs)
  unfolding pending
  plain_queue y e = uncancelled_queue b _ hs (silent_cancels a y (plain_silent y e)) queue (pending hs) (plain_pending (λ d j. last_pair subscribe d j hs) a y (pending hs) e) t.same t.known t.events

  -- a delivery takes the first one
  deliver_queue : (y : Answer) → is_plain y ≡ true → QueueTold b (tail queue) (record { action = a; answer = deliver y queue } ∷ hs)
  unfolding pending pending_after
  deliver_queue y e = go queue (pending hs) refl t.same t.known t.events refl
    where
      go : (l : List Upcall) (q : List Pending) → queue ≡ l → l ≡ map (upcall_of b) q → Each (Known b) q → Each (TakenIn hs) q → pending hs ≡ q
          → QueueTold b (tail l) (record { action = a; answer = deliver y l } ∷ hs)
      go [] [] h same known events p =
          uncancelled_queue b _ hs (silent_cancels a y (plain_silent y e)) [] [] (plain_pending (λ d j. last_pair subscribe d j hs) a y (pending hs) e ∙ p) refl none none
      go [] (u ∷ q) h same known events p = never (cc)
      go (x ∷ l) [] h same known events p = never (cc)
      go (x ∷ l) (u ∷ q) h same (more k known) (more v events) p =
          uncancelled_queue b _ hs (silent_cancels a (deliver y (x ∷ l)) (record { exchange = refl; exit = refl })) l q (ap tail p) (ap tail same) known events

  -- an exit takes all
  exit_queue : {s : Status} (y : Answer) → Left s y → QueueTold b [] (record { action = a; answer = y } ∷ hs)
  unfolding pending pending_after
  exit_queue y (ended code) = record { same = refl; known = none; events = none }
  exit_queue y (again code) = record { same = refl; known = none; events = none }

  -- an event that is taken adds its upcall
  taken_queue : (driver : ℕ) (u : Upcall) → a ≡ event driver u.slot u.argument0 u.argument1 u.argument2 → Slot b subscribe driver u.place u.slot
      → u.pair ≡ last_pair subscribe driver u.slot hs → QueueTold b (queue ++ (u ∷ [])) (record { action = a; answer = taken } ∷ hs)
  unfolding pending pending_after taken_by
  taken_queue driver u named slot carries = rw named (record {
    same = ap (λ l. l ++ (u ∷ [])) t.same ∙ ap (λ x. map (upcall_of b) (pending hs) ++ (x ∷ [])) same_upcall ∙ sym (map_snoc (upcall_of b) (pending hs) new);
    known = each_snoc t.known (subst (λ k. k < length b.drivers) (sym slot.place) slot.installed);
    events = each_snoc (each_map (λ x. later heard hs x (silent_cancels heard.action taken (record { exchange = refl; exit = refl }) x.driver x.slot)) t.events)
        (record { since = []; before = hs; whole = refl; holds = refl; stands = none });
  })
    where
      new : Pending
      new = record { driver = driver; slot = u.slot; argument0 = u.argument0; argument1 = u.argument1; argument2 = u.argument2; pair = last_pair subscribe driver u.slot hs }

      heard : Heard
      heard = record { action = event driver u.slot u.argument0 u.argument1 u.argument2; answer = taken }

      same_upcall : u ≡ upcall_of b new
      same_upcall = λ i. record { place = sym slot.place i; slot = u.slot; argument0 = u.argument0; argument1 = u.argument1; argument2 = u.argument2; pair = carries i }

-- ---- an exchange

-- the pending upcalls of other slots
module _ (b : Board) (driver k j : ℕ) (place : place_of b.drivers driver ≡ k) (hk : k < length b.drivers) where
  -- an upcall's place and its driver's number tell the same
  same_test : (u : Pending) → Known b u → eqb (place_of b.drivers u.driver) k ≡ eqb u.driver driver
  same_test u h = go (eqb u.driver driver) refl
    where
      go : (t : Bool) → eqb u.driver driver ≡ t → eqb (place_of b.drivers u.driver) k ≡ t
      go true q = eq-eqb _ _ (ap (place_of b.drivers) (eqb-true u.driver driver q) ∙ place)
      go false q = ne_eqb _ _ (λ x. eqb-false u.driver driver q (place_one b.drivers u.driver driver h (x ∙ sym place)))

  cancel_without : (q : List Pending) → Each (Known b) q → cancel k j (map (upcall_of b) q) ≡ map (upcall_of b) (without driver j q)
  unfolding cancel without provided◌then◌else◌
  cancel_without [] none = refl
  cancel_without (u ∷ q) (more h hs) = rw (same_test u h) (go (eqb u.driver driver && eqb u.slot j) (cancel_without q hs))
    where
      go : (t : Bool) → cancel k j (map (upcall_of b) q) ≡ map (upcall_of b) (without driver j q)
          → (provided t then cancel k j (map (upcall_of b) q) else upcall_of b u ∷ cancel k j (map (upcall_of b) q)) ≡ map (upcall_of b) (provided t then without driver j q else u ∷ without driver j q)
      go true ih = ih
      go false ih = ap (λ r. upcall_of b u ∷ r) ih

-- those that are left are of other slots
left_over : {P : Pending → Type 0} (driver j : ℕ) (q : List Pending) → Each P q → Each (λ u. P u × ((eqb u.driver driver && eqb u.slot j) ≡ false)) (without driver j q)
unfolding without provided◌then◌else◌
left_over driver j [] none = none
left_over {P} driver j (u ∷ q) (more p ps) = go (eqb u.driver driver && eqb u.slot j) refl (left_over driver j q ps)
  where
    go : (t : Bool) → (eqb u.driver driver && eqb u.slot j) ≡ t → Each (λ u. P u × ((eqb u.driver driver && eqb u.slot j) ≡ false)) (without driver j q)
        → Each (λ u. P u × ((eqb u.driver driver && eqb u.slot j) ≡ false)) (provided t then without driver j q else u ∷ without driver j q)
    go true e ih = ih
    go false e ih = more (p, e) ih

-- a test of two numbers goes both ways
eqb_sym : (x y : ℕ) → eqb x y ≡ eqb y x
eqb_sym x y = go (eqb y x) refl
  where
    go : (t : Bool) → eqb y x ≡ t → eqb x y ≡ t
    go true e = eq-eqb x y (sym (eqb-true y x e))
    go false e = ne_eqb x y (λ q. eqb-false y x e (sym q))

module _ (b : Board) (driver j r2 r3 : ℕ) (old : Pair) (queue : List Upcall) (hs : List Heard) (t : QueueTold b queue hs) where
  -- a subscribe leaves the upcalls of other slots
  subscribe_queue : (k : ℕ) → Slot b subscribe driver k j → QueueTold b (cancel k j queue) (record { action = call (class_of subscribe) driver j r2 r3; answer = success_with2 old } ∷ hs)
  unfolding pending pending_after cancelled_by provided◌then◌else◌ cancels
  subscribe_queue k s = record {
    same = ap (cancel k j) t.same ∙ cancel_without b driver k j s.place s.installed (pending hs) t.known;
    known = each_map (λ u h. h.0) (left_over driver j (pending hs) t.known);
    events = each_map (λ u h. later heard hs u (uncancelled u h.1) h.0) (left_over driver j (pending hs) t.events);
  }
    where
      heard : Heard
      heard = record { action = call (class_of subscribe) driver j r2 r3; answer = success_with2 old }

      uncancelled : (u : Pending) → (eqb u.driver driver && eqb u.slot j) ≡ false → cancels u.driver u.slot heard ≡ false
      uncancelled u e = rw (eqb_sym driver u.driver, eqb_sym j u.slot) e

  -- an allow leaves all of them
  allow_queue : (class : ℕ) → eqb class (class_of subscribe) ≡ false → QueueTold b queue (record { action = call class driver j r2 r3; answer = success_with2 old } ∷ hs)
  unfolding pending pending_after cancelled_by provided◌then◌else◌ cancels
  allow_queue class e =
      let same : (provided eqb class (class_of subscribe) then without driver j (pending hs) else pending hs) ≡ pending hs = rw e in
      uncancelled_queue b _ hs (λ d i. rw e) queue (pending hs) same t.same t.known t.events

-- ---- each outcome

module _ (v : View) (process : Process) (a : Action) (hs : List Heard) (slots : SlotsTold v.board process hs) (t : QueueTold v.board process.queue hs) where
  exchange_queue : (kind : Kind) (k j : ℕ) (x : Pair) → Exchanged v process a kind k j x
      → QueueTold v.board (after_exchange kind k j process.queue) (record { action = a; answer = success_with2 (held kind process k j) } ∷ hs)
  exchange_queue subscribe k j x w = subst (λ z. QueueTold v.board (cancel k j process.queue) (record { action = z; answer = success_with2 (held subscribe process k j) } ∷ hs)) (sym w.named)
      (subscribe_queue v.board w.driver j x.first x.second _ process.queue hs t k w.slot)
  exchange_queue read_write k j x w = subst (λ z. QueueTold v.board process.queue (record { action = z; answer = success_with2 (held read_write process k j) } ∷ hs)) (sym w.named)
      (allow_queue v.board w.driver j x.first x.second _ process.queue hs t (class_of read_write) refl)
  exchange_queue read_only k j x w = subst (λ z. QueueTold v.board process.queue (record { action = z; answer = success_with2 (held read_only process k j) } ∷ hs)) (sym w.named)
      (allow_queue v.board w.driver j x.first x.second _ process.queue hs t (class_of read_only) refl)

  cleared_queue : (s : Status) → (cleared (areas_of v) s).queue ≡ []
  unfolding cleared
  cleared_queue s = refl

  pub outcome_queue : (p : ℕ) (claims : List Claim) (o : Outcome) → Why v process a o
      → QueueTold v.board (process_after (areas_of v) process o).queue (record { action = a; answer = answer_of p claims process o } ∷ hs)
  unfolding process_after answer_of Because
  outcome_queue p claims (answers x) w = plain_queue v.board a process.queue hs t x w.because
  outcome_queue p claims (exchanges kind k j x) w = exchange_queue kind k j x w.because
  outcome_queue p claims (polls address) w = deliver_queue v.board a process.queue hs t nothing refl
  outcome_queue p claims awaits w = deliver_queue v.board a process.queue hs t waits refl
  outcome_queue p claims (moves new x) w = plain_queue v.board a process.queue hs t x w.because.plain
  outcome_queue p claims (leaves s x) w = subst (λ q. QueueTold v.board q (record { action = a; answer = x } ∷ hs)) (sym (cleared_queue s)) (exit_queue v.board a process.queue hs t x w.because)
  outcome_queue p claims (queues u) w =
      taken_queue v.board a process.queue hs t w.because.driver u w.because.named w.because.slot (w.because.carries ∙ slots subscribe w.because.driver u.place u.slot w.because.slot)
  outcome_queue p claims (writes address bytes) w = plain_queue v.board a process.queue hs t deposited refl
  outcome_queue p claims (commands k n x y) w = plain_queue v.board a process.queue hs t _ (command_plain p n (get_or claims k free))
