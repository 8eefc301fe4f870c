-- The walk through every decision: each outcome comes with its reason.
use Rattle.std.specs.Prelude.{ℕ, zero, suc, ◌≡◌, Bool, ◌&&◌, eqb}
use Rattle.std.proofs.Math.Path.{refl}
use Rattle.std.proofs.Common.{ap, ◌∙◌, arith}
use Rattle.std.proofs.Math.Bool.{true, false}
use Rattle.std.proofs.Math.Dec.{ltb}
use borrow.Author.Tests.{leb-true, ltb-true, ltb-false, eqb-true, leb-false, lt-ltb, not-false}
use Rattle.definition.specs.Tests.{provided◌then◌else◌, first_of}
use Rattle.definition.specs.Board.{Board, Kind, subscribe, read_write, read_only, place_of, installed, is_shared, has_slot, permits, reach}
use Rattle.definition.specs.State.{Pair, Process}
use Rattle.definition.specs.Answer.{Answer, changes_nothing}
use Rattle.definition.specs.Call.{exchange, command, Decoded, known, aside, decode, decode_yield, decode_memop, decode_exit, class_of}
use Rattle.definition.specs.Decide.{Action, call, event, resume, deposit, fetch, View, areas_of, place_in, Outcome, answers, reaching, not_installed, decide_exchange_at, decide_exchange, decide_command_at, decide_command, decide_break, decide_break_by, decide_known, decide_call, decide_accepted, action_rows, refusal, refuse, decide}
use Rattle.definition.specs.Runs.{sends_shared}
use Rattle.laws.specs.Facts.{clash, both, and, each_holds, passed}
use Rattle.laws.specs.Places.{reached_if}
use Rattle.laws.specs.Why.{is_plain, Slot, ended, again, Because, Live, Why}

-- ---- the walk

plain : {v : View} {process : Process} {a : Action} (x : Answer) → is_plain x ≡ true → Why v process a (answers x)
unfolding Because
plain x e = record { because = e; live = λ q. clash refl q }

absent_plain : (kind : Kind) (x : Pair) → is_plain (not_installed kind x) ≡ true
absent_plain subscribe x = refl
absent_plain read_write x = refl
absent_plain read_only x = refl

pub nonzero : (n : ℕ) → eqb n 0 ≡ false → ltb 0 n ≡ true
nonzero zero e = clash refl e
nonzero (suc n) e = lt-ltb 0 (suc n) (omega arith)

-- the driver and the slot that a step names
pub slot_of : (kind : Kind) (b : Board) (driver j : ℕ) → installed b (place_of b.drivers driver) ≡ true → has_slot kind b (place_of b.drivers driver) j ≡ true
    → Slot b kind driver (place_of b.drivers driver) j
unfolding has_slot
slot_of kind b driver j i s = record { place = refl; installed = ltb-true _ _ i; exists = ltb-true _ _ s }

module _ (v : View) (process : Process) (a : Action) (live : Live v process) where
  choose : {x y : Outcome} (t : Bool) → (t ≡ true → Why v process a x) → (t ≡ false → Why v process a y) → Why v process a (provided t then x else y)
  unfolding provided◌then◌else◌
  choose true f g = f refl
  choose false f g = g refl

  -- a call that names a driver: what is decided at its place, if the process may call it, has a reason, and so has the answer where there is none
  reach_why : (driver : ℕ) (x : Answer) (f : ℕ → Outcome) → is_plain x ≡ true
      → (installed v.board (place_in v driver) ≡ true → permits (areas_of v) (place_in v driver) ≡ true → Why v process a (f (place_in v driver)))
      → Why v process a (reaching (reach v.board (areas_of v) driver) x f)
  reach_why driver x f e g = rw (reached_if v.board (areas_of v) driver x f) (choose _ (λ q. let (i, p) = both _ _ q in g i p) λ _. plain x e)

  exchange_why : (kind : Kind) (driver j : ℕ) (x : Pair) → a ≡ call (class_of kind) driver j x.first x.second → Why v process a (decide_exchange kind v process driver j x)
  unfolding decide_exchange decide_exchange_at Because
  exchange_why kind driver j x e = reach_why driver _ _ (absent_plain kind x) λ i p. choose _ (λ _. plain _ refl) λ s. choose _ (λ _. plain _ refl) λ f.
      record { because = record { driver = driver; named = e; slot = slot_of kind v.board driver j i (not-false _ s); permitted = p; fits = not-false _ f }; live = λ _. live }

  command_why : (driver n x y : ℕ) → sends_shared v.board a ≡ (is_shared v.board (place_of v.board.drivers driver) && ltb 0 n) → Why v process a (decide_command v driver n x y)
  unfolding decide_command decide_command_at Because
  command_why driver n x y e = reach_why driver _ _ refl λ i p. choose _ (λ _. plain _ refl) λ z. choose _ (λ _. plain _ refl) λ s.
      choose _ (λ _. record {
        because = record {
          installed = ltb-true _ _ i;
          permitted = p;
          shared = not-false _ s;
          sent = e ∙ and (not-false (is_shared v.board (place_of v.board.drivers driver)) s) (nonzero n z);
        };
        live = λ _. live;
      }) λ _. plain _ refl

  break_why : (x : Answer) (new : ℕ) (exact : Bool) → is_plain x ≡ true → changes_nothing x ≡ false → Why v process a (decide_break v process x new exact)
  unfolding decide_break Because
  break_why x new exact p d = choose _
      (λ e. let h = each_holds _ e in record { because = record { low = leb-true _ _ h.1.0; high = leb-true _ _ h.1.1.0; clears = h.1.1.1.0; plain = p; tells = d }; live = λ _. live })
      λ _. plain _ refl

  break_by_why : (change : ℕ) → Why v process a (decide_break_by v process change)
  unfolding decide_break_by
  break_by_why change = choose _ (λ _. break_why _ _ _ refl refl) λ _. break_why _ _ _ refl refl

-- the walk of a decoded call
module _ (v : View) (process : Process) (live : Live v process) (class r0 r1 r2 r3 : ℕ) where
  record Decided (d : Decoded) : Type 0 where
    why : Why v process (call class r0 r1 r2 r3) (decide_call v process d)

  pick : {x y : Decoded} (t : Bool) → (t ≡ true → Decided x) → (t ≡ false → Decided y) → Decided (provided t then x else y)
  unfolding provided◌then◌else◌
  pick true f g = f refl
  pick false f g = g refl

  set_aside : (x : Answer) → is_plain x ≡ true → Decided (aside x)
  unfolding decide_call
  set_aside x e = record { why = plain x e }

  -- the class is the kind's
  exchange_decided : (kind : Kind) → eqb class (class_of kind) ≡ true → Decided (known (exchange kind r0 r1 (record { first = r2; second = r3 })))
  unfolding decide_call decide_known
  exchange_decided kind e = record { why = exchange_why v process _ live kind r0 r1 _ (ap (λ n. call n r0 r1 r2 r3) (eqb-true class (class_of kind) e)) }

  command_decided : eqb class 2 ≡ true → Decided (known (command r0 r1 r2 r3))
  unfolding decide_call decide_known sends_shared
  command_decided e = record { why = command_why v process _ live r0 r1 r2 r3 (ap (λ t. t && (is_shared v.board (place_of v.board.drivers r0) && ltb 0 r1)) e) }

  yield_decided : Decided (decode_yield r0 r1)
  unfolding decide_call decide_known decode_yield Because
  yield_decided =
      pick _ (λ _. record { why = record { because = tt; live = λ _. live } }) λ _.
      pick _ (λ _. record { why = record { because = tt; live = λ _. live } }) λ _. set_aside _ refl

  memop_decided : Decided (decode_memop r0 r1)
  unfolding decide_call decide_known decode_memop
  memop_decided =
      pick _ (λ _. record { why = break_why v process _ live _ _ _ refl refl }) λ _.
      pick _ (λ _. record { why = break_by_why v process _ live r1 }) λ _.
      pick _ (λ _. record { why = plain _ refl }) λ _. set_aside _ refl

  exit_decided : Decided (decode_exit r0 r1)
  unfolding decide_call decide_known decode_exit Because
  exit_decided =
      pick _ (λ _. record { why = record { because = ended r1; live = λ _. live } }) λ _.
      pick _ (λ _. record { why = record { because = again r1; live = λ _. live } }) λ _. set_aside _ refl

  call_decided : Decided (decode class r0 r1 r2 r3)
  unfolding decode
  call_decided =
      pick _ (λ _. yield_decided) λ _. pick _ (exchange_decided subscribe) λ _. pick _ command_decided λ _. pick _ (exchange_decided read_write) λ _.
      pick _ (exchange_decided read_only) λ _. pick _ (λ _. memop_decided) λ _. pick _ (λ _. exit_decided) λ _. set_aside _ refl

pub refuse_plain : (a : Action) (n : ℕ) → is_plain (refuse a n) ≡ true
refuse_plain (call class r0 r1 r2 r3) n = refl
refuse_plain (event driver j x y z) n = refl
refuse_plain resume n = refl
refuse_plain (deposit driver j offset bytes) n = refl
refuse_plain (fetch driver j offset n') n = refl

accepted_why : (v : View) (process : Process) (a : Action) → refusal v process a ≡ 0 → Why v process a (decide_accepted v process a)
unfolding refusal decide_accepted Because
accepted_why v process a e =
    let (on, e1) = passed _ _ _ e in
    let (awake, e2) = passed _ _ _ e1 in
    go a (record { known = ltb-true _ _ (not-false _ on); awake = awake }) e2
  where
    go : (x : Action) → Live v process → first_of (action_rows v process x) ≡ 0 → Why v process x (decide_accepted v process x)
    go (call class r0 r1 r2 r3) live e = (call_decided v process live class r0 r1 r2 r3).why
    go (event driver j x y z) live e =
        let (i, e1) = passed _ _ _ e in
        let (s, e2) = passed _ _ _ e1 in
        let (set, e3) = passed _ _ _ e2 in
        record {
          because = record { driver = driver; named = refl; slot = slot_of subscribe v.board driver j (not-false _ i) (not-false _ s); carries = refl; set = set; room = leb-false _ _ (passed _ _ _ e3).0 };
          live = λ _. live;
        }
    go resume live e = record { because = tt; live = λ _. live }
    go (deposit driver j offset bytes) live e =
        let (i, e1) = passed _ _ _ e in
        let (s, e2) = passed _ _ _ e1 in
        let slot = slot_of read_write v.board driver j (not-false _ i) (not-false _ s) in
        record {
          because = record {
            place = place_of v.board.drivers driver;
            number = j;
            offset = offset;
            from = refl;
            exists = slot.exists;
            installed = slot.installed;
            inside = ltb-false _ _ (passed _ _ _ e2).0;
          };
          live = λ _. live;
        }
    go (fetch driver j offset n) live e = plain _ refl

pub why : (v : View) (process : Process) (a : Action) → Why v process a (decide v process a)
unfolding decide provided◌then◌else◌
why v process a = go (eqb (refusal v process a) 0) refl
  where
    go : (t : Bool) → eqb (refusal v process a) 0 ≡ t → Why v process a (provided t then decide_accepted v process a else answers (refuse a (refusal v process a)))
    go true e = accepted_why v process a (eqb-true _ 0 e)
    go false e = plain _ (refuse_plain a _)
