-- Demand 3 over states: what a process hears, its record and its RAM are those of its own steps alone.
-- Another's step changes nothing that it sees, and its own step follows from what it sees; the rest is one induction over the list.
use Rattle.std.specs.Prelude.{ℕ, ◌<◌, ◌≡◌, ◌≢◌, Bool, not, List, [], ◌∷◌, eqb}
use Rattle.std.proofs.Math.Path.{refl, sym, ap, subst}
use Rattle.std.proofs.Common.{◌∙◌, arith}
use Rattle.std.proofs.Math.Bool.{true, false}
use Rattle.std.proofs.Math.Decide.{dec_lt}
use Rattle.std.proofs.Math.ListN.{length}
use Rattle.std.proofs.Math.Seq.{get_or-set_same, get_or-set_other}
use borrow.Author.Tests.{eqb-true, eqb-false, not-true}
use Rattle.definition.specs.Tests.{provided◌then◌else◌}
use Rattle.definition.specs.Limits.{image_bytes}
use Rattle.definition.specs.Board.{areas_at}
use Rattle.definition.specs.State.{Process, no_process, Claim}
use Rattle.definition.specs.Decide.{Action, call, event, resume, deposit, fetch, View, areas_of, Outcome, answers, exchanges, polls, awaits, moves, leaves, queues, writes, commands}
use Rattle.definition.specs.World.{answer_of, process_after, write_of, Write, World, Step, own, latch, Out, process_at, ram_of, view_of, store, perform, latch_step, step}
use Rattle.definition.specs.Runs.{is_own, sends_shared, sends_none}
use Rattle.definition.specs.Table.{wrong_image, refuse_step, lent_of}
use Rattle.laws.specs.Facts.{clash, either, both}
use Rattle.laws.specs.Why.{Why, Because}
use Rattle.laws.specs.Fit.{Inside}
use Rattle.laws.specs.FitAfter.{inside_after}
use Rattle.laws.specs.Boards.{placed, apart, ground, off_areas}
use Rattle.laws.specs.Stores.{length_store, store_nothing, store_other, store_ram, store_own, off_board}
use Rattle.laws.specs.Good.{Good}
use Rattle.laws.specs.Kept.{decided, decided_why}
use Rattle.promises.specs.Guarded.{guarded}

-- ---- what a process sees: its view, its record, and whether the memory image has its length

pub record Same (a : ℕ) (w w' : World) : Type 0 where
  pub view : view_of w a ≡ view_of w' a
  pub process : process_at w.state a ≡ process_at w'.state a
  pub size : length w.memory ≡ length w'.memory

pub same_refl : (a : ℕ) (w : World) → Same a w w
same_refl a w = record { view = refl; process = refl; size = refl }

pub same_trans : {a : ℕ} {u v w : World} → Same a u v → Same a v w → Same a u w
same_trans p q = record { view = p.view ∙ q.view; process = p.process ∙ q.process; size = p.size ∙ q.size }

pub same_sym : {a : ℕ} {w w' : World} → Same a w w' → Same a w' w
same_sym s = record { view = sym s.view; process = sym s.process; size = sym s.size }

same_board : {a : ℕ} {w w' : World} → Same a w w' → w.state.board ≡ w'.state.board
unfolding view_of
same_board s = ap (λ v. v.board) s.view

same_flash : {a : ℕ} {w w' : World} → Same a w w' → w.flash ≡ w'.flash
unfolding view_of
same_flash s = ap (λ v. v.flash_image) s.view

-- row 1 looks at the images' lengths alone
same_wrong : (s : Step) {a : ℕ} {w w' : World} → Same a w w' → wrong_image s (lent_of w) ≡ wrong_image s (lent_of w')
unfolding wrong_image
same_wrong (own p (call class r0 r1 r2 r3)) e = ap (λ n. not (eqb n image_bytes)) e.size
same_wrong (own p (event driver j x y z)) e = refl
same_wrong (own p resume) e = refl
same_wrong (own p (deposit driver j offset bytes)) e = ap (λ n. not (eqb n image_bytes)) e.size
same_wrong (own p (fetch driver j offset n)) e = cc (e.size, same_flash e)
same_wrong (latch driver peak) e = refl

-- ---- another's step

module _ (a : ℕ) (w : World) (g : Good w.state) (h : a < length w.state.board.processes) where
  -- what a process's own step writes lies in its RAM
  written_inside : (p : ℕ) (x : Action) → Inside (areas_at w.state.board p) (write_of (areas_at w.state.board p) (process_at w.state p) (decided p x w))
  unfolding view_of
  written_inside p x = inside_after (view_of w p) (process_at w.state p) (ground w.state.board g.board p) (g.each p) x (decided p x w) (decided_why p x w)

  other_ram : (p : ℕ) (x : Action) → p ≢ a
      → ram_of (areas_at w.state.board a) (store (write_of (areas_at w.state.board p) (process_at w.state p) (decided p x w)) w.memory) ≡ ram_of (areas_at w.state.board a) w.memory
  other_ram p x ne = elim (dec_lt p (length w.state.board.processes)) [
    | yes h' ↦ store_other (areas_at w.state.board a) (areas_at w.state.board p) _ w.memory (placed w.state.board g.board a h) (placed w.state.board g.board p h')
        (apart w.state.board g.board a p (λ q. ne (sym q)) h h') (written_inside p x)
    | no h' ↦ ap (ram_of (areas_at w.state.board a)) (store_nothing _ w.memory (off_board _ (subst (λ r. Inside r (write_of (areas_at w.state.board p) (process_at w.state p) (decided p x w))) (off_areas w.state.board p (omega arith)) (written_inside p x))))
  ]

  pub other_step : (s : Step) → is_own a s ≡ false → Same a (step s w).after w
  unfolding step perform latch_step is_own view_of
  other_step (latch driver peak) e = either (λ (o : Out World). Same a o.after w) _ _ _ (λ _. record { view = refl; process = refl; size = refl }) λ _. same_refl a w
  other_step (own p x) e =
      let ne : p ≢ a = eqb-false p a e in
      record {
        view = ap (λ ram. record { self = a; board = w.state.board; ram = ram; flash_image = w.flash }) (other_ram p x ne);
        process = get_or-set_other w.state.processes p a _ no_process (λ q. ne (sym q));
        size = length_store _ w.memory;
      }

  pub other_guarded : (s : Step) → is_own a s ≡ false → Same a (guarded s w).after w
  unfolding guarded
  other_guarded s e = either (λ (o : Out World). Same a o.after w) _ _ _ (λ _. same_refl a w) λ _. other_step s e

-- ---- its own step, as a function of what it sees

unfoldable pub next_view : View → Write → View
next_view v x = record { self = v.self; board = v.board; ram = store_ram (areas_of v) x v.ram; flash_image = v.flash_image }

module _ (a : ℕ) (x : Action) (w : World) (g : Good w.state) (h : a < length w.state.board.processes) where
  pub own_view : view_of (step (own a x) w).after a ≡ next_view (view_of w a) (write_of (areas_at w.state.board a) (process_at w.state a) (decided a x w))
  unfolding step perform view_of next_view
  own_view = ap (λ ram. record { self = a; board = w.state.board; ram = ram; flash_image = w.flash })
      (store_own (areas_at w.state.board a) _ w.memory (placed w.state.board g.board a h) (written_inside a w g h a x))

  pub own_process : process_at (step (own a x) w).after.state a ≡ process_after (areas_at w.state.board a) (process_at w.state a) (decided a x w)
  unfolding step perform
  own_process = get_or-set_same w.state.processes a _ no_process (omega (arith, g.count))

  pub own_size : length (step (own a x) w).after.memory ≡ length w.memory
  unfolding step perform
  own_size = length_store _ w.memory

-- an answer that no claim has a part in
abbrev is_own_answer : Outcome → Bool
is_own_answer (answers x) = true
is_own_answer (exchanges kind k j x) = true
is_own_answer (polls address) = true
is_own_answer awaits = true
is_own_answer (moves new x) = true
is_own_answer (leaves s x) = true
is_own_answer (queues u) = true
is_own_answer (writes address bytes) = true
is_own_answer (commands k n x y) = false

unclaimed : (p : ℕ) (claims claims' : List Claim) (process : Process) (o : Outcome) → is_own_answer o ≡ true → answer_of p claims process o ≡ answer_of p claims' process o
unfolding answer_of
unclaimed p claims claims' process (answers x) e = refl
unclaimed p claims claims' process (exchanges kind k j x) e = refl
unclaimed p claims claims' process (polls address) e = refl
unclaimed p claims claims' process awaits e = refl
unclaimed p claims claims' process (moves new x) e = refl
unclaimed p claims claims' process (leaves s x) e = refl
unclaimed p claims claims' process (queues u) e = refl
unclaimed p claims claims' process (writes address bytes) e = refl
unclaimed p claims claims' process (commands k n x y) e = clash e refl

-- a step that sends no command above 0 to a shared driver has such an answer
own_answer : (v : View) (process : Process) (a : Action) (o : Outcome) → Why v process a o → sends_shared v.board a ≡ false → is_own_answer o ≡ true
unfolding Because
own_answer v process a (answers x) y e = refl
own_answer v process a (exchanges kind k j x) y e = refl
own_answer v process a (polls address) y e = refl
own_answer v process a awaits y e = refl
own_answer v process a (moves new x) y e = refl
own_answer v process a (leaves s x) y e = refl
own_answer v process a (queues u) y e = refl
own_answer v process a (writes address bytes) y e = refl
own_answer v process a (commands k n x y') y e = clash y.because.sent e

-- two outs with one answer, after which the process sees the same
pub record Equal (a : ℕ) (x y : Out World) : Type 0 where
  pub answer : x.answer ≡ y.answer
  pub after : Same a x.after y.after

module _ (a : ℕ) (x : Action) (w w' : World) (g : Good w.state) (g' : Good w'.state) (h : a < length w.state.board.processes) (quiet : sends_shared w.state.board x ≡ false) (s : Same a w w') where
  own_step : Equal a (step (own a x) w) (step (own a x) w')
  unfolding step perform view_of
  own_step =
      let same_decided : decided a x w ≡ decided a x w' = cc (s.view, s.process) in
      let board : w.state.board ≡ w'.state.board = same_board s in
      let areas : areas_at w.state.board a ≡ areas_at w'.state.board a = ap (λ b. areas_at b a) board in
      let h' : a < length w'.state.board.processes = subst (λ b. a < length b.processes) board h in
      record {
        answer = unclaimed a w.state.claims w'.state.claims (process_at w.state a) (decided a x w) own ∙ cc (same_decided, s.process);
        after = record {
          view = own_view a x w g h ∙ cc (s.view, s.process, same_decided, areas) ∙ sym (own_view a x w' g' h');
          process = own_process a x w g h ∙ cc (s.process, same_decided, areas) ∙ sym (own_process a x w' g' h');
          size = own_size a x w g h ∙ s.size ∙ sym (own_size a x w' g' h');
        };
      }
    where
      own : is_own_answer (decided a x w) ≡ true
      own = own_answer (view_of w a) (process_at w.state a) x (decided a x w) (decided_why a x w) quiet

  pub own_guarded : Equal a (guarded (own a x) w) (guarded (own a x) w')
  unfolding guarded provided◌then◌else◌
  own_guarded = rw (same_wrong (own a x) s) (go (wrong_image (own a x) (lent_of w')))
    where
      go : (t : Bool) → Equal a (provided t then record { answer = refuse_step (own a x) 1; after = w } else step (own a x) w) (provided t then record { answer = refuse_step (own a x) 1; after = w' } else step (own a x) w')
      go true = record { answer = refl; after = s }
      go false = own_step

-- any step that is its own
pub own_any : (a : ℕ) (s : Step) (w w' : World) → Good w.state → Good w'.state → a < length w.state.board.processes → sends_none w.state.board a (s ∷ []) ≡ true → is_own a s ≡ true → Same a w w'
    → Equal a (guarded s w) (guarded s w')
unfolding is_own sends_none
own_any a (own p x) w w' g g' h quiet e same =
    let p=a : p ≡ a = eqb-true p a e in
    let q : sends_shared w.state.board x ≡ false = not-true _ (both _ _ (rw e at quiet)).0 in
    subst (λ k. Equal a (guarded (own k x) w) (guarded (own k x) w')) (sym p=a) (own_guarded a x w w' g g' h q same)
own_any a (latch driver peak) w w' g g' h quiet e same = clash e refl
