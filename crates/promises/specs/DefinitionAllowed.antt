-- The definition is a layer that the contracts allow: what holds of every such layer is not empty. A step goes by the images that it takes and leaves
-- the others as they were; a deposit leaves the table; and for each fetch there is a slice that is the part.
use Rattle.std.specs.Prelude.{ℕ, ◌≡◌, refl, Bool, true, false, not, List, [], ◌∷◌, eqb}
use Rattle.std.proofs.Common.{sym, ap, ◌∙◌, subst, eqb-true}
use Rattle.std.proofs.lemmas.Bool.{not-false}
use Rattle.std.specs.Borrow.{Bor}
use Rattle.definition.specs.Tests.{provided◌then◌else◌, ◌when◌, first_of}
use Rattle.definition.specs.Board.{areas_at, place_of}
use Rattle.definition.specs.State.{Process, State}
use Rattle.definition.specs.Answer.{Answer, refused, started, fetched, changes_nothing, number_of}
use Rattle.definition.specs.Call.{Decoded, known, aside, decode, yield_no_wait, yield_wait, exchange, command, break_to, break_by, bound, exit_terminate, exit_restart}
use Rattle.definition.specs.Decide.{Action, call, event, resume, deposit, fetch, View, Outcome, answers, writes, decide_exchange_at, decide_exchange, decide_command_at, decide_command, decide_break, decide_break_by, decide_known, decide_call, decide_accepted, refusal, decide}
use Rattle.definition.specs.World.{no_write, process_after, claims_after, write_of, World, Step, own, latch, Out, process_at, view_of, store, perform, latch_refusal, latch_step, step}
use Rattle.definition.specs.Image.{image_of, state_of, well_formed}
use Rattle.definition.specs.Table.{Lent, wrong_image, refuse_step, world_of, lent_of, out_of, table_step, start}
use Rattle.laws.specs.Facts.{either, passed}
use Rattle.laws.specs.Kept.{decided}
use Rattle.laws.specs.Unchanged.{put_back, unwritten, unchanged}
use Rattle.laws.specs.ImageBack.{image_again}
use Rattle.layer.specs.Steps.{lent, gave, world}
use Rattle.layer.specs.Fetching.{part_of, stands_at}
use Rattle.layer.specs.StatementLaws.{fetch_whole}
use Rattle.bridge.specs.Calls.{Called, called, evented, resumed, deposited, handed, latched}
use Rattle.promises.specs.LayerPromises.{Begun, begun}
use Rattle.promises.specs.Layers.{definition, Keeps, Allowed}
use Rattle.promises.specs.LayersKeep.{allowed_keeps}

-- ---- what is decided of a call does not go by the flash image

call_blind : (v : View) (f : List ℕ) (process : Process) (d : Decoded) → decide_call (record { self = v.self; board = v.board; ram = v.ram; flash_image = f }) process d ≡ decide_call v process d
unfolding decide_call decide_known decide_exchange decide_exchange_at decide_command decide_command_at decide_break decide_break_by
call_blind v f process (known (yield_no_wait address)) = refl
call_blind v f process (known yield_wait) = refl
call_blind v f process (known (exchange kind driver j x)) = refl
call_blind v f process (known (command driver number x y)) = refl
call_blind v f process (known (break_to new)) = refl
call_blind v f process (known (break_by change)) = refl
call_blind v f process (known (bound operation)) = refl
call_blind v f process (known (exit_terminate code)) = refl
call_blind v f process (known (exit_restart code)) = refl
call_blind v f process (aside answer) = refl

step_call : (p class r0 r1 r2 r3 : ℕ) (w : World) (f : List ℕ) → let o = step (own p (call class r0 r1 r2 r3)) w in
    step (own p (call class r0 r1 r2 r3)) (record { state = w.state; memory = w.memory; flash = f }) ≡ record { answer = o.answer; after = record { state = o.after.state; memory = o.after.memory; flash = f } }
unfolding step perform decide decide_accepted refusal view_of
step_call p class r0 r1 r2 r3 w f =
    let n = refusal (view_of w p) (process_at w.state p) (call class r0 r1 r2 r3) in
    ap (λ o. perform p (provided eqb n 0 then o else answers (refused n)) (record { state = w.state; memory = w.memory; flash = f })) (call_blind (view_of w p) f (process_at w.state p) (decode class r0 r1 r2 r3))

-- ---- a step on other images, of which it leaves those that it does not take

-- the number by which rows 1 and 2 refuse a step
abbrev rows_of : Step → Lent → ℕ
rows_of s x = first_of (1 when wrong_image s x ∷ 2 when not (well_formed x.table) ∷ [])

made : (s : Step) (x : Lent) (put : Lent → Lent) → rows_of s (put x) ≡ rows_of s x → out_of (step s (world_of (put x))) ≡ gave (step s (world_of x)).answer (put (lent_of (step s (world_of x)).after))
    → table_step s (put x) ≡ gave (table_step s x).answer (put (table_step s x).after)
unfolding table_step provided◌then◌else◌
made s x put e q = rw e (go (eqb (rows_of s x) 0) (refuse_step s (rows_of s x)))
  where
    go : (b : Bool) (r : Answer) → (provided b then out_of (step s (world_of (put x))) else gave r (put x)) ≡ gave (provided b then out_of (step s (world_of x)) else gave r x).answer (put (provided b then out_of (step s (world_of x)) else gave r x).after)
    go true r = q
    go false r = refl

call_made : (p class r0 r1 r2 r3 : ℕ) (x : Lent) (f : List ℕ) → let o = table_step (own p (call class r0 r1 r2 r3)) x in
    table_step (own p (call class r0 r1 r2 r3)) (lent x.table x.memory f) ≡ gave o.answer (lent o.after.table o.after.memory f)
unfolding wrong_image
call_made p class r0 r1 r2 r3 x f = made _ x (λ y. lent y.table y.memory f) refl (ap out_of (step_call p class r0 r1 r2 r3 (world_of x) f))

-- a step of a process that writes no byte
unwritten_step : (p : ℕ) (a : Action) (w : World) → store (write_of (areas_at w.state.board p) (process_at w.state p) (decided p a w)) w.memory ≡ w.memory
    → step (own p a) w ≡ record { answer = (step (own p a) w).answer; after = record { state = (step (own p a) w).after.state; memory = w.memory; flash = w.flash } }
unfolding step perform
unwritten_step p a w e = ap (λ l. record { answer = (step (own p a) w).answer; after = record { state = (step (own p a) w).after.state; memory = l; flash = w.flash } }) e

-- of two outcomes that write no byte, the one that is taken
neither : (p : ℕ) (w : World) (b : Bool) (o o' : Outcome) → write_of (areas_at w.state.board p) (process_at w.state p) o ≡ no_write → write_of (areas_at w.state.board p) (process_at w.state p) o' ≡ no_write
    → store (write_of (areas_at w.state.board p) (process_at w.state p) (provided b then o else o')) w.memory ≡ w.memory
neither p w b o o' e e' =
    either (λ o. store (write_of (areas_at w.state.board p) (process_at w.state p) o) w.memory ≡ w.memory) b o o' (λ _. rw e (unwritten p w)) (λ _. rw e' (unwritten p w))

event_made : (p driver j a0 a1 a2 : ℕ) (x : Lent) (m f : List ℕ) → let o = table_step (own p (event driver j a0 a1 a2)) x in
    table_step (own p (event driver j a0 a1 a2)) (lent x.table m f) ≡ gave o.answer (lent o.after.table m f)
unfolding wrong_image step perform decide decide_accepted refusal view_of write_of
event_made p driver j a0 a1 a2 x m f =
    made _ x (λ y. lent y.table m f) refl (ap out_of (unwritten_step p (event driver j a0 a1 a2) (world x.table m f) (neither p (world x.table m f) _ _ _ refl refl)))

resume_made : (p : ℕ) (x : Lent) (m f : List ℕ) → let o = table_step (own p resume) x in
    table_step (own p resume) (lent x.table m f) ≡ gave o.answer (lent o.after.table m f)
unfolding wrong_image step perform decide decide_accepted refusal view_of write_of
resume_made p x m f = made _ x (λ y. lent y.table m f) refl (ap out_of (unwritten_step p resume (world x.table m f) (neither p (world x.table m f) _ _ _ refl refl)))

latch_made : (driver peak : ℕ) (x : Lent) (m f : List ℕ) → let o = table_step (latch driver peak) x in
    table_step (latch driver peak) (lent x.table m f) ≡ gave o.answer (lent o.after.table m f)
unfolding wrong_image step latch_step provided◌then◌else◌
latch_made driver peak x m f = made _ x (λ y. lent y.table m f) refl (go (eqb (latch_refusal (state_of x.table).board (place_of (state_of x.table).board.drivers driver)) 0) _ _ _)
  where
    go : (b : Bool) (r r' : Answer) (s : State) → let o : World → Out World = λ w. provided b then record { answer = r; after = record { state = s; memory = w.memory; flash = w.flash } } else record { answer = r'; after = w } in
        out_of (o (world x.table m f)) ≡ gave (o (world_of x)).answer (lent (image_of (o (world_of x)).after.state) m f)
    go true r r' s = refl
    go false r r' s = refl

-- ---- a deposit leaves the table

deposit_made : (p driver j offset : ℕ) (bytes : List ℕ) (x : Lent) (f : List ℕ) → let o = table_step (own p (deposit driver j offset bytes)) x in
    table_step (own p (deposit driver j offset bytes)) (lent x.table x.memory f) ≡ gave o.answer (lent o.after.table o.after.memory f)
unfolding wrong_image step perform decide decide_accepted refusal view_of
deposit_made p driver j offset bytes x f = made _ x (λ y. lent y.table y.memory f) refl refl

-- the outcomes of a deposit leave the state
state_kept : (p : ℕ) (w : World) (b : Bool) (address : ℕ) (bytes : List ℕ) (r : Answer) → (perform p (provided b then writes address bytes else answers r) w).after.state ≡ w.state
unfolding perform process_after claims_after provided◌then◌else◌
state_kept p w true address bytes r = λ i. record { board = w.state.board; processes = put_back p w i; claims = w.state.claims }
state_kept p w false address bytes r = λ i. record { board = w.state.board; processes = put_back p w i; claims = w.state.claims }

deposit_table : (p driver j offset : ℕ) (bytes : List ℕ) (x : Lent) → (table_step (own p (deposit driver j offset bytes)) x).after.table ≡ x.table
unfolding table_step step decide decide_accepted
deposit_table p driver j offset bytes x = either (λ (o : Out Lent). o.after.table ≡ x.table) _ _ _
    (λ e. ap image_of (state_kept p (world_of x) _ _ bytes _) ∙ image_again x.table (not-false _ (passed _ _ _ (passed _ _ _ (eqb-true _ 0 e)).1).0))
    (λ _. refl)

-- ---- the definition's values, one by one

module _ (x : Lent) where
  -- what a call leaves is what its contract says
  left : {s : Step} {y : Lent} → Called s x (table_step s x).answer y → table_step s x ≡ gave (table_step s x).answer y → Called s x (table_step s x).answer (table_step s x).after
  left {s} c e = subst (Called s x (table_step s x).answer) (sym (ap (λ (o : Out Lent). o.after) e)) c

  fetch_called : (p driver j offset n : ℕ) → let s = own p (fetch driver j offset n) in Called s x (table_step s x).answer (table_step s x).after
  fetch_called p driver j offset n =
      let s = own p (fetch driver j offset n) in
      let r : Answer = (table_step s x).answer in
      let e : r ≡ fetched (number_of r) (part_of r) = fetch_whole p driver j offset n x in
      let lently : List ℕ → Bor (List ℕ) = λ l. record { ref_ptr = (0, 0); now = l } in
      let slice : Bor (List ℕ) = record { ref_ptr = stands_at (part_of r) (lently x.memory) (lently x.flash); now = (part_of r).bytes } in
      left (subst (λ r. Called s x r x) (sym e) (handed {t = x.table} {m = lently x.memory} {f = lently x.flash} {r = slice} refl (record { bytes = refl; place = refl })))
      (ap (gave r) (unchanged.tables s x (ap changes_nothing e)))

  step_called : (s : Step) → Called s x (table_step s x).answer (table_step s x).after
  step_called (own p (call class r0 r1 r2 r3)) =
      let e = call_made p class r0 r1 r2 r3 x in
      left (called e) (e x.flash)
  step_called (own p (event driver j a0 a1 a2)) =
      let e = event_made p driver j a0 a1 a2 x in
      left (evented e) (e x.memory x.flash)
  step_called (own p resume) =
      let e = resume_made p x in
      left (resumed e) (e x.memory x.flash)
  step_called (own p (deposit driver j offset bytes)) =
      let s = own p (deposit driver j offset bytes) in
      let e : (f : List ℕ) → table_step s (lent x.table x.memory f) ≡ gave (table_step s x).answer (lent x.table (table_step s x).after.memory f) =
      λ f. deposit_made p driver j offset bytes x f ∙ ap (λ t. gave (table_step s x).answer (lent t (table_step s x).after.memory f)) (deposit_table p driver j offset bytes x) in
      left (deposited e) (e x.flash)
  step_called (own p (fetch driver j offset n)) = fetch_called p driver j offset n
  step_called (latch driver peak) =
      let e = latch_made driver peak x in
      left (latched e) (e x.memory x.flash)

-- start takes no image
started_any : (b : Bool) (r : Answer) (t t' m f m' f' : List ℕ) → let o : List ℕ → List ℕ → Out Lent = λ m f. provided b then gave started (lent t' m f) else gave r (lent t m f) in
    o m f ≡ gave (o m' f').answer (lent (o m' f').after.table m f)
unfolding provided◌then◌else◌
started_any true r t t' m f m' f' = refl
started_any false r t t' m f m' f' = refl

start_made : (words : List ℕ) (x : Lent) (m f : List ℕ) → start words (lent x.table m f) ≡ gave (start words x).answer (lent (start words x).after.table m f)
unfolding start
start_made words x m f = started_any _ _ x.table _ m f x.memory x.flash

start_begun : (words : List ℕ) (x : Lent) → Begun words x (start words x).answer (start words x).after
start_begun words x =
    subst (Begun words x (start words x).answer) (sym (ap (λ (o : Out Lent). o.after) (start_made words x x.memory x.flash)))
    (begun (start_made words x))

pub definition_allowed : Allowed definition
definition_allowed = record { starts = start_begun; steps = λ s x. step_called x s }

pub definition_keeps : Keeps definition
definition_keeps = allowed_keeps definition definition_allowed
