-- Each wrong layer is refuted on every demand that speaks of it, by a short list of steps whose answers the checker computes. A layer that breaks
-- demand 3 breaks demand 1, since what is the definition everywhere keeps all three.
use Rattle.std.specs.Prelude.{ℕ, ◌≤◌, ◌<◌, ◌≡◌, true, false}
use Rattle.std.proofs.Math.Path.{refl}
use Rattle.std.proofs.Common.{sym, ap, ◌∙◌, arith}
use mathlib.Core.List.{List, [], ◌∷◌, ◌++◌}
use Rattle.std.proofs.Math.ListN.{length, get_or}
use Rattle.definition.specs.Board.{Kind, subscribe, read_write}
use Rattle.definition.specs.State.{null}
use Rattle.definition.specs.Answer.{memory, Part, Answer, registers, fetched, success_with1, success_with2, failure, success, INVAL, is_accepted}
use Rattle.definition.specs.Call.{pair, class_of}
use Rattle.definition.specs.Decide.{call, event, fetch}
use Rattle.definition.specs.World.{Step, own, Out}
use Rattle.definition.specs.Runs.{is_own, is_heard, own_steps, run, answers_to, all_answers, sends_none}
use Rattle.definition.specs.Words.{same_words}
use Rattle.definition.specs.Image.{pair_words, board_of}
use Rattle.definition.specs.Table.{Lent, world_of, table_step}
use Rattle.definition.specs.Cases.{zeros}
use Rattle.laws.specs.Facts.{never, clash}
use Rattle.layer.specs.Fetching.{part_of}
use Rattle.promises.specs.History.{Pending}
use Rattle.promises.specs.Accepted.{answer_to}
use Rattle.promises.specs.Layers.{Layer, Demand1, Demand2, Demand3, HidesDenied, Breaks}
use Rattle.promises.specs.AcceptedExactly.{accepted_exactly}
use Rattle.promises.specs.Guarded.{guarded}
use Rattle.promises.specs.Demand2.{accounting}
use Rattle.promises.specs.Demand3.{begun, refused_not_started, isolation}
use Rattle.promises.specs.Hidden.{hidden}
use Rattle.promises.specs.LayersKeep.{keeps_all}
use Rattle.promises.specs.Wrong.{always, always_inval, fixed_registers, first_repeated, inval_but_yields, nothing_stored, other_part, sum32, anothers_buffer, every_claim, upcalls_kept, denied_plain, slot_first, slot_looked_up, denied_reserved, never_starts}
use Rattle.promises.specs.Begins.{apart, lines_of, words, ready, begins, image, beginning, denied_words, denied_ready, denied_begins, subscribes, lends, accounted, same_bound, same_exchange, isolated_from, isolated, hidden_from}

breaks : (layer : Layer) → ¬ Demand2 layer → ¬ Demand3 layer → ¬ HidesDenied layer → Breaks layer
breaks layer two three hides = record { demand1 = λ d. three (keeps_all layer d).demand3; demand2 = two; demand3 = three; hides = hides }

-- processes 0 and 1
zeroth : 0 < 2
zeroth = omega arith

first : 1 < 2
first = omega arith

-- demand 2 from the start on: a bound, and an exchange; demand 3: the answers to a list
module _ (layer : Layer) where
  bound_differs : (n : ℕ) → 2 ≤ n → n ≤ 6 → is_accepted (answer_to beginning 0 5 n 0 0 0) ≡ true
      → same_words (lines_of ((layer.step (own 0 (call 5 n 0 0 0)) ready).answer ∷ [])) (lines_of (answer_to beginning 0 5 n 0 0 0 ∷ [])) ≡ false → ¬ Demand2 layer
  bound_differs n low high e f d = apart (λ r. lines_of (r ∷ [])) _ _ f (same_bound layer d 0 zeroth n low high e)

  exchange_differs : (kind : Kind) (driver j x y : ℕ) → is_accepted (layer.step (own 0 (call (class_of kind) driver j x y)) ready).answer ≡ true
      → same_words (lines_of ((layer.step (own 0 (call (class_of kind) driver j x y)) ready).answer ∷ [])) (lines_of (answer_to beginning 0 (class_of kind) driver j x y ∷ [])) ≡ false
      → ¬ Demand2 layer
  exchange_differs kind driver j x y e f d = apart (λ r. lines_of (r ∷ [])) _ _ f (same_exchange layer d 0 zeroth kind driver j x y e)

  answers_differ : (a : ℕ) → a < 2 → (l : List Step) → sends_none (board_of words) a l ≡ true
      → same_words (lines_of (answers_to layer.step (is_own a) l ready)) (lines_of (all_answers guarded (own_steps a l) beginning)) ≡ false → ¬ Demand3 layer
  answers_differ a h l quiet e d = apart lines_of _ _ e (isolated layer d a h l quiet)

  -- that a denied driver is hidden: the answers to calls and resumes
  denied_differ : (a : ℕ) → a < 2 → (l : List Step) → sends_none (board_of words) a l ≡ true
      → same_words (lines_of (answers_to layer.step (is_heard a) l denied_ready)) (lines_of (answers_to guarded (is_heard a) (own_steps a l) beginning)) ≡ false → ¬ HidesDenied layer
  denied_differ a h l quiet e d = apart lines_of _ _ e (hidden_from layer d a h l quiet)

-- ---- answers that do not go by the step

bounds : List Step
bounds = own 0 (call 5 2 0 0 0) ∷ own 0 (call 5 3 0 0 0) ∷ []

module _ (r : Answer) (stores : Step → Lent → Lent) where
  -- process 0 asks where its RAM starts, and where it ends
  two_answers : r ≡ success_with1 0x20000000 → r ≡ success_with1 0x20002000 → ⊥
  unfolding ready
  two_answers e f = apart (λ r. lines_of (r ∷ [])) (success_with1 0x20000000) (success_with1 0x20002000) refl (sym e ∙ f)

  always_two : ¬ Demand2 (always r stores)
  unfolding ready
  always_two d = two_answers (same_bound (always r stores) d 0 zeroth 2 (omega arith) (omega arith) refl) (same_bound (always r stores) d 0 zeroth 3 (omega arith) (omega arith) refl)

  always_three : ¬ Demand3 (always r stores)
  unfolding ready bounds
  always_three d =
      let e : r ∷ r ∷ [] ≡ success_with1 0x20000000 ∷ success_with1 0x20002000 ∷ [] = isolated (always r stores) d 0 zeroth bounds refl in
      two_answers (ap (λ l. get_or l 0 r) e) (ap (λ l. get_or l 1 r) e)

  always_hides : ¬ HidesDenied (always r stores)
  unfolding denied_ready bounds
  always_hides d =
      let e : r ∷ r ∷ [] ≡ success_with1 0x20000000 ∷ success_with1 0x20002000 ∷ [] = hidden_from (always r stores) d 0 zeroth bounds refl in
      two_answers (ap (λ l. get_or l 0 r) e) (ap (λ l. get_or l 1 r) e)

  pub always_wrong : Breaks (always r stores)
  always_wrong = breaks (always r stores) always_two always_three always_hides

pub inval_wrong : (stores : Step → Lent → Lent) → Breaks (always_inval stores)
inval_wrong stores = always_wrong (failure INVAL) stores

pub registers_wrong : (r0 r1 r2 r3 : ℕ) (stores : Step → Lent → Lent) → Breaks (fixed_registers r0 r1 r2 r3 stores)
registers_wrong r0 r1 r2 r3 stores = always_wrong (registers r0 r1 r2 r3) stores

pub repeated_wrong : (s : Step) (x : Lent) (stores : Step → Lent → Lent) → Breaks (first_repeated s x stores)
repeated_wrong s x stores = always_wrong (table_step s x).answer stores

-- process 0 asks where its RAM starts, which is no yield
pub inval_but_yields_wrong : (stores : Step → Lent → Lent) → Breaks (inval_but_yields stores)
unfolding denied_ready
inval_but_yields_wrong stores =
    breaks (inval_but_yields stores) (bound_differs (inval_but_yields stores) 2 (omega arith) (omega arith) refl refl)
    (answers_differ (inval_but_yields stores) 0 zeroth (own 0 (call 5 2 0 0 0) ∷ []) refl refl)
    (denied_differ (inval_but_yields stores) 0 zeroth (own 0 (call 5 2 0 0 0) ∷ []) refl refl)

-- ---- the definition, but for one thing

-- of two subscribes the second returns the pair of the first
pub nothing_stored_wrong : Breaks nothing_stored
unfolding denied_ready subscribes
nothing_stored_wrong =
    breaks nothing_stored (λ d. apart pair_words null (pair 0x00040010 7) refl ((accounted nothing_stored d 0 zeroth (subscribes ∷ [])).returns subscribe 1 0 0 8 null refl))
    (answers_differ nothing_stored 0 zeroth (subscribes ∷ own 0 (call 1 1 0 0 8) ∷ []) refl refl)
    (denied_differ nothing_stored 0 zeroth (subscribes ∷ own 0 (call 1 1 0 0 8) ∷ []) refl refl)

-- an address whose sum with the size wraps
pub sum32_wrong : Breaks sum32
unfolding denied_ready
sum32_wrong =
    breaks sum32 (exchange_differs sum32 read_write 1 0 0xFFFFFFFF 2 refl refl) (answers_differ sum32 0 zeroth (own 0 (call 3 1 0 0xFFFFFFFF 2) ∷ []) refl refl)
    (denied_differ sum32 0 zeroth (own 0 (call 3 1 0 0xFFFFFFFF 2) ∷ []) refl refl)

-- a subscribe while an upcall is pending: the history tells of none afterwards
again : List Step
unfolding subscribes
again = subscribes ∷ own 0 (event 1 0 1 2 3) ∷ own 0 (call 1 1 0 0x00040020 8) ∷ []

none_first : {u : Pending} {rest : List Pending} → [] ≡ u ∷ rest → ⊥
none_first e = never (cc)

pub upcalls_kept_wrong : Breaks upcalls_kept
unfolding denied_ready subscribes again
upcalls_kept_wrong =
    breaks upcalls_kept (λ d. none_first ((accounted upcalls_kept d 0 zeroth again).delivers (call 0 0 0 0 0) 0x00040010 1 2 3 7 refl).first)
    (answers_differ upcalls_kept 0 zeroth (again ++ (own 0 (call 0 0 0 0 0) ∷ [])) refl refl)
    (denied_differ upcalls_kept 0 zeroth (again ++ (own 0 (call 0 0 0 0 0) ∷ [])) refl refl)

-- process 0's buffer is not process 1's
pub anothers_buffer_wrong : Breaks anothers_buffer
unfolding denied_ready lends
anothers_buffer_wrong =
    breaks anothers_buffer (λ d. apart pair_words (pair 0x20000F00 0x100) null refl ((accounted anothers_buffer d 1 first (lends ∷ [])).returns read_write 1 0 0 0 (pair 0x20000F00 0x100) refl))
    (answers_differ anothers_buffer 1 first (lends ∷ own 1 (call 3 1 0 0 0) ∷ []) refl refl)
    (denied_differ anothers_buffer 1 first (lends ∷ own 1 (call 3 1 0 0 0) ∷ []) refl refl)

-- process 0 claims a driver that process 1 owns: on the state then, the definition would not accept it. Demand 3 says nothing of claims: it speaks of
-- processes that send no command above 0 to a shared driver
claims : List Step
claims = own 1 (call 2 0x90000 1 0 0) ∷ []

pub every_claim_wrong_2 : ¬ Demand2 every_claim
unfolding ready claims
every_claim_wrong_2 d =
    let may = (((accounted every_claim d 0 zeroth claims).accepts image).claim 0x90000 0 0).0 refl in
    clash (((accepted_exactly (world_of (run every_claim.step claims ready)) refl 0).claim 0x90000 0 0).1 may) refl

-- it claims a driver that is denied to it, too
pub every_claim_wrong_hides : ¬ HidesDenied every_claim
unfolding denied_ready
every_claim_wrong_hides = denied_differ every_claim 0 zeroth (own 0 (call 2 7 1 0 0) ∷ []) refl refl

pub every_claim_wrong_1 : ¬ Demand1 every_claim
every_claim_wrong_1 d = every_claim_wrong_2 (keeps_all every_claim d).demand2

-- ---- a call of driver 7, which is denied to process 0, is answered otherwise. Demand 2 says nothing of it: it speaks of what is accepted

pub record Unhidden (layer : Layer) : Type 0 where
  pub demand1 : ¬ Demand1 layer
  pub demand3 : ¬ Demand3 layer
  pub hides : ¬ HidesDenied layer

unhidden : (layer : Layer) (s : Step) → let l = s ∷ [] in sends_none (board_of words) 0 l ≡ true → sends_none (board_of denied_words) 0 l ≡ true
    → same_words (lines_of (answers_to layer.step (is_own 0) l denied_ready)) (lines_of (all_answers guarded (own_steps 0 l) (begun denied_words zeros))) ≡ false
    → same_words (lines_of (answers_to layer.step (is_heard 0) l denied_ready)) (lines_of (answers_to guarded (is_heard 0) (own_steps 0 l) beginning)) ≡ false → Unhidden layer
unfolding denied_ready
unhidden layer s quiet quiet' e f =
    let three : ¬ Demand3 layer = λ d. apart lines_of _ _ e (isolated_from layer d denied_words denied_begins 0 zeroth (s ∷ []) quiet') in
    record { demand1 = λ d. three (keeps_all layer d).demand3; demand3 = three; hides = denied_differ layer 0 zeroth (s ∷ []) quiet f }

pub denied_plain_wrong : Unhidden denied_plain
unfolding denied_ready
denied_plain_wrong = unhidden denied_plain (own 0 (call 3 7 0 5 6)) refl refl refl refl

pub slot_first_wrong : Unhidden slot_first
unfolding denied_ready
slot_first_wrong = unhidden slot_first (own 0 (call 3 7 9 5 6)) refl refl refl refl

pub slot_looked_up_wrong : Unhidden slot_looked_up
unfolding denied_ready
slot_looked_up_wrong = unhidden slot_looked_up (own 0 (call 3 7 0 5 6)) refl refl refl refl

pub denied_reserved_wrong : Unhidden denied_reserved
unfolding denied_ready
denied_reserved_wrong = unhidden denied_reserved (own 0 (call 2 7 0 0 0)) refl refl refl refl

-- ---- a fetch with a made-up length, whatever other length it is. Demand 2 says nothing of fetches: it speaks of calls and of deliveries

fetches : List Step
fetches = own 0 (call 4 1 0 0x20000F00 0x100) ∷ own 0 (fetch 1 0 0 2) ∷ []

module _ (made : Part → Part) (other : (x : Part) → length (made x).bytes ≡ length x.bytes → ⊥) where
  pub length_wrong_3 : ¬ Demand3 (other_part made)
  unfolding ready fetches
  length_wrong_3 d =
      let handed : Part = record { image = memory; place = 0x0F00; bytes = 0 ∷ 0 ∷ [] } in
      let e : success_with2 null ∷ fetched 0 (made handed) ∷ [] ≡ success_with2 null ∷ fetched 0 handed ∷ [] = isolated (other_part made) d 0 zeroth fetches refl in
      other handed (ap (λ l. length (part_of (get_or l 1 success)).bytes) e)

  pub length_wrong_1 : ¬ Demand1 (other_part made)
  length_wrong_1 d = length_wrong_3 (keeps_all (other_part made) d).demand3

-- ---- a start that always refuses. Demands 2 and 3 begin with the definition's start, so that they are not empty where a layer refuses to start: of a layer's
-- own start they say nothing, and this one keeps both

pub never_starts_wrong_1 : (n : ℕ) → ¬ Demand1 (never_starts n)
never_starts_wrong_1 n d = refused_not_started n (ap (λ (o : Out Lent). o.answer) (d.starts words zeros) ∙ begins)

pub never_starts_keeps : (n : ℕ) → Demand2 (never_starts n) × (Demand3 (never_starts n) × HidesDenied (never_starts n))
never_starts_keeps n = (accounting, (isolation, hidden))
