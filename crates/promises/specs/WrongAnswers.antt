-- Wrong answers of each public function of the layer contradict its statement, on tables that are reached from the start of the cases: no code whatever could
-- be proved with them.
use Prim.Native.Nat.{ℕ, ◌+◌}
use Rattle.std.specs.Prelude.{◌≡◌, refl, false, List, [], ◌∷◌, length, get_or, Result}
use Rattle.std.proofs.Common.{sym, ◌∙◌}
use Rattle.std.proofs.Math.Path.{ap}
use Rattle.std.specs.Borrow.{Bor}
use Rattle.definition.specs.Tests.{provided◌then◌else◌}
use Rattle.definition.specs.Board.{subscribe}
use Rattle.definition.specs.State.{held, free, State}
use Rattle.definition.specs.Answer.{memory, empty_part, Answer, refused, waits, taken, deposited, latched, fetched, failure, INVAL, number_of}
use Rattle.definition.specs.Decide.{call, event, resume, deposit, fetch}
use Rattle.definition.specs.World.{World, Step, own, latch, Out, process_at}
use Rattle.definition.specs.Runs.{run}
use Rattle.definition.specs.Words.{same_words}
use Rattle.definition.specs.Image.{pair_words, state_of}
use Rattle.definition.specs.Table.{Lent, lent_of, table_step}
use Rattle.definition.specs.Replay.{Stop, at_end, play_at}
use Rattle.definition.specs.Cases.{zeros}
use Rattle.definition.specs.TraceCases.{whole_trace, in_room, rooms_kept}
use Rattle.laws.specs.Good.{Good, of_good}
use Rattle.laws.specs.ImageBack.{good_back}
use Rattle.types.specs.declared.Refusal.{Refusal}
use Rattle.types.specs.Meaning.{refusal_of}
use Rattle.layer.specs.declared.Place.{Place}
use Rattle.layer.specs.declared.Progress.{Progress}
use Rattle.layer.specs.declared.Progress.TheVariants.{Paused}
use Rattle.layer.specs.Steps.{gave, Makes, MakesAlone, Starts}
use Rattle.layer.specs.Fetching.{part_of, handed, Lies, Finds, stands_at, IsPart}
use Rattle.layer.specs.Replaying.{progress_by, Plays}
use Rattle.layer.specs.StatementLaws.{part_size}
use Rattle.host.specs.Runs.{progress_words}
use Rattle.promises.specs.Guarded.{guarded, run_keeps, guarded_keeps, table_step_lem}
use Rattle.promises.specs.Demand3.{refused_not_started}
use Rattle.promises.specs.Begins.{apart, lines_of, words, ready, begins, beginning, good, ready_is, subscribes, lends}

-- ---- what a statement says of a step, after a list of steps from the start

abbrev pub at : List Step → World
at l = run guarded l beginning

abbrev pub table_at : List Step → List ℕ
table_at l = (lent_of (at l)).table

abbrev pub memory_at : List Step → List ℕ
memory_at l = (at l).memory

pub good_at : (l : List Step) → Good (at l).state
good_at l = run_keeps l beginning good

module _ (l : List Step) (s : Step) (r : Answer) (y : Lent) (e : table_step s (lent_of (at l)) ≡ gave r y) where
  -- the answer, the state that the table reads as, and the memory image
  it_is : gave r y ≡ record { answer = (guarded s (at l)).answer; after = lent_of (guarded s (at l)).after }
  it_is = sym e ∙ table_step_lem s (at l) (good_at l)

  pub answer_is : r ≡ (guarded s (at l)).answer
  answer_is = ap (λ (o : Out Lent). o.answer) it_is

  pub state_is : state_of y.table ≡ (guarded s (at l)).after.state
  state_is = ap (λ (o : Out Lent). state_of o.after.table) it_is ∙ good_back _ (of_good _ (guarded_keeps s (at l) (good_at l)))

  pub memory_is : y.memory ≡ (guarded s (at l)).after.memory
  memory_is = ap (λ (o : Out Lent). o.after.memory) it_is

  -- another line is no answer to it
  pub other_answer : same_words (lines_of (r ∷ [])) (lines_of ((guarded s (at l)).answer ∷ [])) ≡ false → ⊥
  other_answer f = apart (λ r. lines_of (r ∷ [])) r (guarded s (at l)).answer f answer_is

  -- nor is a table that stays as it was, where something of the state changes
  pub unstored : (f : State → List ℕ) → y.table ≡ table_at l → same_words (f (at l).state) (f (guarded s (at l)).after.state) ≡ false → ⊥
  unstored f same e = apart f (at l).state (guarded s (at l)).after.state e (sym (good_back (at l).state (of_good _ (good_at l))) ∙ ap state_of (sym same) ∙ state_is)

-- ---- start

-- it refuses a good board
pub start_refuses : (n : ℕ) (t' : List ℕ) → ¬ Starts words zeros.table (refused n) t'
start_refuses n t' e = refused_not_started n (sym (ap (λ (o : Out Lent). o.answer) (e zeros.memory zeros.flash)) ∙ begins)

-- it stores nothing
pub start_unstored : (r : Answer) → ¬ Starts words zeros.table r zeros.table
unfolding ready
start_unstored r e = apart (λ (x : Lent). get_or x.table 0 0 ∷ []) (lent_of beginning) zeros refl (sym ready_is ∙ ap (λ (o : Out Lent). o.after) (e zeros.memory zeros.flash))

-- ---- steps whose answer is another, or whose effect is missing

-- an answer to a step after a list, and what is lent then
abbrev pub Given : List Step → Step → Answer → Lent → Type 0
Given l s r y = table_step s (lent_of (at l)) ≡ gave r y

-- process 0 asks where its RAM starts, and is told INVAL
unfoldable pub asks : Step
asks = own 0 (call 5 2 0 0 0)

pub asks_inval : (y : Lent) → ¬ Given [] asks (failure INVAL) y
unfolding ready asks
asks_inval y e = other_answer [] asks _ _ e refl

-- it subscribes, and nothing is stored
pub subscribes_unstored : (r : Answer) (y : Lent) → y.table ≡ table_at [] → ¬ Given [] subscribes r y
unfolding ready subscribes
subscribes_unstored r y same e = unstored [] subscribes _ _ e (λ s. pair_words (held subscribe (process_at s 0) 0 0)) same refl

-- an event for a slot without an upcall is taken; one is taken, and nothing is queued
unfoldable pub events : Step
events = own 0 (event 1 0 1 2 3)

pub events_made_up : (y : Lent) → ¬ Given [] events taken y
unfolding ready events
events_made_up y e = other_answer [] events _ _ e refl

pub events_unqueued : (r : Answer) (y : Lent) → y.table ≡ table_at (subscribes ∷ []) → ¬ Given (subscribes ∷ []) events r y
unfolding ready subscribes events
events_unqueued r y same e = unstored (subscribes ∷ []) events _ _ e (λ s. length (process_at s 0).queue ∷ []) same refl

-- a running process is told to wait; a waiting one keeps the upcall that it is given
unfoldable pub pending : List Step
unfolding subscribes events
pending = subscribes ∷ own 0 (call 0 1 0 0 0) ∷ events ∷ []

pub resumes_running : (y : Lent) → ¬ Given [] (own 0 resume) waits y
unfolding ready
resumes_running y e = other_answer [] (own 0 resume) _ _ e refl

pub resumes_keeps : (r : Answer) (y : Lent) → y.table ≡ table_at pending → ¬ Given pending (own 0 resume) r y
unfolding ready pending subscribes events
resumes_keeps r y same e = unstored pending (own 0 resume) _ _ e (λ s. length (process_at s 0).queue ∷ []) same refl

-- two bytes are deposited in an empty buffer; in one that is lent, and none is written
unfoldable pub deposits : Step
deposits = own 0 (deposit 1 0 0 (10 ∷ 20 ∷ []))

pub deposits_made_up : (y : Lent) → ¬ Given [] deposits deposited y
unfolding ready deposits
deposits_made_up y e = other_answer [] deposits _ _ e refl

pub deposits_unwritten : (r : Answer) (y : Lent) → y.memory ≡ memory_at (lends ∷ []) → ¬ Given (lends ∷ []) deposits r y
unfolding ready deposits lends
deposits_unwritten r y same e = apart (λ m. get_or m 0xF00 0 ∷ []) _ _ refl (sym same ∙ memory_is (lends ∷ []) deposits _ _ e)

-- a driver that is not shared is given a peak; one that is, and it is not stored
pub latches_unshared : (y : Lent) → ¬ Given [] (latch 1 5) latched y
unfolding ready
latches_unshared y e = other_answer [] (latch 1 5) _ _ e refl

pub latches_unstored : (r : Answer) (y : Lent) → y.table ≡ table_at [] → ¬ Given [] (latch 0x90000 5) r y
unfolding ready
latches_unstored r y same e = unstored [] (latch 0x90000 5) _ _ e (λ s. (get_or s.claims 1 free).latch ∷ []) same refl

-- ---- and so of the public functions

pub call_inval : (t' m' : List ℕ) → ¬ Makes asks (table_at []) (memory_at []) (failure INVAL) t' m'
call_inval t' m' e = asks_inval _ (e _)

pub call_unstored : (r : Answer) (m' : List ℕ) → ¬ Makes subscribes (table_at []) (memory_at []) r (table_at []) m'
call_unstored r m' e = subscribes_unstored _ _ refl (e _)

pub event_made_up : (t' : List ℕ) → ¬ MakesAlone events (table_at []) taken t'
event_made_up t' e = events_made_up _ (e _ _)

pub event_unqueued : (r : Answer) → ¬ MakesAlone events (table_at (subscribes ∷ [])) r (table_at (subscribes ∷ []))
event_unqueued r e = events_unqueued _ _ refl (e _ _)

pub resume_running : (t' : List ℕ) → ¬ MakesAlone (own 0 resume) (table_at []) waits t'
resume_running t' e = resumes_running _ (e _ _)

pub resume_keeps : (r : Answer) → ¬ MakesAlone (own 0 resume) (table_at pending) r (table_at pending)
resume_keeps r e = resumes_keeps _ _ refl (e _ _)

pub deposit_made_up : (t' m' : List ℕ) → ¬ Makes deposits (table_at []) (memory_at []) deposited t' m'
deposit_made_up t' m' e = deposits_made_up _ (e _)

pub deposit_unwritten : (r : Answer) (t' : List ℕ) → ¬ Makes deposits (table_at (lends ∷ [])) (memory_at (lends ∷ [])) r t' (memory_at (lends ∷ []))
deposit_unwritten r t' e = deposits_unwritten _ _ refl (e _)

pub latch_unshared : (t' : List ℕ) → ¬ MakesAlone (latch 1 5) (table_at []) latched t'
latch_unshared t' e = latches_unshared _ (e _ _)

pub latch_unstored : (r : Answer) → ¬ MakesAlone (latch 0x90000 5) (table_at []) r (table_at [])
latch_unstored r e = latches_unstored _ _ refl (e _ _)

-- ---- a fetch of two bytes: of an empty buffer, and of one that is lent

unfoldable pub reads : Step
reads = own 0 (fetch 1 0 0 2)

-- what the definition answers, after a list
abbrev pub read_after : List Step → Answer
read_after l = (table_step reads (lent_of (at l))).answer

read_is : (l : List Step) → read_after l ≡ (guarded reads (at l)).answer
read_is l = ap (λ (o : Out Lent). o.answer) (table_step_lem reads (at l) (good_at l))

unfoldable pub shows : List Step
shows = own 0 (call 4 1 0 0x20000F00 0x100) ∷ []

pub none_read : read_after [] ≡ fetched 9 empty_part
unfolding ready reads
none_read = read_is [] ∙ refl

pub two_read : read_after shows ≡ fetched 0 (record { image = memory; place = 0xF00; bytes = 0 ∷ 0 ∷ [] })
unfolding ready reads shows
two_read = read_is shows ∙ refl

-- fetch_number: another number
pub number_made_up : (n : ℕ) → (n ≡ 9 → ⊥) → ¬ (n ≡ number_of (read_after []))
number_made_up n other e = other (e ∙ ap number_of none_read)

pub number_refused : (n : ℕ) → (n ≡ 0 → ⊥) → ¬ (n ≡ number_of (read_after shows))
number_refused n other e = other (e ∙ ap number_of two_read)

-- fetch: another length; the bytes of another place, be they equal or not
module _ (m f r : Bor (List ℕ)) where
  pub part_length : (length r.now ≡ 2 → ⊥) → ¬ IsPart (part_of (read_after shows)) m f r
  part_length other p = other (ap length (p.bytes ∙ ap (λ a. (part_of a).bytes) two_read))

  pub part_elsewhere : (r.ref_ptr ≡ (m.ref_ptr.0, m.ref_ptr.1 + 0xF00) → ⊥) → ¬ IsPart (part_of (read_after shows)) m f r
  part_elsewhere other p = other (p.place ∙ ap (λ a. stands_at (part_of a) m f) two_read)

-- fetch_place, and fetch_answer: another length or place; of the latter another number, too
pub place_length : (r : Place) → (r.length ≡ 2 → ⊥) → ¬ Lies (part_of (read_after shows)) r
place_length r other p = other (p.size ∙ ap (λ a. length (part_of a).bytes) two_read)

pub place_elsewhere : (r : Place) → (r.place ≡ 0xF00 → ⊥) → ¬ Lies (part_of (read_after shows)) r
place_elsewhere r other p = other (p.place ∙ ap (λ a. (part_of a).place) two_read)

module _ (r : Result Place Refusal) where
  pub fetch_refused : (refusal_of r ≡ 0 → ⊥) → ¬ Finds (read_after shows) (memory_at shows) (at shows).flash r
  fetch_refused other p = other (ap number_of (sym p.answer ∙ two_read))

  pub fetch_length : ((handed r).length ≡ 2 → ⊥) → ¬ Finds (read_after shows) (memory_at shows) (at shows).flash r
  fetch_length other p = other (part_size (handed r) _ _ p.inside ∙ ap (λ a. length (part_of a).bytes) (sym p.answer ∙ two_read))

  pub fetch_elsewhere : ((handed r).place ≡ 0xF00 → ⊥) → ¬ Finds (read_after shows) (memory_at shows) (at shows).flash r
  fetch_elsewhere other p = other (ap (λ a. (part_of a).place) (sym p.answer ∙ two_read))

-- ---- a run over the trace of the whole case, into a buffer of 64 bytes: the second record, at place 37, has no room

module _ (old : List ℕ) (y : Lent) (new : List ℕ) (size : length old ≡ 64) where
  -- any other place or number of bytes
  pub replay_elsewhere : (r : Progress) → (r ≡ Paused 37 20 → ⊥) → ¬ Plays whole_trace zeros 0 old r y new
  unfolding in_room play_at provided◌then◌else◌
  replay_elsewhere r other p =
      other (p.told ∙ ap (λ k. progress_by (in_room k).stop (length (in_room k).written)) size
      ∙ ap (λ l. told (get_or l 1 (at_end, 0))) rooms_kept)
    where
      told : Stop × ℕ → Progress
      told x = progress_by x.0 x.1

  -- so it is not paused with nothing done, nor inside a record
  pub replay_idle : ¬ Plays whole_trace zeros 0 old (Paused 0 0) y new
  unfolding same_words
  replay_idle = replay_elsewhere (Paused 0 0) (apart progress_words (Paused 0 0) (Paused 37 20) refl)

  pub replay_inside : ¬ Plays whole_trace zeros 0 old (Paused 38 20) y new
  unfolding same_words
  replay_inside = replay_elsewhere (Paused 38 20) (apart progress_words (Paused 38 20) (Paused 37 20) refl)
