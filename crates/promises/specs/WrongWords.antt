-- Wrong answers of each function of the host contradict its statement. Where there is room for an answer, the statement of an export is that of the layer's
-- function, with the answer's words: what is wrong of the layer's is wrong of it.
use Rattle.std.specs.Prelude.{ℕ, ◌≡◌, Bool, List, [], ◌∷◌, ◌++◌, length, get_or, drop, leb}
use Rattle.std.proofs.Math.Path.{refl, sym}
use Rattle.std.proofs.Common.{ap, ◌∙◌, subst}
use Rattle.std.proofs.Math.Bool.{true, false}
use Rattle.definition.specs.Tests.{provided◌then◌else◌}
use Rattle.definition.specs.Decide.{resume}
use Rattle.definition.specs.World.{Step, own, latch, Out}
use Rattle.definition.specs.Image.{well_formed}
use Rattle.definition.specs.Table.{Lent, lent_of, table_step, start}
use Rattle.definition.specs.Located.{locate, lent_by}
use Rattle.definition.specs.Cases.{zeros}
use Rattle.definition.specs.AreaCases.{lent as flashLent, flash_told}
use Rattle.laws.specs.Facts.{clash}
use Rattle.laws.specs.Good.{of_good}
use Rattle.laws.specs.ImageBack.{image_well_formed}
use Rattle.layer.specs.Steps.{gave}
use Rattle.host.specs.Answers.{answer_words, located_words, Told, told, tell, Writes, WritesAlone, WritesOnly, answered}
use Rattle.host.specs.Runs.{RunTold, NotRun, Runs}
use Rattle.promises.specs.Begins.{words, ready, begins, subscribes, lends}
use Rattle.promises.specs.WrongAnswers.{at, table_at, memory_at, good_at, Given, subscribes_unstored, events, events_unqueued, pending, resumes_keeps, deposits, deposits_unwritten, latches_unstored, reads, shows, two_read}

-- ---- any export that tells an answer, whatever is lent

module _ (step : Lent → Out Lent) (x y : Lent) (r : Bool) (out out' : List ℕ) (e : tell step x out ≡ told r y out') where
  -- with room for six words it is the step, and its answer's words are told
  module _ (room : leb 6 (length out) ≡ true) where
    whole : told true (step x).after (answer_words (step x).answer ++ drop 6 out) ≡ told r y out'
    unfolding tell provided◌then◌else◌
    whole = sym (rw room) ∙ e

    pub step_made : (step x).after ≡ y
    step_made = ap (λ (o : Told). o.after) whole

    pub words_told : answer_words (step x).answer ++ drop 6 out ≡ out'
    words_told = ap (λ (o : Told). o.out) whole

    -- it is not silent
    pub not_silent : r ≡ false → ⊥
    not_silent f = clash (sym (ap (λ (o : Told). o.done) whole)) f

  -- with less room nothing is done, and it does not say that something was
  module _ (short : leb 6 (length out) ≡ false) where
    none : told false x out ≡ told r y out'
    unfolding tell provided◌then◌else◌
    none = sym (rw short) ∙ e

    pub nothing_made : x ≡ y
    nothing_made = ap (λ (o : Told). o.after) none

    pub nothing_told : r ≡ true → ⊥
    nothing_told t = clash t (sym (ap (λ (o : Told). o.done) none))

-- ---- each export that makes a step, with room for its answer

module _ (l : List Step) (s : Step) (r : Bool) (y : Lent) (out out' : List ℕ) (room : leb 6 (length out) ≡ true) (e : tell (table_step s) (lent_of (at l)) out ≡ told r y out') where
  -- the layer's step, with the answer that the words tell
  given : Given l s (table_step s (lent_of (at l))).answer y
  given = λ i. gave (table_step s (lent_of (at l))).answer (step_made (table_step s) (lent_of (at l)) y r out out' e room i)

module _ (r : Bool) (out out' : List ℕ) (room : leb 6 (length out) ≡ true) where
  pub mk_call_unstored : (m' : List ℕ) → ¬ Writes (table_step subscribes) (table_at []) (memory_at []) out r (table_at []) m' out'
  mk_call_unstored m' e = subscribes_unstored _ _ refl (given [] subscribes r _ out out' room (e _))

  pub mk_event_unqueued : ¬ WritesAlone (table_step events) (table_at (subscribes ∷ [])) out r (table_at (subscribes ∷ [])) out'
  mk_event_unqueued e = events_unqueued _ _ refl (given (subscribes ∷ []) events r _ out out' room (e _ _))

  pub mk_resume_keeps : ¬ WritesAlone (table_step (own 0 resume)) (table_at pending) out r (table_at pending) out'
  mk_resume_keeps e = resumes_keeps _ _ refl (given pending (own 0 resume) r _ out out' room (e _ _))

  pub mk_deposit_unwritten : (t' : List ℕ) → ¬ Writes (table_step deposits) (table_at (lends ∷ [])) (memory_at (lends ∷ [])) out r t' (memory_at (lends ∷ [])) out'
  mk_deposit_unwritten t' e = deposits_unwritten _ _ refl (given (lends ∷ []) deposits r _ out out' room (e _))

  pub mk_latch_unstored : ¬ WritesAlone (table_step (latch 0x90000 5)) (table_at []) out r (table_at []) out'
  mk_latch_unstored e = latches_unstored _ _ refl (given [] (latch 0x90000 5) r _ out out' room (e _ _))

  -- a fetch that tells another length
  pub mk_fetch_length : (get_or out' 4 0 ≡ 2 → ⊥) → ¬ WritesOnly (table_step reads) (table_at shows) (memory_at shows) (at shows).flash out r out'
  mk_fetch_length other e =
      other (ap (λ l. get_or l 4 0) (sym (words_told (table_step reads) (lent_of (at shows)) _ r out out' e room)) ∙ ap (λ a. get_or (answer_words a ++ drop 6 out) 4 0) two_read)

  -- a start that tells a refusal of a good board
  pub mk_start_refuses : (t' : List ℕ) → (get_or out' 0 0 ≡ 8 → ⊥) → ¬ WritesAlone (start words) zeros.table out r t' out'
  mk_start_refuses t' other e =
      other (ap (λ l. get_or l 0 0) (sym (words_told (start words) zeros _ r out out' (e _ _) room)) ∙ ap (λ a. get_or (answer_words a ++ drop 6 out) 0 0) begins)

-- ---- where a buffer lies

-- with room for six words the words of any other answer, or false; with less anything written, or true
module _ (words out out' : List ℕ) (r : Bool) (e : answered words out ≡ (r, out')) where
  module _ (room : leb 6 (length out) ≡ true) where
    asked_whole : ◌≡◌ {A = Bool × List ℕ} (true, words ++ drop 6 out) (r, out')
    unfolding answered provided◌then◌else◌
    asked_whole = sym (rw room) ∙ e

    pub asked_told : words ++ drop 6 out ≡ out'
    asked_told = ap (λ (o : Bool × List ℕ). o.1) asked_whole

    pub asked_not_silent : r ≡ false → ⊥
    asked_not_silent f = clash (sym (ap (λ (o : Bool × List ℕ). o.0) asked_whole)) f

  module _ (short : leb 6 (length out) ≡ false) where
    asked_none : ◌≡◌ {A = Bool × List ℕ} (false, out) (r, out')
    unfolding answered provided◌then◌else◌
    asked_none = sym (rw short) ∙ e

    pub asked_nothing_written : out ≡ out'
    asked_nothing_written = ap (λ (o : Bool × List ℕ). o.1) asked_none

    pub asked_nothing_told : r ≡ true → ⊥
    asked_nothing_told t = clash t (sym (ap (λ (o : Bool × List ℕ). o.0) asked_none))

-- process 0's buffer in flash is said to lie anywhere else
pub mk_area_elsewhere : (r : Bool) (out out' : List ℕ) → leb 6 (length out) ≡ true → (get_or out' 1 0 ≡ 2 → ⊥) → ¬ (answered (located_words (locate (lent_by 4) 0 1 0 flashLent)) out ≡ (r, out'))
unfolding provided◌then◌else◌
mk_area_elsewhere r out out' room other e =
    other (ap (λ l. get_or l 1 0) (sym (asked_told _ out out' r e room)) ∙ ap (λ a. get_or (located_words a ++ drop 6 out) 1 0) flash_told)

-- ---- the check of a table

-- the table of a good state is refused
pub mk_check_refuses : ¬ (false ≡ well_formed (table_at []))
mk_check_refuses e = clash (image_well_formed (at []).state (of_good _ (good_at []))) (sym e)

-- and one without a word is accepted
pub mk_check_accepts : ¬ (true ≡ well_formed [])
unfolding ready
mk_check_accepts e = clash (sym e) refl

-- ---- the run over a trace

-- with room for three words it is not silent, and where there is less room it does not say that something was done
module _ (s : List ℕ) (x y : Lent) (i : ℕ) (old new out out' : List ℕ) where
  pub mk_replay_silent : leb 3 (length out) ≡ true → ¬ Runs s x i old out false y new out'
  unfolding Runs provided◌then◌else◌
  mk_replay_silent room e = clash refl (sym (subst (λ b. provided b then RunTold s x i old out false y new out' else NotRun x old out false y new out') room e).0)

  pub mk_replay_short : leb 3 (length out) ≡ false → ¬ Runs s x i old out true y new out'
  unfolding Runs provided◌then◌else◌
  mk_replay_short short e = clash refl (subst (λ b. provided b then RunTold s x i old out true y new out' else NotRun x old out true y new out') short e).0
