-- The accepted starts from which wrong layers are refuted: on zeros, the board of the cases, and that board with a driver more, which is denied to both
-- processes. What is asked of a layer there.
use Rattle.std.specs.Prelude.{ℕ, zero, suc, ◌≤◌, ◌<◌, ◌≡◌, true, false, List, [], ◌∷◌, ◌++◌, length, set}
use Rattle.std.proofs.Math.Path.{refl, ap, subst}
use Rattle.std.proofs.Common.{sym, ◌∙◌, arith}
use Rattle.definition.specs.Limits.{image_bytes}
use Rattle.definition.specs.Board.{Kind, areas_at, permits}
use Rattle.definition.specs.Answer.{Answer, started, is_accepted}
use Rattle.definition.specs.Call.{class_of}
use Rattle.definition.specs.Decide.{call}
use Rattle.definition.specs.World.{World, Step, own}
use Rattle.definition.specs.Runs.{is_own, is_heard, those, own_steps, run, answers_to, all_answers, sends_shared, sends_none}
use Rattle.definition.specs.Words.{same_words}
use Rattle.definition.specs.Image.{board_words, lent_board, board_of}
use Rattle.definition.specs.Table.{Lent, world_of, lent_of, table_step, start}
use Rattle.definition.specs.Lines.{digits, decimal, spaced, line, line_of}
use Rattle.definition.specs.Without.{drop_at, drop_bit, board_without}
use Rattle.definition.specs.Cases.{areas, board, zeros, on_table}
use Rattle.definition.specs.DeniedCases.{denied_board}
use Rattle.laws.specs.Facts.{clash}
use Rattle.laws.specs.Good.{Good, of_good}
use Rattle.laws.specs.ImageBack.{good_back, same_words_lem}
use Rattle.promises.specs.History.{heard, history_of, last_pair, without, cancelled_by, taken_by, pending_after, pending}
use Rattle.promises.specs.Accepted.{answer_to, AcceptedExactly}
use Rattle.promises.specs.Promises.{Accounted}
use Rattle.promises.specs.Layers.{Layer, Demand2, Demand3, HidesDenied}
use Rattle.promises.specs.AcceptedExactly.{accepted_exactly}
use Rattle.promises.specs.Guarded.{guarded, table_answers}
use Rattle.promises.specs.Demand3.{begun, accepted_start, begun_good}

-- ---- things that are told by different words differ

pub apart : {A : Type 0} (f : A → List ℕ) (x y : A) → same_words (f x) (f y) ≡ false → x ≡ y → ⊥
apart f x y e p = clash (same_words_lem (f x)) (sym (ap (λ z. same_words (f x) (f z)) (sym p)) ∙ e)

-- the lines of some answers
unfoldable pub lines_of : List Answer → List ℕ
unfolding line_of line spaced decimal digits
lines_of [] = []
lines_of (r ∷ l) = line_of r ++ lines_of l

-- ---- the start

-- the board of the cases as words
unfoldable pub words : List ℕ
unfolding board areas
words = board_words 2 2 board

-- what the start leaves; unfolding this unfolds every run from there, and what is told of it
unfoldable pub ready : Lent
unfolding words zeros on_table guarded lines_of same_words those is_own run sends_none sends_shared is_heard history_of heard last_pair without cancelled_by taken_by pending_after pending
ready = (start words zeros).after

pub begins : (start words zeros).answer ≡ started
unfolding ready
begins = refl

-- both processes are on the board
pub known : (a : ℕ) → a < 2 → a < length (board_of words).processes
unfolding ready
known a h = h

pub image : length ready.memory ≡ image_bytes
unfolding ready
image = refl

-- the same as a state, over which the definition's answers are computed: no table need be checked there
abbrev pub beginning : World
beginning = begun words zeros

pub good : Good beginning.state
good = begun_good words zeros (accepted_start words zeros begins)

pub ready_is : ready ≡ lent_of beginning
unfolding ready
ready_is = (accepted_start words zeros begins).leaves

-- the board with a driver more at its front, which is denied to both processes: without it, it is the board of the cases
unfoldable pub denied_words : List ℕ
unfolding denied_board
denied_words = set (lent_board denied_board) 14 6

unfoldable pub denied_ready : Lent
unfolding denied_words ready board_without drop_at drop_bit
denied_ready = (start denied_words zeros).after

pub denied_begins : (start denied_words zeros).answer ≡ started
unfolding denied_ready
denied_begins = refl

denied_to : (a : ℕ) → a < 2 → permits (areas_at (board_of denied_words) a) 0 ≡ false
unfolding denied_ready
denied_to zero h = refl
denied_to (suc zero) h = refl
denied_to (suc (suc a)) h = absurd (omega arith)

-- steps of process 0: a subscribe, and a read-write allow
unfoldable pub subscribes : Step
subscribes = own 0 (call 1 1 0 0x00040010 7)

unfoldable pub lends : Step
lends = own 0 (call 3 1 0 0x20000F00 0x100)

module _ (layer : Layer) where
  -- demand 2, after a list
  pub accounted : Demand2 layer → (a : ℕ) → a < 2 → (l : List Step)
      → Accounted (board_of words) a ready (history_of layer.step a l ready []) (run layer.step l ready) (λ action. (layer.step (own a action) (run layer.step l ready)).answer)
  unfolding ready
  accounted d a h l = d words zeros begins a (known a h) l

  -- a memop that the definition accepts is answered as the definition answers it; a subscribe or an allow that the layer accepts, too
  module _ (d : Demand2 layer) (a : ℕ) (h : a < 2) where
    mine : AcceptedExactly beginning a (λ class r0 r1 r2 r3. (layer.step (own a (call class r0 r1 r2 r3)) ready).answer)
    unfolding run
    mine = subst (λ w. AcceptedExactly w a (λ class r0 r1 r2 r3. (layer.step (own a (call class r0 r1 r2 r3)) ready).answer)) (ap world_of ready_is ∙ back) ((accounted d a h []).accepts image)
      where
        back : world_of (lent_of beginning) ≡ beginning
        back = λ i. record { state = good_back beginning.state (of_good beginning.state good) i; memory = zeros.memory; flash = zeros.flash }

    its : AcceptedExactly beginning a (answer_to beginning a)
    its = accepted_exactly beginning (of_good beginning.state good) a

    pub same_bound : (n : ℕ) → 2 ≤ n → n ≤ 6 → is_accepted (answer_to beginning a 5 n 0 0 0) ≡ true → (layer.step (own a (call 5 n 0 0 0)) ready).answer ≡ answer_to beginning a 5 n 0 0 0
    same_bound n low high e =
        let r = (its.bound n 0 0 0 low high).0 e in
        mine.bound_answer n 0 0 0 low high r ∙ sym (its.bound_answer n 0 0 0 low high r)

    pub same_exchange : (kind : Kind) (driver j x y : ℕ) → is_accepted (layer.step (own a (call (class_of kind) driver j x y)) ready).answer ≡ true
        → (layer.step (own a (call (class_of kind) driver j x y)) ready).answer ≡ answer_to beginning a (class_of kind) driver j x y
    same_exchange kind driver j x y e =
        let r = (mine.exchange kind driver j x y).0 e in
        mine.exchange_answer kind driver j x y r ∙ sym (its.exchange_answer kind driver j x y r)

  -- demand 3, after a list: the answers; from any accepted start
  pub isolated_from : Demand3 layer → (words : List ℕ) → (start words zeros).answer ≡ started → (a : ℕ) → a < length (board_of words).processes → (l : List Step) → sends_none (board_of words) a l ≡ true
      → answers_to layer.step (is_own a) l (start words zeros).after ≡ all_answers guarded (own_steps a l) (begun words zeros)
  isolated_from d words e a h l quiet =
      let s = accepted_start words zeros e in
      (d words zeros e a h l quiet).own ∙ ap (all_answers table_step (own_steps a l)) s.leaves ∙ table_answers (λ _. true) (own_steps a l) (begun words zeros) (begun_good words zeros s)

  pub isolated : Demand3 layer → (a : ℕ) → a < 2 → (l : List Step) → sends_none (board_of words) a l ≡ true → answers_to layer.step (is_own a) l ready ≡ all_answers guarded (own_steps a l) beginning
  unfolding ready
  isolated d a h l quiet = isolated_from d words begins a (known a h) l quiet

  -- that a denied driver is hidden, after a list on the board with one: the answers to calls and resumes are those on the board of the cases
  pub hidden_from : HidesDenied layer → (a : ℕ) → a < 2 → (l : List Step) → sends_none (board_of words) a l ≡ true
      → answers_to layer.step (is_heard a) l denied_ready ≡ answers_to guarded (is_heard a) (own_steps a l) beginning
  unfolding denied_ready
  hidden_from d a h l quiet =
      let r = d denied_words zeros denied_begins a (known a h) 0 (omega arith) (denied_to a h) l l refl quiet in
      r.alike ∙ r.alone ∙ ap (answers_to table_step (is_heard a) (own_steps a l)) ready_is ∙ table_answers (is_heard a) (own_steps a l) beginning good
