-- What is promised of calls of the layer's public functions, one after another (demands 2 and 3, and a driver that is denied), in the words that speak of the definition's runs.
use Rattle.std.specs.Prelude.{ℕ, ◌<◌, ◌≡◌, Bool, true, false, List, [], ◌∷◌, length}
use Rattle.definition.specs.Tests.{provided◌then◌else◌}
use Rattle.definition.specs.Board.{areas_at, permits}
use Rattle.definition.specs.Answer.{Answer, started}
use Rattle.definition.specs.Decide.{Action}
use Rattle.definition.specs.World.{Step, own}
use Rattle.definition.specs.Runs.{is_own, is_heard, own_steps, sends_none}
use Rattle.definition.specs.Image.{board_of}
use Rattle.definition.specs.Table.{Lent}
use Rattle.definition.specs.Without.{board_without, words_without}
use Rattle.layer.specs.Steps.{lent, Starts}
use Rattle.bridge.specs.Calls.{Called, Ran}
use Rattle.promises.specs.History.{Heard, heard}
use Rattle.promises.specs.Promises.{Isolated, Hidden, Accounted}

-- a call of start
pub data Begun : List ℕ → Lent → Answer → Lent → Type 0 where
  begun : {words t m f : List ℕ} {r : Answer} {t' : List ℕ} → Starts words t r t' → Begun words (lent t m f) r (lent t' m f)

-- of the answers to a list of steps, those to the steps that pass a test
unfoldable pub answers_for : (Step → Bool) → List Step → List Answer → List Answer
answers_for f [] answers = []
answers_for f (s ∷ l) [] = []
answers_for f (s ∷ l) (r ∷ answers) = provided f s then r ∷ answers_for f l answers else answers_for f l answers

-- process a's steps among them with the answers given, after those of hs: its history
unfoldable pub history_for : ℕ → List Step → List Answer → List Heard → List Heard
history_for a [] answers hs = hs
history_for a (s ∷ l) [] hs = hs
history_for a (s ∷ l) (r ∷ answers) hs = history_for a l answers (heard a s r hs)

-- a call that makes this step on what is lent answers so
abbrev pub Answers : Step → Lent → Answer → Type 0
Answers s x r = (y : Lent) × Called s x r y

-- demand 2 of the layer: an accepted call of start, then calls by any list; next is what its functions then answer to each step of process a. There is
-- such an answer to every step (`definition-allowed`)
abbrev pub LayerAccounting : Type 0
LayerAccounting =
    (words t m f : List ℕ) (t' : List ℕ) → Starts words t started t' → (a : ℕ) → a < length (board_of words).processes
    → (l : List Step) (answers : List Answer) (y : Lent) → Ran l (lent t' m f) answers y → (next : Action → Answer) → ((action : Action) → Answers (own a action) y (next action))
    → Accounted (board_of words) a (lent t' m f) (history_for a l answers []) y next

-- demand 3 of the layer: an accepted call of start, then calls by any list in which a sends no command above 0 to a shared driver
abbrev pub LayerIsolation : Type 0
LayerIsolation =
    (words t m f : List ℕ) (t' : List ℕ) → Starts words t started t' → (a : ℕ) → a < length (board_of words).processes
    → (l : List Step) → sends_none (board_of words) a l ≡ true → (answers : List Answer) (y : Lent) → Ran l (lent t' m f) answers y
    → Isolated (board_of words) a l (lent t' m f) (answers_for (is_own a) l answers) y

-- a driver that is denied to process a: an accepted call of start, and one on the board without the driver, each followed by calls by a list of its own. The
-- lists have the same own steps of a, among them no command above 0 to another shared driver
abbrev pub LayerHiding : Type 0
LayerHiding =
    (words t m f : List ℕ) (t' : List ℕ) → Starts words t started t' → (a : ℕ) → a < length (board_of words).processes
    → (k : ℕ) → k < length (board_of words).drivers → permits (areas_at (board_of words) a) k ≡ false
    → (l l' : List Step) → own_steps a l ≡ own_steps a l' → sends_none (board_without k (board_of words)) a l ≡ true
    → (began : Answer) (u : List ℕ) → Starts (words_without k words) t began u
    → (answers answers' : List Answer) (y y' : Lent) → Ran l (lent t' m f) answers y → Ran l' (lent u m f) answers' y'
    → Hidden words (lent t m f) a k l began (answers_for (is_heard a) l answers) (answers_for (is_heard a) l' answers')
