-- Demand 3, whole: over tables, after every accepted start, for every process of its board and every list of steps.
use Rattle.std.specs.Prelude.{ℕ, ◌<◌, ◌≡◌, true, List, length}
use Rattle.std.proofs.Math.Path.{refl, ap}
use Rattle.std.proofs.Common.{sym, ◌∙◌, subst, eqb-true}
use Rattle.std.proofs.lemmas.Bool.{not-false}
use Rattle.definition.specs.Board.{Board, areas_at, good_board}
use Rattle.definition.specs.State.{fresh}
use Rattle.definition.specs.Answer.{refused, started}
use Rattle.definition.specs.World.{World, Step, Out, process_at, ram_of, view_of}
use Rattle.definition.specs.Runs.{is_own, is_nobodys, own_steps, own_and_nobodys, run, answers_to, sends_none}
use Rattle.definition.specs.Image.{board_of}
use Rattle.definition.specs.Table.{Lent, lent_of, start}
use Rattle.laws.specs.Facts.{never, either, passed, or_left}
use Rattle.laws.specs.Good.{Good, of_good}
use Rattle.laws.specs.Kept.{fresh_good}
use Rattle.laws.specs.ImageBack.{good_back}
use Rattle.laws.specs.BoardWords.{board_fits}
use Rattle.promises.specs.Promises.{after, answers_of, record_of, ram_in, Alike, Isolated, Isolation}
use Rattle.promises.specs.Guarded.{guarded, run_keeps, run_board, table_run, table_answers}
use Rattle.promises.specs.Isolation.{Same, same_refl, same_sym, same_trans}
use Rattle.promises.specs.IsolatedRuns.{Lonely, lonely, those_those, quiet_those, own_answers}

-- ---- an accepted start

-- the world that an accepted start leaves
abbrev pub begun : List ℕ → Lent → World
begun words x = record { state = fresh (board_of words); memory = x.memory; flash = x.flash }

pub record Started (words : List ℕ) (x : Lent) : Type 0 where
  pub good : good_board (board_of words) ≡ true
  pub leaves : (start words x).after ≡ lent_of (begun words x)

-- a refusal is no accepted start
pub refused_not_started : {A : Type 0} (n : ℕ) → refused n ≡ started → A
refused_not_started n e = never (cc)

pub accepted_start : (words : List ℕ) (x : Lent) → (start words x).answer ≡ started → Started words x
unfolding start
accepted_start words x e =
    let (good, leaves) = either (λ (o : Out Lent). o.answer ≡ started → (good_board (board_of words) ≡ true) × (o.after ≡ lent_of (begun words x))) _ _ _
    (λ t _. ((board_fits words (not-false _ (passed _ _ _ (passed _ _ _ (eqb-true _ 0 t)).1).0)).1, refl))
    (λ _ q. refused_not_started _ q) e in
    record { good = good; leaves = leaves }

module _ (words : List ℕ) (x : Lent) (s : Started words x) where
  pub begun_good : Good (begun words x).state
  begun_good = fresh_good (board_of words) s.good

  pub begun_board : (begun words x).state.board ≡ board_of words
  unfolding fresh
  begun_board = refl

-- ---- what is read off the table

-- a process's record in the image of a good state
pub record_image : (a : ℕ) (w : World) → Good w.state → record_of a (lent_of w) ≡ process_at w.state a
record_image a w g = ap (λ s. process_at s a) (good_back w.state (of_good w.state g))

-- two runs after which the process sees the same, over tables
module _ (b : Board) (a : ℕ) (l k : List Step) (w : World) (g : Good w.state) (same_board : w.state.board ≡ b) where
  seen_ram : (m : List Step) → (view_of (run guarded m w) a).ram ≡ ram_of (areas_at b a) (run guarded m w).memory
  unfolding view_of
  seen_ram m = ap (λ r. ram_of (areas_at r a) (run guarded m w).memory) (run_board m w ∙ same_board)

  alike : answers_to guarded (is_own a) l w ≡ answers_to guarded (is_own a) k w → Same a (run guarded l w) (run guarded k w)
      → Alike b a (answers_of a l (lent_of w)) (after l (lent_of w)) k (lent_of w)
  alike heard s = record {
    answers = table_answers (is_own a) l w g ∙ heard ∙ sym (table_answers (is_own a) k w g);
    process = record_run l ∙ s.process ∙ sym (record_run k);
    ram = ram_run l ∙ ap (λ v. v.ram) s.view ∙ sym (ram_run k);
  }
    where
      record_run : (m : List Step) → record_of a (after m (lent_of w)) ≡ process_at (run guarded m w).state a
      record_run m = ap (record_of a) (table_run m w g) ∙ record_image a (run guarded m w) (run_keeps m w g)

      ram_run : (m : List Step) → ram_in b a (after m (lent_of w)) ≡ (view_of (run guarded m w) a).ram
      ram_run m = ap (ram_in b a) (table_run m w g) ∙ sym (seen_ram m)

-- ---- the claim

pub isolation : Isolation
isolation words x e a h l quiet =
    let s = accepted_start words x e in
    subst (λ y. Isolated (board_of words) a l y (answers_of a l y) (after l y)) (sym s.leaves) (isolated s)
  where
    b : Board
    b = board_of words

    w : World
    w = begun words x

    kept : List Step
    kept = own_and_nobodys b a l

    isolated : Started words x → Isolated b a l (lent_of w) (answers_of a l (lent_of w)) (after l (lent_of w))
    isolated s =
        let g = begun_good words x s in
        let board = begun_board words x s in
        let here : a < length w.state.board.processes = subst (λ r. a < length r.processes) (sym board) h in
        let silent : (m : List Step) → sends_none b a m ≡ true → sends_none w.state.board a m ≡ true = λ m q. subst (λ r. sends_none r a m ≡ true) (sym board) q in
        let one = lonely (is_own a) a (λ s q. q) l w w g g here (silent l quiet) (same_refl a w) in
        let two = lonely (is_own a) a (λ s q. q) kept w w g g here (silent kept (quiet_those b a _ l quiet)) (same_refl a w) in
        let same_own : own_steps a kept ≡ own_steps a l = those_those (is_own a) _ (λ s q. or_left (is_own a s) (is_nobodys b s) q) l in
        let two' = subst (λ m. Lonely (is_own a) a kept m w w) same_own two in
        record {
          alone = alike b a l (own_steps a l) w g board one.answers one.after;
          own = table_answers (is_own a) l w g ∙ one.answers ∙ own_answers a l w ∙ sym (table_answers (λ _. true) (own_steps a l) w g);
          kept = alike b a l kept w g board (one.answers ∙ sym two'.answers) (same_trans one.after (same_sym two'.after));
        }
