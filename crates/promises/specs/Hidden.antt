-- Request 3: a process cannot tell a driver that is denied to it from one that is not there. On the board with the driver its list is followed beside its own
-- steps on the board without it: another's step changes nothing that it sees. There, where it sends no command above 0 to any shared driver, the other list
-- gives it what its own steps alone do, as in demand 3.
use Rattle.std.specs.Prelude.{ℕ, ◌<◌, ◌≡◌, Bool, false, length, eqb}
use Rattle.std.proofs.Math.Path.{refl, subst}
use Rattle.std.proofs.Common.{sym, ap, ◌∙◌, eqb-true, eq-eqb}
use Rattle.std.proofs.Math.Bool.{true}
use mathlib.Core.List.{List, [], ◌∷◌}
use Rattle.std.proofs.Math.ListN.{get_or-map}
use Rattle.std.proofs.lemmas.Bool.{not-true, not-false}
use Rattle.definition.specs.Tests.{provided◌then◌else◌, first_of}
use Rattle.definition.specs.Board.{Board, no_areas, areas_at, permits, good_board}
use Rattle.definition.specs.State.{running, cleared, fresh}
use Rattle.definition.specs.Answer.{started}
use Rattle.definition.specs.Decide.{Action}
use Rattle.definition.specs.World.{World, Step, own, latch, Out, process_at, ram_of, view_of}
use Rattle.definition.specs.Runs.{is_own, hears, is_heard, those, own_steps, answers_to, sends_none}
use Rattle.definition.specs.Image.{lent_board, board_of, table_words}
use Rattle.definition.specs.Table.{Lent, lent_of, table_step, start}
use Rattle.definition.specs.Without.{board_without, words_without}
use Rattle.laws.specs.Facts.{clash, either, both, passed}
use Rattle.laws.specs.Good.{Good}
use Rattle.laws.specs.Kept.{fresh_good}
use Rattle.laws.specs.BoardWords.{lent_back, board_words_good}
use Rattle.promises.specs.Promises.{Hiding}
use Rattle.promises.specs.Guarded.{guarded, guarded_keeps, table_answers}
use Rattle.promises.specs.Isolation.{same_refl, other_guarded}
use Rattle.promises.specs.IsolatedRuns.{quiet_first, quiet_rest, quiet_those, quiet_own, Owns, not_owned, lonely}
use Rattle.promises.specs.Demand3.{refused_not_started, accepted_start}
use Rattle.promises.specs.BoardWithout.{areas_without_lem, processes_without, without_good}
use Rattle.promises.specs.Beside.{Beside}
use Rattle.promises.specs.Matched.{cleared_beside}
use Rattle.promises.specs.HiddenSteps.{Alongside, here, guarded_both}

-- ---- a process is itself answered its calls and resumes

heard_own : (a : ℕ) → Owns a (is_heard a)
unfolding is_own is_heard
heard_own a (own q x) e = (both (eqb q a) (hears x) e).0
heard_own a (latch driver peak) e = clash {t = false} e refl

heard_hears : (a : ℕ) (x : Action) → is_heard a (own a x) ≡ true → hears x ≡ true
unfolding is_heard
heard_hears a x e = (both (eqb a a) (hears x) e).1

-- ---- a list on the board, beside its own steps on the board without the driver

module _ (k a : ℕ) (b : Board) (good : good_board b ≡ true) (hk : k < length b.drivers) (denied : permits (areas_at b a) k ≡ false) (ha : a < length b.processes) where
  other_alongside : (s : Step) (w w' : World) → Good w.state → is_own a s ≡ false → Alongside k a b w w' → Alongside k a b (guarded s w).after w'
  other_alongside s w w' g e p =
      let same = other_guarded a w g (here k a b ha p) s e in
      record {
        ram = p.ram;
        flash = p.flash;
        view = same.view ∙ p.view;
        view' = p.view';
        size = same.size ∙ p.size;
        process = subst (λ x. Beside k x (process_at w'.state a)) (sym same.process) p.process;
      }

  -- one own step on both
  record Stepped (s : Step) (w w' : World) : Type 0 where
    answer : is_heard a s ≡ true → (guarded s w).answer ≡ (guarded s w').answer
    after : Alongside k a b (guarded s w).after (guarded s w').after

  own_stepped : (s : Step) (w w' : World) → Good w.state → Good w'.state → Alongside k a b w w' → is_own a s ≡ true → sends_none (board_without k b) a (s ∷ []) ≡ true → Stepped s w w'
  unfolding is_own sends_none
  own_stepped (own q x) w w' g g' p e quiet =
      let o = guarded_both k a b good hk denied ha x w w' g g' (not-true _ (both _ _ (rw e at quiet)).0) p in
      subst (λ i. Stepped (own i x) w w') (sym (eqb-true q a e)) (record { answer = λ h. o.answer (heard_hears a x h); after = o.after })
  own_stepped (latch driver peak) w w' g g' p e quiet = clash e refl

  followed : (l : List Step) (w w' : World) → Good w.state → Good w'.state → sends_none (board_without k b) a l ≡ true → Alongside k a b w w'
      → answers_to guarded (is_heard a) l w ≡ answers_to guarded (is_heard a) (own_steps a l) w'
  unfolding those answers_to provided◌then◌else◌
  followed [] w w' g g' quiet p = refl
  followed (s ∷ l) w w' g g' quiet p = go (is_own a s) refl (followed l (guarded s w).after)
    where
      rest : sends_none (board_without k b) a l ≡ true
      rest = quiet_rest (board_without k b) a s l quiet

      go : (t : Bool) → is_own a s ≡ t
          → ((w'' : World) → Good (guarded s w).after.state → Good w''.state → sends_none (board_without k b) a l ≡ true → Alongside k a b (guarded s w).after w''
          → answers_to guarded (is_heard a) l (guarded s w).after ≡ answers_to guarded (is_heard a) (own_steps a l) w'')
          → answers_to guarded (is_heard a) (s ∷ l) w ≡ answers_to guarded (is_heard a) (own_steps a (s ∷ l)) w'
      go true e ih =
          let one = own_stepped s w w' g g' p e (quiet_first (board_without k b) a s l quiet) in
          simp e (told (is_heard a s) refl one.answer (ih (guarded s w').after (guarded_keeps s w g) (guarded_keeps s w' g') rest one.after))
        where
          told : (t : Bool) → is_heard a s ≡ t → (is_heard a s ≡ true → (guarded s w).answer ≡ (guarded s w').answer)
              → answers_to guarded (is_heard a) l (guarded s w).after ≡ answers_to guarded (is_heard a) (own_steps a l) (guarded s w').after
              → (provided t then (guarded s w).answer ∷ answers_to guarded (is_heard a) l (guarded s w).after else answers_to guarded (is_heard a) l (guarded s w).after)
              ≡ (provided t then (guarded s w').answer ∷ answers_to guarded (is_heard a) (own_steps a l) (guarded s w').after else answers_to guarded (is_heard a) (own_steps a l) (guarded s w').after)
          told true h f r = λ i. f h i ∷ r i
          told false h f r = r
      go false e ih = simp (e, not_owned a (is_heard a) (heard_own a) s e) (ih w' (guarded_keeps s w g) g' rest (other_alongside s w w' g e p))

-- ---- the start on the board without the driver

-- an accepted start had a table of the right length
start_size : (words : List ℕ) (x : Lent) → (start words x).answer ≡ started → length x.table ≡ table_words
unfolding start
start_size words x e = either (λ (o : Out Lent). o.answer ≡ started → length x.table ≡ table_words) _ _ _
    (λ t _. eqb-true _ _ (not-false _ (passed _ _ _ (eqb-true _ 0 t)).0)) (λ _ q. refused_not_started _ q) e

-- on which every good board starts
start_good : (x : Lent) (b : Board) → length x.table ≡ table_words → good_board b ≡ true → (start (lent_board b) x).answer ≡ started
unfolding start first_of provided◌then◌else◌
start_good x b e g = rw (eq-eqb (length x.table) table_words e, board_words_good b g)

abbrev fresh_on : List ℕ → List ℕ → Board → World
fresh_on m f b = record { state = fresh b; memory = m; flash = f }

-- what it leaves, over tables and over states
from_tables : (f : Step → Bool) (l : List Step) (words : List ℕ) (x : Lent) → (start words x).answer ≡ started → (b : Board) → board_of words ≡ b → good_board b ≡ true
    → answers_to table_step f l (start words x).after ≡ answers_to guarded f l (fresh_on x.memory x.flash b)
from_tables f l words x e b q g =
    ap (answers_to table_step f l) ((accepted_start words x e).leaves ∙ ap (λ c. lent_of (fresh_on x.memory x.flash c)) q) ∙ table_answers f l (fresh_on x.memory x.flash b) (fresh_good b g)

-- at the start all records are cleared
fresh_alongside : (k a : ℕ) (b : Board) (m f : List ℕ) → Alongside k a b (fresh_on m f b) (fresh_on m f (board_without k b))
unfolding fresh view_of ram_of
fresh_alongside k a b m f = record {
  ram = ram_of (areas_at b a) m;
  flash = f;
  view = refl;
  view' = ap (λ r. record { self = a; board = board_without k b; ram = ram_of r m; flash_image = f }) (areas_without_lem k b a);
  size = refl;
  process = rw (get_or-map (λ r. cleared r running) b.processes a no_areas, get_or-map (λ r. cleared r running) (board_without k b).processes a no_areas, areas_without_lem k b a)
      (cleared_beside k (areas_at b a) running);
}

-- ---- the claim

pub hidden : Hiding
unfolding fresh
hidden words x e a ha k hk denied l l' same quiet =
    let b : Board = board_of words in
    let b' : Board = board_without k b in
    let good = (accepted_start words x e).good in
    let good' = without_good k b hk good in
    let w = fresh_on x.memory x.flash b in
    let w' = fresh_on x.memory x.flash b' in
    let starts = start_good x b' (start_size words x e) good' in
    let own_same : answers_to guarded (is_heard a) (own_steps a l) w' ≡ answers_to guarded (is_heard a) (own_steps a l') w' = ap (λ m. answers_to guarded (is_heard a) m w') same in
    let beside = followed k a b good hk denied ha l w w' (fresh_good b good) (fresh_good b' good') quiet (fresh_alongside k a b x.memory x.flash) in
    let quiet' : sends_none b' a l' ≡ true = quiet_own b' a l' (subst (λ m. sends_none b' a m ≡ true) same (quiet_those b' a (is_own a) l quiet)) in
    let on_board : a < length b'.processes = subst (λ n. a < n) (sym (processes_without k b)) ha in
    let other = from_tables (is_heard a) l' (words_without k words) x starts b' (lent_back b') good'
    ∙ (lonely (is_heard a) a (heard_own a) l' w' w' (fresh_good b' good') (fresh_good b' good') on_board quiet' (same_refl a w')).answers in
    record {
      starts = starts;
      alike = from_tables (is_heard a) l words x e b refl good ∙ beside ∙ own_same ∙ sym other;
      alone = other ∙ sym own_same ∙ sym (from_tables (is_heard a) (own_steps a l) (words_without k words) x starts b' (lent_back b') good');
    }
