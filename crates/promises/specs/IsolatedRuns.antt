-- A process sees and holds the same after a list of steps as after its own steps alone.
use Rattle.std.specs.Prelude.{ℕ, ◌<◌, ◌≡◌, refl, Bool, true, false, ◌&&◌, not, List, [], ◌∷◌, length, eqb}
use Rattle.std.proofs.Common.{ap}
use Rattle.definition.specs.Tests.{provided◌then◌else◌}
use Rattle.definition.specs.Board.{Board}
use Rattle.definition.specs.World.{World, Step, own, latch}
use Rattle.definition.specs.Runs.{is_own, those, own_steps, run, answers_to, all_answers, sends_shared, sends_none}
use Rattle.laws.specs.Facts.{clash, both, and}
use Rattle.laws.specs.Good.{Good}
use Rattle.promises.specs.Guarded.{guarded, guarded_keeps, guarded_board}
use Rattle.promises.specs.Isolation.{Same, same_trans, other_guarded, own_any}

-- ---- a list of steps

pub quiet_first : (b : Board) (a : ℕ) (s : Step) (l : List Step) → sends_none b a (s ∷ l) ≡ true → sends_none b a (s ∷ []) ≡ true
unfolding sends_none
quiet_first b a (own p x) l e = and (both (not (eqb p a && sends_shared b x)) (sends_none b a l) e).0 refl
quiet_first b a (latch driver peak) l e = refl

pub quiet_rest : (b : Board) (a : ℕ) (s : Step) (l : List Step) → sends_none b a (s ∷ l) ≡ true → sends_none b a l ≡ true
unfolding sends_none
quiet_rest b a (own p x) l e = (both (not (eqb p a && sends_shared b x)) (sends_none b a l) e).1
quiet_rest b a (latch driver peak) l e = e

quiet_join : (b : Board) (a : ℕ) (s : Step) (l : List Step) → sends_none b a (s ∷ []) ≡ true → sends_none b a l ≡ true → sends_none b a (s ∷ l) ≡ true
unfolding sends_none
quiet_join b a (own p x) l e q = and (both (not (eqb p a && sends_shared b x)) true e).0 q
quiet_join b a (latch driver peak) l e q = q

quiet_other : (b : Board) (a : ℕ) (s : Step) → is_own a s ≡ false → sends_none b a (s ∷ []) ≡ true
unfolding is_own sends_none
quiet_other b a (own p x) e = rw e
quiet_other b a (latch driver peak) e = refl

-- a test that only a process's own steps pass
abbrev pub Owns : ℕ → (Step → Bool) → Type 0
Owns a f = (s : Step) → f s ≡ true → is_own a s ≡ true

pub not_owned : (a : ℕ) (f : Step → Bool) → Owns a f → (s : Step) → is_own a s ≡ false → f s ≡ false
not_owned a f i s e = go (f s) refl
  where
    go : (t : Bool) → f s ≡ t → f s ≡ false
    go true q = clash (i s q) e
    go false q = q

-- the answers to such steps and the end of a list, and of its own steps alone
pub record Lonely (f : Step → Bool) (a : ℕ) (l alone : List Step) (w w' : World) : Type 0 where
  pub answers : answers_to guarded f l w ≡ answers_to guarded f alone w'
  pub after : Same a (run guarded l w) (run guarded alone w')

pub lonely : (f : Step → Bool) (a : ℕ) → Owns a f → (l : List Step) (w w' : World) → Good w.state → Good w'.state → a < length w.state.board.processes → sends_none w.state.board a l ≡ true → Same a w w'
    → Lonely f a l (own_steps a l) w w'
unfolding those run answers_to provided◌then◌else◌
lonely f a i [] w w' g g' h quiet s = record { answers = refl; after = s }
lonely f a i (x ∷ l) w w' g g' h quiet s = go (is_own a x) refl (lonely f a i l (guarded x w).after)
  where
    kept : (guarded x w).after.state.board ≡ w.state.board
    kept = guarded_board x w

    h' : a < length (guarded x w).after.state.board.processes
    h' = rw kept h

    quiet' : sends_none (guarded x w).after.state.board a l ≡ true
    quiet' = rw kept (quiet_rest w.state.board a x l quiet)

    go : (t : Bool) → is_own a x ≡ t
        → ((w'' : World) → Good (guarded x w).after.state → Good w''.state → a < length (guarded x w).after.state.board.processes → sends_none (guarded x w).after.state.board a l ≡ true
        → Same a (guarded x w).after w'' → Lonely f a l (own_steps a l) (guarded x w).after w'')
        → Lonely f a (x ∷ l) (own_steps a (x ∷ l)) w w'
    go true e ih =
        let eq = own_any a x w w' g g' h (quiet_first w.state.board a x l quiet) e s in
        let rest = ih (guarded x w').after (guarded_keeps x w g) (guarded_keeps x w' g') h' quiet' eq.after in
        record { answers = simp e (λ j. provided f x then eq.answer j ∷ rest.answers j else rest.answers j); after = simp e rest.after }
    go false e ih =
        let rest = ih w' (guarded_keeps x w g) g' h' quiet' (same_trans (other_guarded a w g h x e) s) in
        record { answers = simp (e, not_owned a f i x e) rest.answers; after = simp e rest.after }

-- ---- keeping steps that are not its own

-- of the steps that pass a test, those that pass one that implies it
pub those_those : (f g : Step → Bool) → ((s : Step) → f s ≡ true → g s ≡ true) → (l : List Step) → those f (those g l) ≡ those f l
unfolding those provided◌then◌else◌
those_those f g i [] = refl
those_those f g i (s ∷ l) = go (f s) (g s) refl refl (those_those f g i l)
  where
    go : (t u : Bool) → f s ≡ t → g s ≡ u → those f (those g l) ≡ those f l → those f (provided u then s ∷ those g l else those g l) ≡ (provided t then s ∷ those f l else those f l)
    go true true e e' ih = simp e (ap (λ r. s ∷ r) ih)
    go true false e e' ih = clash (i s e) e'
    go false true e e' ih = simp e ih
    go false false e e' ih = ih

pub quiet_those : (b : Board) (a : ℕ) (f : Step → Bool) (l : List Step) → sends_none b a l ≡ true → sends_none b a (those f l) ≡ true
unfolding those provided◌then◌else◌
quiet_those b a f [] e = e
quiet_those b a f (s ∷ l) e = go (f s) (quiet_those b a f l (quiet_rest b a s l e))
  where
    go : (t : Bool) → sends_none b a (those f l) ≡ true → sends_none b a (provided t then s ∷ those f l else those f l) ≡ true
    go true ih = quiet_join b a s (those f l) (quiet_first b a s l e) ih
    go false ih = ih

-- what a process sends none of among its own steps, it sends none of
pub quiet_own : (b : Board) (a : ℕ) (l : List Step) → sends_none b a (own_steps a l) ≡ true → sends_none b a l ≡ true
unfolding those provided◌then◌else◌
quiet_own b a [] e = e
quiet_own b a (s ∷ l) e = go (is_own a s) refl e (quiet_own b a l)
  where
    go : (t : Bool) → is_own a s ≡ t → sends_none b a (provided t then s ∷ own_steps a l else own_steps a l) ≡ true → (sends_none b a (own_steps a l) ≡ true → sends_none b a l ≡ true) → sends_none b a (s ∷ l) ≡ true
    go true q h ih = quiet_join b a s l (quiet_first b a s (own_steps a l) h) (ih (quiet_rest b a s (own_steps a l) h))
    go false q h ih = quiet_join b a s l (quiet_other b a s q) (ih h)

-- alone, all answers are its own
pub own_answers : (a : ℕ) (l : List Step) (w : World) → answers_to guarded (is_own a) (own_steps a l) w ≡ all_answers guarded (own_steps a l) w
unfolding those answers_to provided◌then◌else◌
own_answers a [] w = refl
own_answers a (s ∷ l) w = go (is_own a s) refl (own_answers a l)
  where
    go : (t : Bool) → is_own a s ≡ t → ((u : World) → answers_to guarded (is_own a) (own_steps a l) u ≡ all_answers guarded (own_steps a l) u)
        → answers_to guarded (is_own a) (own_steps a (s ∷ l)) w ≡ all_answers guarded (own_steps a (s ∷ l)) w
    go true e ih = simp e (ap (λ r. (guarded s w).answer ∷ r) (ih (guarded s w).after))
    go false e ih = simp e (ih w)
