-- Every step keeps a state good, and a fresh one is.
use Rattle.std.specs.Prelude.{ℕ, ◌≡◌, refl, true, List, map, get_or, set, eqb}
use Rattle.std.proofs.Common.{◌∙◌, eqb-true}
use Rattle.std.proofs.Math.Path.{subst}
use Rattle.std.proofs.Math.ListN.{length-set, get_or-map}
use Rattle.std.proofs.lemmas.List.{length-map}
use Rattle.std.proofs.lemmas.Bool.{not-false}
use Rattle.definition.specs.Board.{Board, no_areas, no_driver, areas_at, is_shared, place_of, good_board}
use Rattle.definition.specs.State.{running, no_process, cleared, Claim, free, State, fresh}
use Rattle.definition.specs.Decide.{Action, Outcome, decide}
use Rattle.definition.specs.World.{freed, World, Step, own, latch, Out, process_at, process_after, view_of, perform, latch_refusal, latch_step, step}
use Rattle.definition.specs.WellFormed.{good_state}
use Rattle.laws.specs.Facts.{clash, either, passed, set_each}
use Rattle.laws.specs.Why.{Why}
use Rattle.laws.specs.Walk.{why}
use Rattle.laws.specs.Fit.{Fits}
use Rattle.laws.specs.FitAfter.{cleared_fits, fits_after}
use Rattle.laws.specs.Boards.{ground}
use Rattle.laws.specs.Claims.{Owner, ClaimFits, free_fits, all_freed, claims_fit_after, claims_length}
use Rattle.laws.specs.Good.{Good, good_of, of_good}

-- ---- a step keeps a state good

-- what a process's own step is decided to do
abbrev pub decided : ℕ → Action → World → Outcome
decided p a w = decide (view_of w p) (process_at w.state p) a

pub decided_why : (p : ℕ) (a : Action) (w : World) → Why (view_of w p) (process_at w.state p) a (decided p a w)
decided_why p a w = why (view_of w p) (process_at w.state p) a

module _ (p : ℕ) (a : Action) (w : World) (g : Good w.state) where
  pub own_fits : Fits w.state.board (areas_at w.state.board p) (process_after (areas_at w.state.board p) (process_at w.state p) (decided p a w))
  unfolding view_of
  own_fits = fits_after (view_of w p) (process_at w.state p) (ground w.state.board g.board p) (g.each p) a (decided p a w) (decided_why p a w)

  own_good : Good (step (own p a) w).after.state
  unfolding step perform view_of
  own_good = record {
    board = g.board;
    count = length-set w.state.processes p _ ∙ g.count;
    each = λ q. set_each (Fits w.state.board (areas_at w.state.board q)) w.state.processes p q _ no_process
        (λ e. subst (λ k. Fits w.state.board (areas_at w.state.board k) (process_after (areas_at w.state.board p) (process_at w.state p) (decided p a w))) e own_fits) (g.each q);
    claim_count = claims_length p (decided p a w) w.state.claims ∙ g.claim_count;
    claims = claims_fit_after (view_of w p) w.state.processes w.state.claims g.claims a (decided p a w) (decided_why p a w);
  }

latch_good : (driver peak : ℕ) (w : World) → Good w.state → Good (latch_step driver peak w).after.state
unfolding latch_step latch_refusal
latch_good driver peak w g = either (λ (o : Out World). Good o.after.state) (eqb (latch_refusal b k) 0) _ _ done λ _. g
  where
    b : Board
    b = w.state.board

    k : ℕ
    k = place_of b.drivers driver

    claims : List Claim
    claims = w.state.claims

    new : Claim
    new = record { owner = (get_or claims k free).owner; latch = peak }

    done : eqb (latch_refusal b k) 0 ≡ true → Good (record { board = b; processes = w.state.processes; claims = set claims k new })
    done e =
        let shared : is_shared b k ≡ true = not-false _ (passed _ _ _ (passed _ _ _ (eqb-true _ 0 e)).1).0 in
        record {
          board = g.board;
          count = g.count;
          each = g.each;
          claim_count = length-set claims k new ∙ g.claim_count;
          claims = λ i. set_each (ClaimFits b w.state.processes i) claims k i new free
              (λ q. record { unshared = λ u. clash (subst (λ m. is_shared b m ≡ true) q shared) u; owned = λ p o. subst (λ m. Owner b w.state.processes m p) q ((g.claims k).owned p o) }) (g.claims i);
        }

pub step_keeps : (s : Step) (w : World) → Good w.state → Good (step s w).after.state
unfolding step
step_keeps (own p a) w g = own_good p a w g
step_keeps (latch driver peak) w g = latch_good driver peak w g

pub fresh_good : (b : Board) → good_board b ≡ true → Good (fresh b)
unfolding fresh
fresh_good b g = record {
  board = g;
  count = length-map b.processes (λ a. cleared a running);
  each = λ p. rw (get_or-map (λ a. cleared a running) b.processes p no_areas) (cleared_fits b (areas_at b p) running (ground b g p) (λ q. clash q refl));
  claim_count = length-map b.drivers (λ d. free);
  claims = λ k. rw (get_or-map (λ d. free) b.drivers k no_driver) (free_fits b _ k);
}

-- a step from a good state leaves a good state
pub kept_good : (s : Step) (w : World) → good_state w.state ≡ true → good_state (step s w).after.state ≡ true
kept_good s w e = of_good _ (step_keeps s w (good_of w.state e))

-- so does giving up the claims of a process
pub freed_good : (p : ℕ) (s : State) → good_state s ≡ true → good_state (record { board = s.board; processes = s.processes; claims = map (freed p) s.claims }) ≡ true
freed_good p s e =
    let g = good_of s e in
    of_good _ (record {
      board = g.board;
      count = g.count;
      each = g.each;
      claim_count = length-map s.claims (freed p) ∙ g.claim_count;
      claims = all_freed s.board s.processes s.processes s.claims p (λ k q _ o. o) g.claims;
    })
