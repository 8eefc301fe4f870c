-- A step of a process on a board where a driver is denied to it, and on the board without that driver.
use Rattle.std.specs.Prelude.{ℕ, ◌<◌, ◌≡◌, refl, Bool, not, List, length, eqb}
use Rattle.std.proofs.Math.Path.{sym, ap, subst}
use Rattle.std.proofs.Common.{◌∙◌, arith}
use Rattle.std.proofs.Math.Bool.{true, false}
use Rattle.definition.specs.Tests.{provided◌then◌else◌}
use Rattle.definition.specs.Limits.{max_drivers, image_bytes}
use Rattle.definition.specs.Board.{Board, areas_at, permits, good_board}
use Rattle.definition.specs.Decide.{Action, call, event, resume, deposit, fetch, View}
use Rattle.definition.specs.World.{process_after, write_of, World, own, Out, process_at, view_of, perform, step}
use Rattle.definition.specs.Runs.{hears, sends_shared}
use Rattle.definition.specs.Table.{wrong_image, refuse_step, lent_of}
use Rattle.definition.specs.Without.{areas_without, board_without}
use Rattle.laws.specs.Boards.{few_drivers}
use Rattle.laws.specs.Stores.{store_ram}
use Rattle.laws.specs.Good.{Good}
use Rattle.laws.specs.Kept.{decided}
use Rattle.promises.specs.Guarded.{guarded}
use Rattle.promises.specs.Isolation.{next_view, own_view, own_process, own_size}
use Rattle.promises.specs.BoardWithout.{areas_without_lem, processes_without}
use Rattle.promises.specs.Beside.{Beside}
use Rattle.promises.specs.Matched.{Match, after_match, answer_match, ram_match}
use Rattle.promises.specs.DecidedAlike.{decide_match}

-- ---- worlds on the two boards, as process a sees them

pub record Alongside (k a : ℕ) (b : Board) (w w' : World) : Type 0 where
  pub ram : List ℕ
  pub flash : List ℕ
  pub view : view_of w a ≡ record { self = a; board = b; ram = ram; flash_image = flash }
  pub view' : view_of w' a ≡ record { self = a; board = board_without k b; ram = ram; flash_image = flash }
  pub size : length w.memory ≡ length w'.memory
  pub process : Beside k (process_at w.state a) (process_at w'.state a)

view_board : (a : ℕ) (w : World) {v : View} → view_of w a ≡ v → w.state.board ≡ v.board
unfolding view_of
view_board a w e = ap (λ (v : View). v.board) e

view_flash : (a : ℕ) (w : World) {v : View} → view_of w a ≡ v → w.flash ≡ v.flash_image
unfolding view_of
view_flash a w e = ap (λ (v : View). v.flash_image) e

module _ (k a : ℕ) (b : Board) (ha : a < length b.processes) {w w' : World} (p : Alongside k a b w w') where
  pub here : a < length w.state.board.processes
  here = subst (λ (r : Board). a < length r.processes) (sym (view_board a w p.view)) ha

  pub here' : a < length w'.state.board.processes
  here' = subst (λ (r : Board). a < length r.processes) (sym (view_board a w' p.view')) (subst (λ n. a < n) (sym (processes_without k b)) ha)

-- its own step on both: the same answer, if it is a call or a resume
pub record Both (k a : ℕ) (b : Board) (x : Action) (o o' : Out World) : Type 0 where
  pub answer : hears x ≡ true → o.answer ≡ o'.answer
  pub after : Alongside k a b o.after o'.after

module _ (k a : ℕ) (b : Board) (good : good_board b ≡ true) (hk : k < length b.drivers) (denied : permits (areas_at b a) k ≡ false) (ha : a < length b.processes)
    (x : Action) (w w' : World) (g : Good w.state) (g' : Good w'.state) (quiet : sends_shared (board_without k b) x ≡ false) (p : Alongside k a b w w') where
  matched : Match k (hears x) (decided a x w) (decided a x w')
  matched = rw (p.view, p.view') (decide_match k a b good hk denied p.ram p.flash (process_at w.state a) (process_at w'.state a) p.process x quiet)

  areas : areas_at w.state.board a ≡ areas_at b a
  areas = ap (λ r. areas_at r a) (view_board a w p.view)

  areas' : areas_at w'.state.board a ≡ areas_without k (areas_at b a)
  areas' = ap (λ r. areas_at r a) (view_board a w' p.view') ∙ areas_without_lem k b a

  small : k < max_drivers
  small = omega (arith, few_drivers b good)

  same_ram : store_ram (areas_at (board_without k b) a) (write_of (areas_at w'.state.board a) (process_at w'.state a) (decided a x w')) p.ram
      ≡ store_ram (areas_at b a) (write_of (areas_at b a) (process_at w.state a) (decided a x w)) p.ram
  same_ram = ap (λ r. store_ram r (write_of (areas_at w'.state.board a) (process_at w'.state a) (decided a x w')) p.ram) (areas_without_lem k b a)
      ∙ ap (λ r. store_ram (areas_without k (areas_at b a)) (write_of r (process_at w'.state a) (decided a x w')) p.ram) areas'
      ∙ sym (ram_match k small (areas_at b a) (process_at w.state a) (process_at w'.state a) (g.each a).size (g'.each a).size p.process p.ram matched)

  own_both : Both k a b x (step (own a x) w) (step (own a x) w')
  unfolding step perform next_view
  own_both =
      let h = here k a b ha p in
      let h' = here' k a b ha p in
      record {
        answer = λ e. answer_match k small (areas_at b a) (process_at w.state a) (process_at w'.state a) (g.each a).size (g'.each a).size p.process a w.state.claims w'.state.claims (rw e at matched);
        after = record {
          ram = store_ram (areas_at b a) (write_of (areas_at b a) (process_at w.state a) (decided a x w)) p.ram;
          flash = p.flash;
          view = own_view a x w g h ∙ ap (λ v. next_view v (write_of (areas_at w.state.board a) (process_at w.state a) (decided a x w))) p.view
              ∙ ap (λ r. next_view (record { self = a; board = b; ram = p.ram; flash_image = p.flash }) (write_of r (process_at w.state a) (decided a x w))) areas;
          view' = own_view a x w' g' h' ∙ ap (λ v. next_view v (write_of (areas_at w'.state.board a) (process_at w'.state a) (decided a x w'))) p.view'
              ∙ ap (λ ram. record { self = a; board = board_without k b; ram = ram; flash_image = p.flash }) same_ram;
          size = own_size a x w g h ∙ p.size ∙ sym (own_size a x w' g' h');
          process = subst (λ z. Beside k z (process_at (step (own a x) w').after.state a)) (sym (own_process a x w g h))
              (subst (λ z. Beside k (process_after (areas_at w.state.board a) (process_at w.state a) (decided a x w)) z) (sym (own_process a x w' g' h'))
              (rw (areas, areas') (after_match k small (areas_at b a) (process_at w.state a) (process_at w'.state a) (g.each a).size (g'.each a).size p.process matched)));
        };
      }

  wrong_same : wrong_image (own a x) (lent_of w) ≡ wrong_image (own a x) (lent_of w')
  unfolding wrong_image
  wrong_same = go x
    where
      flashes : w.flash ≡ w'.flash
      flashes = view_flash a w p.view ∙ sym (view_flash a w' p.view')

      memories : not (eqb (length w.memory) image_bytes) ≡ not (eqb (length w'.memory) image_bytes)
      memories = ap (λ n. not (eqb n image_bytes)) p.size

      go : (x : Action) → wrong_image (own a x) (lent_of w) ≡ wrong_image (own a x) (lent_of w')
      go (call class r0 r1 r2 r3) = memories
      go (event driver j y z u) = refl
      go resume = refl
      go (deposit driver j offset bytes) = memories
      go (fetch driver j offset n) = cc (memories, flashes)

  pub guarded_both : Both k a b x (guarded (own a x) w) (guarded (own a x) w')
  unfolding guarded provided◌then◌else◌
  guarded_both = rw wrong_same (go (wrong_image (own a x) (lent_of w')))
    where
      go : (t : Bool) → Both k a b x (provided t then record { answer = refuse_step (own a x) 1; after = w } else step (own a x) w) (provided t then record { answer = refuse_step (own a x) 1; after = w' } else step (own a x) w')
      go true = record { answer = λ _. refl; after = p }
      go false = own_both
