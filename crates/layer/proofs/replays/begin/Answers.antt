-- A board that was read is started; one that is broken or cut has its line.
use mathlib.Core.Path.{◌≡◌, sym}
use mathlib.Core.List.{List}
use Prim.Native.Nat.{ℕ, ◌≤◌}
use native.Mathlib.Omega.{arith}
use lib.ListN.{length, take, length-take}
use borrow.Author.Rules.{rules}
use Rattle.trace.specs.Answers.{board_found, board_read}
use Rattle.layer.proofs.BeginLaws.{plays_broken, plays_board}
use Rattle.layer.proofs.replays.begin.Goals as goal

-- as many words as are taken are there
board_room : (n : ℕ) (l : List ℕ) → length (take n l) ≡ n → n ≤ length l
board_room n l e = omega (arith, length-take n l)

-- there is room for the largest board

pub slice_bounds-board-end : goal.slice_bounds-board-end
slice_bounds-board-end c =
    let words = c.board_at.new.out in
    board_room c.in-Ok.count words (board_read _ _ words (search rules) _ c.board_at.ensures c.in-Ok.is).2

pub slice_bounds-start_on-end : goal.slice_bounds-start_on-end
slice_bounds-start_on-end c = sym (board_read _ _ c.board_at.new.out (search rules) _ c.board_at.ensures c.in-Ok.is).2

pub returns-in-Ok : goal.returns-in-Ok
returns-in-Ok c = plays_board _ _ _ (omega arith) _ _ (board_read _ _ c.board_at.new.out (search rules) _ c.board_at.ensures c.in-Ok.is).0 _ _ _ c.start_on.ensures

pub returns-in-Err : goal.returns-in-Err
returns-in-Err c = plays_broken _ _ _ (omega arith) c.board_at.new.out _ (board_found _ _ c.board_at.new.out (search rules) _ c.board_at.ensures c.in-Err.is) _ _ c.put_broken.ensures c.put_broken.auto.out
