-- Each return is a row of what is decided of a command, by the driver that is reached; the last one is what was settled.
use mathlib.Core.Path.{◌≡◌, refl}
use Rattle.definition.specs.Board.{at_place, driver_at}
use Rattle.definition.specs.Image.{state_of}
use Rattle.board.specs.Meaning.{driver_of}
use Rattle.layer.proofs.ReadLaws.{reach_here, driver_here}
use Rattle.layer.proofs.ExchangeLaws.{Reaches}
use Rattle.layer.proofs.CommandLaws.{command_absent, command_zero, command_unshared, command_high, command_passed}
use Rattle.layer.proofs.known.command.Goals as goal
use Rattle.layer.proofs.known.command.Goals.{In-Some, After-driver, then-driver-eq0-via-then-driver-eq0, then-driver-eq0-via-else-driver-eq0+then-number-gt3}

reached : (c : In-Some) → Reaches c.args.table.now c.args.process.0 c.args.driver.0 (at_place c.in-Some.place)
reached c = let board = c.board_of-board.ensures in reach_here board.words c.areas-areas.ensures c.requires.1 board.place _ c.in-Some.ensures.reached

found : (c : After-driver) → driver_of c.driver.result ≡ driver_at (state_of c.args.table.now).board c.in-Some.place
found c = let board = c.board_of-board.ensures in driver_here board.words board.place (c.in-Some.ensures.within _ refl) c.driver.ensures

pub returns-in_default : goal.returns-in_default
returns-in_default c x y =
    let board = c.board_of-board.ensures in command_absent _ c.requires.0 _ _ _ x y (reach_here board.words c.areas-areas.ensures c.requires.1 board.place _ c.in_default.ensures.reached) _ c.failure.ensures

pub returns-then-number-eq0 : goal.returns-then-number-eq0
returns-then-number-eq0 c x y = command_zero _ c.requires.0 _ _ _ x y _ (reached (goal.at.returns-then-number-eq0 c).In-Some) c.if-number-eq0.true _ c.success.ensures

pub returns-then-driver-eq0 : goal.returns-then-driver-eq0
returns-then-driver-eq0 c x y =
    let here = goal.at.returns-then-driver-eq0 c in
    elim c.then-driver-eq0.branch [
      | then-driver-eq0-via-then-driver-eq0 w ↦ command_unshared _ c.requires.0 _ _ _ x y _ (reached here.In-Some) c.if-number-eq0.false _ (found here.After-driver) w.if-driver-eq0.true _ c.failure-then-driver-eq0.ensures
      | then-driver-eq0-via-else-driver-eq0+then-number-gt3 w ↦
          command_high _ c.requires.0 _ _ _ x y _ (reached here.In-Some) c.if-number-eq0.false _ (found here.After-driver) w.if-driver-eq0.false w.if-number-gt3.true _ c.failure-then-driver-eq0.ensures
    ]

pub returns : goal.returns
returns c x y =
    let here = goal.at.returns c in
    command_passed _ c.requires.0 _ _ _ x y _ (reached here.In-Some) c.if-number-eq0.false _ (found here.After-driver) c.if-driver-eq0.false c.if-number-gt3.false _ _ (c.settle.ensures x y)
