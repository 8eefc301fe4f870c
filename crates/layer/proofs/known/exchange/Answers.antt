-- Each return is a row of what is decided of an exchange, by the driver that is reached and the break; the last one does what was decided.
use mathlib.Core.Path.{◌≡◌, refl}
use borrow.Author.Rules.{rules}
use Rattle.definition.specs.Board.{at_place, driver_at, slots_of}
use Rattle.definition.specs.Image.{state_of}
use Rattle.types.specs.Meaning.{kind_of}
use Rattle.layer.proofs.ReadLaws.{areas_here, reach_here, slots_here, slot_within}
use Rattle.layer.proofs.ExchangeLaws.{Reaches, exchange_absent, exchange_slotless, exchange_unheld, exchange_made}
use Rattle.layer.proofs.known.exchange.Goals as goal
use Rattle.layer.proofs.known.exchange.Goals.{In-Some, After-slots}

reached : (c : In-Some) → Reaches c.args.table.now c.args.process.0 c.args.driver.0 (at_place c.in-Some.place)
reached c = let board = c.board_of-board.ensures in reach_here board.words c.areas-areas.ensures c.requires.1 board.place _ c.in-Some.ensures.reached

counted : (c : After-slots) → c.slots.result ≡ slots_of (kind_of c.args.kind) (driver_at (state_of c.args.table.now).board c.in-Some.place)
counted c = let board = c.board_of-board.ensures in slots_here board.words board.place (c.in-Some.ensures.within _ refl) _ c.slots.ensures

pub returns-in_default : goal.returns-in_default
returns-in_default c =
    let board = c.board_of-board.ensures in exchange_absent _ c.requires.0 _ _ _ _ _ (reach_here board.words c.areas-areas.ensures c.requires.1 board.place _ c.in_default.ensures.reached) _ (search rules)

pub returns-then-number-slots : goal.returns-then-number-slots
returns-then-number-slots c =
    let here = goal.at.returns-then-number-slots c in exchange_slotless _ c.requires.0 _ _ _ _ _ _ (reached here.In-Some) _ (counted here.After-slots) c.if-number-slots.true _ c.failure_with_2.ensures

pub returns-then-not-holdable : goal.returns-then-not-holdable
returns-then-not-holdable c =
    let here = goal.at.returns-then-not-holdable c in
    exchange_unheld _ c.requires.0 _ _ _ _ _ _ (reached here.In-Some) _ (counted here.After-slots) c.if-number-slots.false _ (areas_here c.board_of-board.ensures.words c.areas-areas.ensures c.requires.1) _ c.brk-brk.ensures _ c.holdable.ensures c.if-not-holdable.true
    _ c.failure_with_2-then-not-holdable.ensures

pub invariant_of-slot : goal.invariant_of-slot
invariant_of-slot c =
    let board = c.board_of-board.ensures in
    let within = slot_within board.words board.place (c.in-Some.ensures.within _ refl) _ c.slots.ensures c.requires.0 c.if-number-slots.false in
    record { place_within = within.0; number_within = within.1 }

pub returns : goal.returns
returns c =
    let here = goal.at.returns c in
    exchange_made _ c.requires.0 _ _ _ _ _ _ (reached here.In-Some) _ (counted here.After-slots) c.if-number-slots.false _ (areas_here c.board_of-board.ensures.words c.areas-areas.ensures c.requires.1) _ c.brk-brk.ensures _ c.holdable.ensures c.if-not-holdable.false
    _ _ c.success_with_2.ensures _ c.hold.ensures
