-- A driver that is denied to a process, one that is not installed and one that it may call, computed: calls of every class that names a driver, the
-- driver's own steps, and the board without the driver (request 3).
use Rattle.std.specs.Prelude.{ℕ, ◌+◌, ◌*◌, ◌≡◌, refl, true, List, [], ◌∷◌, ◌++◌, map, replicate}
use Rattle.definition.specs.Board.{Board, Areas, good_board}
use Rattle.definition.specs.State.{null, fresh}
use Rattle.definition.specs.Answer.{Answer, refused, deposited, latched, fetched, empty_part, failure, failure_with2, success, success_with1, INVAL, NOSUPPORT, NODEVICE}
use Rattle.definition.specs.Call.{pair}
use Rattle.definition.specs.Decide.{call, event, resume, deposit, fetch}
use Rattle.definition.specs.World.{World, Step, own, latch}
use Rattle.definition.specs.Runs.{is_heard, those}
use Rattle.definition.specs.Image.{lent_board}
use Rattle.definition.specs.Without.{drop_at, drop_bit, board_without, words_without}
use Rattle.definition.specs.Cases.{Case, answered_from, given, areas, board, begin, by0, first_time, posted, twelve, mistakes, on_table}
use Rattle.definition.specs.Rules.{by1, answers_by_class}

-- ---- the board of the cases with one driver more at its front, number 7, which is denied to process 0 and not to process 1

abbrev permitting : ℕ → Areas → Areas
permitting mask a = record { ram_start = a.ram_start; ram_end = a.ram_end; grant_start = a.grant_start; first_break = a.first_break; flash_start = a.flash_start; flash_end = a.flash_end; permissions = mask }

unfoldable pub denied_board : Board
unfolding board areas
denied_board = record {
  processes = permitting 6 (areas 0 0) ∷ permitting 7 (areas 0x2000 0x4000) ∷ [];
  drivers = record { number = 7; subscribes = 1; read_writes = 1; read_onlys = 1; shared = 1 } ∷ board.drivers;
}

pub denied_good : good_board denied_board ≡ true
unfolding denied_board on_table
denied_good = refl

unfoldable pub begin_denied : World
unfolding begin denied_board fresh on_table
begin_denied = record { state = fresh denied_board; memory = begin.memory; flash = begin.flash }

-- ---- the board without a driver

-- without it, it is the board of the cases, in words too
pub without_denied : board_without 0 denied_board ≡ board
unfolding board_without drop_at drop_bit denied_board
without_denied = refl

pub words_without_lem : words_without 0 (lent_board denied_board) ≡ lent_board board
unfolding board_without drop_at drop_bit denied_board on_table
words_without_lem = refl

-- bits above the one that is taken out move down, those below it stay
pub masks_without : drop_bit 0 6 ∷ drop_bit 0 7 ∷ drop_bit 1 13 ∷ drop_bit 2 11 ∷ drop_bit 2 12 ∷ drop_bit 3 7 ∷ drop_bit 15 0x8001 ∷ [] ≡ 3 ∷ 3 ∷ 7 ∷ 7 ∷ 4 ∷ 7 ∷ 1 ∷ []
unfolding drop_bit
masks_without = refl

-- ---- calls

-- calls of process p that name a driver: of each class a value that may be held, a slot that no driver has, and a value that may not be held; of commands 0 to 4
unfoldable pub calls_to : (p driver : ℕ) → List Step
calls_to p driver =
    let pointer = 0x00040010 + p * 0x4000 in
    let address = 0x20000100 + p * 0x2000 in
    map (own p) (
    call 1 driver 0 pointer 7 ∷ call 1 driver 9 pointer 7 ∷ call 1 driver 0 5 6
    ∷ call 2 driver 0 0 0 ∷ call 2 driver 1 0 0 ∷ call 2 driver 3 0 0 ∷ call 2 driver 2 0 0 ∷ call 2 driver 4 0 0
    ∷ call 3 driver 0 address 16 ∷ call 3 driver 9 address 16 ∷ call 3 driver 0 5 6
    ∷ call 4 driver 0 address 16 ∷ call 4 driver 9 address 16 ∷ call 4 driver 0 5 6 ∷ [])

-- no driver to be had, as process 0 is told
abbrev absent_to0 : List Answer
absent_to0 =
    replicate 3 (failure_with2 NODEVICE null) ++ (replicate 5 (failure NODEVICE)
    ++ (failure_with2 NODEVICE (pair 0x20000100 16) ∷ failure_with2 NODEVICE (pair 0x20000100 16) ∷ failure_with2 NODEVICE (pair 5 6)
    ∷ failure_with2 NODEVICE (pair 0x20000100 16) ∷ failure_with2 NODEVICE (pair 0x20000100 16) ∷ failure_with2 NODEVICE (pair 5 6) ∷ []))

pub denied : List Case
unfolding calls_to first_time
denied =
    -- denied, and not installed
    record { steps = calls_to 0 7; gives = absent_to0 }
    ∷ record { steps = calls_to 0 8; gives = absent_to0 }
    -- denied while another process owns it
    ∷ record { steps = own 1 (call 2 7 1 0 0) ∷ calls_to 0 7; gives = success ∷ absent_to0 }
    -- permitted
    ∷ record {
      steps = calls_to 1 7;
      gives = first_time ∷ failure_with2 NOSUPPORT (pair 0x00044010 7) ∷ failure_with2 INVAL (pair 5 6)
          ∷ success ∷ success ∷ success_with1 0 ∷ success ∷ failure NOSUPPORT
          ∷ first_time ∷ failure_with2 NOSUPPORT (pair 0x20002100 16) ∷ failure_with2 INVAL (pair 5 6)
          ∷ first_time ∷ failure_with2 NOSUPPORT (pair 0x20002100 16) ∷ failure_with2 INVAL (pair 5 6) ∷ [];
    }
    -- the driver's own steps do not look at permissions: what they name is judged like any other slot, and holds nothing
    ∷ record {
      steps = own 0 (event 7 0 1 2 3) ∷ own 0 (event 7 9 1 2 3) ∷ own 0 (deposit 7 0 0 []) ∷ own 0 (deposit 7 0 0 (5 ∷ [])) ∷ own 0 (fetch 7 0 0 0) ∷ own 0 (fetch 7 0 0 1) ∷ latch 7 5 ∷ [];
      gives = refused 11 ∷ refused 8 ∷ deposited ∷ refused 9 ∷ fetched 0 empty_part ∷ fetched 9 empty_part ∷ latched ∷ [];
    }
    ∷ record {
      steps = own 0 (event 8 0 1 2 3) ∷ own 0 (event 8 9 1 2 3) ∷ own 0 (deposit 8 0 0 []) ∷ own 0 (deposit 8 0 0 (5 ∷ [])) ∷ own 0 (fetch 8 0 0 0) ∷ own 0 (fetch 8 0 0 1) ∷ latch 8 5 ∷ [];
      gives = refused 7 ∷ refused 7 ∷ refused 7 ∷ refused 7 ∷ fetched 7 empty_part ∷ fetched 7 empty_part ∷ refused 7 ∷ [];
    }
    ∷ []

pub denied_answered : map (answered_from begin_denied) denied ≡ map given denied
unfolding denied calls_to begin_denied first_time answered_from given
denied_answered = refl

-- the cases of document 01 give what they give without the driver
pub cases_denied : map (answered_from begin_denied) (twelve ++ (mistakes ++ answers_by_class)) ≡ map given (twelve ++ (mistakes ++ answers_by_class))
unfolding twelve mistakes answers_by_class by0 by1 posted first_time begin_denied answered_from given
cases_denied = refl

-- ---- a process is itself answered its calls and resumes, and no other step

pub heard_steps : those (is_heard 0) (own 0 (call 5 2 0 0 0) ∷ own 1 (call 5 2 0 0 0) ∷ own 0 resume ∷ own 1 resume ∷ own 0 (event 7 0 0 0 0) ∷ own 0 (deposit 7 0 0 []) ∷ own 0 (fetch 7 0 0 0) ∷ latch 7 0 ∷ [])
    ≡ own 0 (call 5 2 0 0 0) ∷ own 0 resume ∷ []
unfolding those is_heard answered_from
heard_steps = refl
