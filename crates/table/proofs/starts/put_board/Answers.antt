-- The board's words in their two places, over zeros, are those of the state that has the board and nothing else.
use Rattle.table.proofs.StartLaws.{board_put}
use Rattle.table.proofs.starts.put_board.Goals as goal

pub returns : goal.returns
returns c = board_put c.args.table.now c.args.board.words.now _ _ _ _ c.requires.0 c.requires.1 c.requires.2 c.zero.ensures c.put.ensures c.put-2.ensures
