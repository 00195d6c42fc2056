-- What the making of a board answers.
use Rattle.std.specs.Prelude.{◌≡◌, List, Some, Result}
use Rattle.std.specs.declared.result.Result.TheVariants.{Ok, Err}
use Rattle.ob_object.specs.Object.{Object}
use Rattle.ob_console.specs.declared.board.Board.{Board}
use Rattle.ob_console.specs.declared.board.BoardFault.{BoardFault}
use Rattle.ob_console.specs.declared.board.BoardFault.TheVariants.{Shape, Memory}
use Rattle.ob_console.specs.Boards.{board_of, first_other}
use Rattle.ob_console.specs.InHand.{lines_of}

-- The last event of each alarm, in the order of the alarms' first events; or the place of the first event that is no
-- alarm; or want of memory.
abbrev pub Makes : List Object → Result Board BoardFault → Type 0
Makes events (Ok board) = board_of events ≡ Some (lines_of board)
Makes events (Err (Shape place)) = first_other 0 events ≡ Some place
Makes events (Err Memory) = Unit {0}
