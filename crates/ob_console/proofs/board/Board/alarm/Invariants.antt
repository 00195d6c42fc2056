use Rattle.std.proofs.Common.{◌≡◌, take, None}
use Rattle.ob_console.specs.Boards.{line_at}
use Rattle.ob_console.specs.InHand.{lines_in}
use Rattle.ob_console.proofs.board.Board.alarm.Given as goal

abbrev pub invariant-loop-line : goal.invariant-loop-line
invariant-loop-line l = line_at l.href (lines_in (take l.line-index l.self.alarms.items)) ≡ None
