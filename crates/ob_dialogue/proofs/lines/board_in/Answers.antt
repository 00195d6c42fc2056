use Rattle.std.proofs.Common.{ap}
use Rattle.ob_console.specs.Boards.{board_of}
use Rattle.ob_dialogue.proofs.TakingLemmas.{board_told}
use Rattle.ob_dialogue.proofs.lines.board_in.Goals as goal

pub returns : goal.returns
returns c = board_told c.events_in.result.now c.of.result c.made.result _ c.of.ensures c.made.ensures (ap board_of c.events_in.ensures)
