use Rattle.ob_console.specs.InHand as in_hand
use Rattle.ob_console.specs.Boards.{alarm_of}
use Rattle.ob_console.proofs.BoardLemmas.{known_alarm}
use Rattle.ob_console.proofs.board.put_event.Goals as goal

pub returns-clause-puts : goal.returns-clause-puts
returns-clause-puts c = (
  in_hand.line c.in-Some.named,
  known_alarm c.in_ok-named.field-0 c.in-Some.named (alarm_of c.args.event.now) c.in-Some.is c.in_ok-named.ensures,
  c.in_ok-put_alarm.ensures.put,
)
