use Rattle.std.proofs.Common.{◌≡◌, List, ℕ, ◌++◌, ◌+◌, ap, ◌∙◌, take}
use Rattle.ob_console.specs.Lines.{shows_text, board_text}
use Rattle.ob_console.specs.InHand as in_hand
use Rattle.ob_console.proofs.LineLemmas.{text_more, text_same}
use Rattle.ob_console.proofs.print.print_board.Goals.{in-Some+in_ok-put_line-in-Some, in-None}
use Rattle.ob_console.proofs.print.print_board.Goals as goal

pub loop-place-preserved : goal.loop-place-preserved
loop-place-preserved c = elim c.match-at.branch [
  | in-Some+in_ok-put_line-in-Some w ↦
      let out : w.put_line.new.out.items ≡ board_text (take (c.loop-place.place + 1) (in_hand.lines_of c.args.board.now)) =
      w.in_ok-put_line-in-Some.ensures ∙ ap (λ (t : List ℕ). t ++ shows_text (in_hand.shown w.in-Some.alarm.now)) c.loop-place.invariant
      ∙ text_more (in_hand.lines_of c.args.board.now) c.loop-place.place (in_hand.shown w.in-Some.alarm.now) w.in-Some.ensures in
      rw w.out-is out
  | in-None w ↦ rw w.out-is (c.loop-place.invariant ∙ text_same (in_hand.lines_of c.args.board.now) c.loop-place.place w.in-None.ensures)
]
