-- The board that was made, or none, is the board of the events.
use Rattle.std.proofs.Common.{◌≡◌, ℕ, cond, List, [], ◌∷◌, Option, Some, None, Result, Ok, Err, refl, sym, ap, ◌∙◌}
use Rattle.std.specs.Prelude.{◌+◌, option_and_then, option_map, is_none, IfOk}
use Rattle.std.specs.declared.alloc.AllocError.{AllocError}
use Rattle.ob_object.specs.Object.{Object}
use Rattle.ob_console.specs.Boards.{Line, put_line, alarm_of, board_from, board_of, first_other}
use Rattle.ob_console.specs.Making.{Makes as Made}
use Rattle.ob_console.specs.InHand.{lines_of}
use Rattle.ob_console.specs.declared.board.Board.{Board}
use Rattle.ob_console.specs.declared.board.BoardFault.{BoardFault}
use Rattle.ob_console.specs.declared.board.BoardFault.TheVariants as boards
use Rattle.ob_dialogue.specs.InHand.{Makes}

board_step : (a : Option Line) (n place : ℕ) (os : List Object) (lines : List Line) → ((l : Line) → first_other (n + 1) os ≡ Some place → board_from (put_line l lines) os ≡ None)
    → cond (is_none a) (Some n) (first_other (n + 1) os) ≡ Some place → option_and_then (λ (l : Line). board_from (put_line l lines) os) a ≡ None
board_step None n place os lines rest e = refl
board_step (Some l) n place os lines rest e = rest l e

no_board : (es : List Object) (lines : List Line) (n place : ℕ) → first_other n es ≡ Some place → board_from lines es ≡ None
no_board [] lines n place e = absurd (let f : None ≡ Some place = e in cc)
no_board (o ∷ os) lines n place e = board_step (alarm_of o) n place os lines (λ l f. no_board os (put_line l lines) (n + 1) place f) e

board_made : (events : List Object) (r : Result Board BoardFault) (board : Option Board) → Made events r → Makes r (Ok board) → option_map lines_of board ≡ board_of events
board_made events (Ok b) board made makes = ap (option_map lines_of) (let f : board ≡ Some b = cc in f) ∙ sym made
board_made events (Err (boards.Shape place)) board made makes = ap (option_map lines_of) (let f : board ≡ None = cc in f) ∙ sym (no_board events [] 0 place made)
board_made events (Err boards.Memory) board made makes = absurd makes

pub board_told : (events : List Object) (r : Result Board BoardFault) (t : Result (Option Board) AllocError) (want : Option (List Line)) → Made events r → Makes r t → board_of events ≡ want
    → IfOk t (λ b. option_map lines_of b ≡ want)
board_told events r (Ok b) want made makes e = board_made events r b made makes ∙ e
board_told events r (Err f) want made makes e = tt
