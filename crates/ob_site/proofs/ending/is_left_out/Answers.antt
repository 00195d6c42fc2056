use Rattle.std.proofs.Common.{inr}
use Rattle.std.proofs.lemmas.Bool.{MatchBool-at_false, MatchBool-at_true}
use Rattle.ob_site.proofs.Noted.{left_out}
use Rattle.ob_site.proofs.ending.is_left_out.Goals as goal

pub returns-then-is_read : goal.returns-then-is_read
returns-then-is_read c = inr (MatchBool-at_true _ _ c.if-is_read.true c.is_read.ensures)

pub returns : goal.returns
returns c =
    left_out c.args.state.now.before c.args.state.now.now c.args.verb c.has_changed.result c.has_changed.ensures (MatchBool-at_false _ _ c.if-is_read.false c.is_read.ensures)
