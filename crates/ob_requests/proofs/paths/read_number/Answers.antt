use Rattle.std.proofs.Common.{Some, ap, sym, ◌∙◌}
use Rattle.ob_site_rules.specs.Paths.{digits_number}
use Rattle.ob_requests.proofs.Spelling.{spelled_no, spelled_yes}
use Rattle.ob_requests.proofs.paths.read_number.Goals as goal

pub returns-then-not-is_number : goal.returns-then-not-is_number
returns-then-not-is_number c = spelled_no c.args.text.now (sym c.if-not-is_number.ensures)

pub returns-in-Some : goal.returns-in-Some
returns-in-Some c = spelled_yes c.args.text.now (sym c.if-not-is_number.ensures) ∙ ap Some (sym c.in-Some.ensures)

pub returns-in-None : goal.returns-in-None
returns-in-None c = (digits_number c.args.text.now, c.in-None.ensures, spelled_yes c.args.text.now (sym c.if-not-is_number.ensures))
