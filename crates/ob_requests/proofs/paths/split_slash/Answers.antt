use Rattle.std.proofs.Common.{◌+◌, ap, sym, ◌∙◌, Some, arith}
use Rattle.std.proofs.lemmas.List.{length-drop, take_all}
use Rattle.ob_requests.proofs.Slashes.{split_at, no_split}
use Rattle.ob_requests.proofs.paths.split_slash.Goals as goal

pub returns-in-Some : goal.returns-in-Some
returns-in-Some c =
    let s = split_at c.args.text.now c.in-Some.at (sym c.in-Some.ensures) in
    (s.1 ∙ ap Some (sym (take_all _ _ (omega (arith, length-drop (c.in-Some.at + 1) c.args.text.now)))), s.2)

pub returns-in-None : goal.returns-in-None
returns-in-None c = no_split c.args.text.now (sym c.in-None.ensures)
