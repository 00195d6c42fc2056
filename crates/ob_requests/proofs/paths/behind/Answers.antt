use Rattle.std.proofs.Common.{length, ap, sym, ◌∙◌, Some, arith}
use Rattle.std.proofs.lemmas.List.{length-drop, take_all}
use Rattle.ob_requests.proofs.Slashes.{behind_front, behind_other}
use Rattle.ob_requests.proofs.paths.behind.Goals as goal

pub returns-then-starts_with : goal.returns-then-starts_with
returns-then-starts_with c =
    ap Some (take_all _ _ (omega (arith, length-drop (length c.args.front.now) c.args.text.now)))
    ∙ sym (behind_front c.args.front.now c.args.text.now (sym c.starts_with.ensures.value ∙ c.if-starts_with.true))

pub returns-else-starts_with : goal.returns-else-starts_with
returns-else-starts_with c = sym (behind_other c.args.front.now c.args.text.now (sym c.starts_with.ensures.value ∙ c.if-starts_with.false))
