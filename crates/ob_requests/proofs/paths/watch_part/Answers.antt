use Rattle.std.proofs.Common.{Some, None, sym, ◌∙◌, subst}
use Rattle.ob_requests.specs.Parts.{IsOfWatch}
use Rattle.ob_requests.proofs.Parted.{lent, not_below, not_watches, of_watches}
use Rattle.ob_requests.proofs.paths.watch_part.Goals as goal

pub returns-in_default : goal.returns-in_default
returns-in_default c =
    not_below c.args.plan.now c.args.path.now
    (lent c.as_bytes-root.result.now c.as_bytes.result.now c.args.plan.now.root c.args.path.now None (c.as_bytes-root.ensures.value ∙ c.as_str.ensures.value) c.as_bytes.ensures.value c.in_default.ensures)

pub returns-in-Some-behind : goal.returns-in-Some-behind
returns-in-Some-behind c =
    subst (IsOfWatch c.part_behind.result)
    (sym (of_watches c.args.plan.now c.args.path.now c.in-Some.below.now c.in-Some-behind.rest.now
    (lent c.as_bytes-root.result.now c.as_bytes.result.now c.args.plan.now.root c.args.path.now (Some c.in-Some.below.now) (c.as_bytes-root.ensures.value ∙ c.as_str.ensures.value) c.as_bytes.ensures.value c.in-Some.ensures)
    (sym c.in-Some-behind.ensures)))
    c.part_behind.ensures

pub returns-in-None : goal.returns-in-None
returns-in-None c =
    not_watches c.args.plan.now c.args.path.now c.in-Some.below.now
    (lent c.as_bytes-root.result.now c.as_bytes.result.now c.args.plan.now.root c.args.path.now (Some c.in-Some.below.now) (c.as_bytes-root.ensures.value ∙ c.as_str.ensures.value) c.as_bytes.ensures.value c.in-Some.ensures)
    (sym c.in-None.ensures)
