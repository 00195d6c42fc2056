use Rattle.std.proofs.Common.{Some, None, ◌∙◌}
use Rattle.std.specs.Prelude.{codes}
use Rattle.ob_requests.proofs.Parted.{lent}
use Rattle.ob_requests.proofs.Slashes.{is_behind, isnt_behind}
use Rattle.ob_requests.proofs.target.is_make.Goals as goal

pub returns-in-Some : goal.returns-in-Some
returns-in-Some c =
    c.is_text.ensures
    ∙ is_behind c.args.plan.now.root (codes "watchService/make") c.args.path.now c.in-Some.rest.now
    (lent c.as_bytes-root.result.now c.as_bytes.result.now c.args.plan.now.root c.args.path.now (Some c.in-Some.rest.now) (c.as_bytes-root.ensures.value ∙ c.as_str.ensures.value) (c.as_bytes.ensures.value ∙ c.as_str-2.ensures.value) c.in-Some.ensures)

pub returns-in-None : goal.returns-in-None
returns-in-None c =
    isnt_behind c.args.plan.now.root (codes "watchService/make") c.args.path.now
    (lent c.as_bytes-root.result.now c.as_bytes.result.now c.args.plan.now.root c.args.path.now None (c.as_bytes-root.ensures.value ∙ c.as_str.ensures.value) (c.as_bytes.ensures.value ∙ c.as_str-2.ensures.value) c.in-None.ensures)
