use Rattle.std.proofs.Common.{sym, ap, ◌∙◌, List}
use denote.Ref.{Bor}
use Rattle.ob_object.specs.Object.{Object}
use Rattle.ob_contracts.specs.Found.{lent}
use Rattle.ob_contracts.specs.Telling.{tells_part}
use Rattle.ob_contracts.proofs.Found.{lent-append}
use Rattle.ob_contracts.proofs.fewer.put_head.Goals as goal

pub returns-then-tells_part : goal.returns-then-tells_part
returns-then-tells_part c = (
  sym c.if-tells_part.true ∙ c.tells_part.ensures ∙ ap (λ (l : List (Bor Object)). tells_part (lent l) c.args.source.now) c.as_slice.ensures.value,
  ap lent c.in_ok-push.ensures.items ∙ lent-append c.args.heads.now.items _,
)
