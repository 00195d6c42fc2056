use Rattle.std.proofs.Common.{subst, ap, ◌∙◌, Ok, arith}
use Rattle.ob_http.specs.Request.{IsUndecided}
use Rattle.ob_http.proofs.RequestLemmas.{looked_at_is, of_complete, of_partial, knows_head, knows_refused}
use Rattle.ob_http.proofs.request_head.read_head.Goals as goal

pub undecided-requires : goal.undecided-requires
undecided-requires c =
    subst IsUndecided (looked_at_is c.args.bytes.now c.min.result c.min.ensures)
    (of_partial _ c.parse_request.result (c.in-Ok-Partial.is ∙ ap Ok c.in-Ok-Partial.field-0-is)
    c.parse_request.ensures.partial c.parse_request.ensures.unfinished)

pub undecided-requires-else-is_refused : goal.undecided-requires-else-is_refused
undecided-requires-else-is_refused c =
    subst IsUndecided (looked_at_is c.args.bytes.now c.min.result c.min.ensures)
    (rw c.if-is_refused.false at c.is_refused.ensures)

pub returns-in-Ok-Complete : goal.returns-in-Ok-Complete
returns-in-Ok-Complete c =
    knows_head c.args.bytes.now _ _ _ _ (looked_at_is c.args.bytes.now c.min.result c.min.ensures) (omega (arith, c.parse_request.auto.headers))
    (of_complete c.parse_request.result c.in-Ok-Complete.head _ (c.in-Ok-Complete.is ∙ ap Ok c.in-Ok-Complete.field-0-is)
    c.parse_request.ensures.complete) c.place_parts.ensures

pub returns-then-is_refused : goal.returns-then-is_refused
returns-then-is_refused c =
    knows_refused c.args.bytes.now _ (looked_at_is c.args.bytes.now c.min.result c.min.ensures) c.in-Err.ensures.no_room
    (rw c.if-is_refused.true at c.is_refused.ensures)
