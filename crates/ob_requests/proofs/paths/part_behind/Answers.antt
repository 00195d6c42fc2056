use Rattle.std.proofs.Common.{Some, sym}
use Rattle.ob_requests.proofs.Parted.{with_part}
use Rattle.ob_requests.proofs.paths.part_behind.Goals as goal

pub returns-in-Beyond : goal.returns-in-Beyond
returns-in-Beyond c = (
  c.in-Beyond.ensures.0,
  c.in-Some-part_named.part,
  c.in-Beyond.ensures.1,
  with_part c.args.text.now c.in-Some.part.now c.in-Some.number.now (Some c.in-Beyond.ensures.0) c.in-Some-part_named.part c.in-Some.ensures.0 c.in-Some.ensures.1 (sym c.in-Some-part_named.ensures) c.in-Beyond.ensures.2,
)
