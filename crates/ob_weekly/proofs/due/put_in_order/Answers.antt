use Rattle.std.proofs.Common.{◌≡◌, Bool}
use Rattle.std.specs.Ordering.{eq_by_cmp}
use Rattle.std.proofs.lemmas.List.Filters.{dedup_is}
use Rattle.ob_weekly.specs.declared.due.Due.{Due}
use Rattle.ob_weekly.specs.contracts.due.DuePartialEq.TheImpl as due_eq
use Rattle.ob_weekly.specs.Firings.{due_cmp}
use Rattle.ob_weekly.proofs.Order.{in_order, due_ties}
use Rattle.ob_weekly.proofs.due.put_in_order.Goals as goal

abbrev same : Due → Due → Bool
same = (due_eq.ghosts).eq

ties : (x y : Due) → same x y ≡ eq_by_cmp due_cmp x y
ties x y = due_ties x y

pub returns : goal.returns
returns c = in_order same ties c.args.dues.now.items c.sort.new.self.items c.dedup.new.self.items c.in_ok-sort.ensures.permutation c.in_ok-sort.ensures.sorted (dedup_is same c.sort.new.self.items c.dedup.new.self.items c.dedup.ensures.filtered)
