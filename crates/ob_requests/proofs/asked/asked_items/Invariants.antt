use Rattle.std.proofs.Common.{◌≡◌, take, Some}
use Rattle.ob_site_rules.specs.Watched.{asked_items}
use Rattle.ob_requests.proofs.asked.asked_items.Given as goal

abbrev pub invariant-loop-object : goal.invariant-loop-object
invariant-loop-object l = asked_items (take l.object-index l.objects) ≡ Some l.all.items
