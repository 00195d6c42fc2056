use Rattle.std.proofs.Common.{List}
use Rattle.ob_site_rules.specs.Loading.{Part}
use Rattle.ob_site_file.specs.Sought.{Sees}
use Rattle.ob_site_file.proofs.Worst.{HistoriesLeft}
use Rattle.ob_site_file.proofs.bad.bad_histories.Given as goal

abbrev pub invariant-loop-part : goal.invariant-loop-part
invariant-loop-part l = (ps : List Part) → Sees l.nodes ps → HistoriesLeft ps l.parts l.part-index l.first
