use Rattle.std.proofs.Common.{◌≡◌, take, true}
use Rattle.ob_client.specs.Mirrors.{all_follow}
use Rattle.ob_client.proofs.news.all_follow.Given as goal

abbrev pub invariant-loop-entry : goal.invariant-loop-entry
invariant-loop-entry l = all_follow l.table (take l.entry-index l.entries) ≡ true
