use Rattle.std.proofs.Common.{◌≡◌, drop}
use Rattle.std.specs.List.{list_any}
use Rattle.ob_site_actions.specs.Limits.{any_counted_out}
use Rattle.ob_site_actions.proofs.Selected.{logs_at, is_full_log}
use Rattle.ob_site_actions.proofs.limits.any_counted_out.Given as goal

abbrev pub invariant-loop-place : goal.invariant-loop-place
invariant-loop-place l =
    list_any is_full_log (logs_at (drop l.place-index l.recorders) l.state.now.logs) ≡ any_counted_out l.state.plan l.source l.state.now.logs
