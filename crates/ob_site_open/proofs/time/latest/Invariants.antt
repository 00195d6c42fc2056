use Rattle.std.proofs.Common.{◌≡◌, drop, map}
use Rattle.ob_site_rules.specs.Loading.{greatest}
use Rattle.ob_step_laws.specs.Ordered.{moment_from}
use Rattle.ob_site_open.proofs.time.latest.Given as goal

abbrev pub invariant-loop-record : goal.invariant-loop-record
invariant-loop-record l =
    greatest l.latest (map (λ r. moment_from r.time) (drop l.record-index l.records))
    ≡ greatest l.fn.time (map (λ r. moment_from r.time) l.records)
