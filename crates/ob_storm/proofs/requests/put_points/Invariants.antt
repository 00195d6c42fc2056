use Rattle.std.proofs.Common.{◌≡◌, ◌++◌, map}
use Rattle.ob_storm.specs.Requests.{uri_of, points_from}
use Rattle.ob_storm.proofs.requests.put_points.Given as goal

abbrev pub invariant-loop-place : goal.invariant-loop-place
invariant-loop-place l = l.uris.items ≡ l.initial.uris.items ++ map uri_of (points_from l.client l.place)
