-- One object of the root as it is dressed.
use Rattle.std.specs.Prelude.{◌++◌}
use Rattle.ob_object.specs.Object.{Object, listed, in_row}
use Rattle.ob_object.specs.Paths.{node_path}
use Rattle.ob_site_rules.specs.Shown.{with_status, with_roles, derived}
use Rattle.ob_site_rules.specs.State.{State}
use Rattle.ob_site_rules.specs.declared.plan.Plan.{Plan}

-- with the status of each source in it, and behind the own children of each node those that its roles derive
abbrev pub dressed_object : Plan → State → Object → Object
dressed_object plan s o = record {
  head = with_status plan s o.head;
  inner = in_row (listed (with_roles plan s o.inner) ++ derived plan s (node_path o.head));
}
