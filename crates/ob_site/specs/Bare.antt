-- Nodes of which only their own value tells what was written to them.
use Rattle.std.specs.Prelude.{Bool, not, ◌&&◌, is_some}
use Rattle.std.specs.List.{list_any}
use Rattle.ob_site_rules.specs.Build.{Path}
use Rattle.ob_site_rules.specs.Shown.{node_of, rule_of}
use Rattle.ob_object.specs.Paths.{is_path}
use Rattle.ob_site_rules.specs.State.{State}
use Rattle.ob_site_rules.specs.declared.plan.Plan.{Plan}

-- a history has this source
abbrev pub has_history : Plan → Path → Bool
has_history plan p = list_any (λ h. is_path p h.1) plan.histories

-- an own node whose values no history records and no rule looks at
abbrev pub is_bare : Plan → State → Path → Bool
is_bare plan s p = is_some (node_of p s.tree) && (not (has_history plan p) && not (is_some (rule_of plan p)))
