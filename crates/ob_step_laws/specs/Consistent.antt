-- What a state of a site owes its plan, over the definitions' own plans and states.
use Rattle.std.specs.Prelude.{◌≡◌, true, IsTrue, Some, is_some}
use Rattle.ob_object.specs.declared.kind.Kind.{Kind}
use Rattle.ob_object.specs.Object.{none, node}
use Rattle.ob_contracts.specs.Standard.{standard}
use Rattle.ob_site_rules.specs.Build.{Path}
use Rattle.ob_site_rules.specs.declared.plan.Plan.{Plan}
use Rattle.ob_site_rules.specs.State.{State, is_among}
use Rattle.ob_site_rules.specs.Shown.{node_of}
use Rattle.ob_site_rules.specs.Writes.{site_contracts}
use Rattle.ob_contracts.specs.Renewing.{AreTaken}
use Rattle.ob_plain_state.specs.States.{NamesAreFree, NodesAre, AreCounted, limits_fit, rule_at}

-- What the roles of a node derive finds its names free; nodes at one path are of one kind, and numbers of it are held against
-- limits of it; each point is a node; the built-in library takes the site's contracts; and the events of each history can be
-- counted.
pub record IsConsistent (plan : Plan) (s : State) : Type 0 where
  pub names_free : NamesAreFree plan s (node s.tree.head s.tree.inner none)
  pub kind_at : Path → Kind
  pub kinds : NodesAre kind_at (node s.tree.head s.tree.inner none)
  pub limits : (p : Path) → IsTrue (limits_fit (kind_at p) (rule_at plan (Some p)))
  pub points : (p : Path) → is_among p plan.points ≡ true → IsTrue (is_some (node_of p s.tree))
  pub taken : AreTaken standard (site_contracts s.tree)
  pub counted : AreCounted s.logs
