-- The sources of the histories that a document opens.
use Rattle.std.specs.Prelude.{◌≡◌, ℕ, true, Some, Ok}
use Rattle.ob_object.specs.Object.{Object}
use Rattle.ob_object.specs.Kinds.{has_values}
use Rattle.ob_site_rules.specs.Build.{Path}
use Rattle.ob_site_rules.specs.State.{source_of}
use Rattle.ob_site_rules.specs.Shown.{node_of}
use Rattle.ob_site_rules.specs.Sites.{SiteState}
use Rattle.ob_site_rules.specs.Opening.{opening}

-- In each state that a document opens, the node at the path of a history's source is of a kind that has values. So what is written
-- there can be recorded.
abbrev pub OpensSources : Type 0
OpensSources =
    (root : Object) (boot : ℕ) (st : SiteState) (h q : Path) (o : Object)
    → opening root boot ≡ Ok st → source_of st.plan h ≡ Some q → node_of q st.world.site.tree ≡ Some o → has_values o.head.kind ≡ true
