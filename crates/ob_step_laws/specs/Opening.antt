-- The writable points of a state that a document opens. Source: oBIX 1.1, chapter 13 (Points).
use Rattle.std.specs.Prelude.{◌≡◌, ℕ, true, Some, Ok}
use Rattle.ob_object.specs.Object.{Object}
use Rattle.ob_object.specs.Kinds.{has_values}
use Rattle.ob_site_rules.specs.Build.{Path}
use Rattle.ob_site_rules.specs.State.{is_among}
use Rattle.ob_site_rules.specs.Shown.{node_of}
use Rattle.ob_site_rules.specs.Sites.{SiteState}
use Rattle.ob_site_rules.specs.Opening.{opening}

-- In each state that a document opens, the node at the path of a writable point is of a kind that has values.
abbrev pub OpensPoints : Type 0
OpensPoints = (root : Object) (boot : ℕ) (st : SiteState) → opening root boot ≡ Ok st → (p : Path) (o : Object)
    → is_among p st.plan.points ≡ true → node_of p st.world.site.tree ≡ Some o → has_values o.head.kind ≡ true
