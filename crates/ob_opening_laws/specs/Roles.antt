-- What the rules and the alarm subject of an opened site name.
use Rattle.std.specs.Prelude.{◌≡◌, ℕ, true, map, Some, Ok}
use Rattle.ob_object.specs.Object.{Object}
use Rattle.ob_site_rules.specs.Build.{Path}
use Rattle.ob_site_rules.specs.State.{is_among}
use Rattle.ob_site_rules.specs.Sites.{SiteState}
use Rattle.ob_site_rules.specs.Opening.{opening}
use Rattle.ob_site_rules.specs.Loading.{row_of}
use Rattle.ob_step_laws.specs.Laws.{row_paths}

-- In each state that a document opens, the path of each rule's source and that of the alarm subject are paths of own nodes.
abbrev pub OpensRoles : Type 0
OpensRoles =
    (root : Object) (boot : ℕ) (st : SiteState) → opening root boot ≡ Ok st → (p : Path)
    → (is_among p (map (λ r. r.source) st.plan.rules) ≡ true → is_among p (row_paths (row_of st.world.site.tree)) ≡ true)
    × (st.plan.subject ≡ Some p → is_among p (row_paths (row_of st.world.site.tree)) ≡ true)
