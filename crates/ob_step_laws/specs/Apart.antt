-- The paths of an opened state.
use Rattle.std.specs.Prelude.{◌≡◌, ℕ, Ok}
use Rattle.ob_object.specs.Object.{Object}
use Rattle.ob_site_rules.specs.Shown.{dressed}
use Rattle.ob_site_rules.specs.Sites.{SiteState}
use Rattle.ob_site_rules.specs.Opening.{opening}
use Rattle.ob_shown_laws.specs.Alike.{row}
use Rattle.ob_shown_laws.specs.Changed.{PathsDiffer}

-- In each state that a document opens no two nodes of the root have one path, those that roles derive among them. Steps keep
-- that (`StepsLeaveAlike` of ob_shown_laws).
abbrev pub OpensApart : Type 0
OpensApart = (root : Object) (boot : ℕ) (st : SiteState) → opening root boot ≡ Ok st
    → PathsDiffer (row (dressed st.plan st.world.site))
