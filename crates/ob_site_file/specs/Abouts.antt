-- The texts of the About object that a site replaces.
use Rattle.std.specs.Prelude.{List, cond, option_and_then, option_map, None}
use Rattle.std.specs.List.{filter_map}
use Rattle.ob_object.specs.Kinds.{same_kind}
use Rattle.ob_object.specs.Object.{Object}
use Rattle.ob_site_rules.specs.Build.{Text}
use Rattle.ob_site_rules.specs.Loading.{about_kind, text_in}

-- those that objects give
abbrev pub texts_in : List Object → List (Text × Text)
texts_in os = filter_map (λ o. option_and_then (λ n. option_map (λ t. (n, t)) (cond (same_kind o.head.kind (about_kind n)) (text_in o.head.slot) None)) o.head.name) os
