use Rattle.ob_object.specs.Object.{parts}
use Rattle.ob_site_rules.specs.Shown.{shown_root}
use Rattle.ob_site_file.proofs.Sizes.{counted_test}
use Rattle.ob_site_file.proofs.size.is_too_large.Goals as goal

pub returns : goal.returns
returns c = λ plan s k same. counted_test (parts (shown_root plan s)) c.in_ok-parts.parts (c.in_ok-parts.ensures plan s k same)
