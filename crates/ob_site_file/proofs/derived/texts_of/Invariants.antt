use Rattle.std.proofs.Common.{◌≡◌, ℕ, List, take}
use Rattle.ob_site_rules.specs.State.{is_among}
use Rattle.ob_site_file.specs.Sizes.{has_text}
use Rattle.ob_site_file.proofs.derived.texts_of.Given as goal

abbrev pub invariant-loop-text : goal.invariant-loop-text
invariant-loop-text l = (t : List ℕ) → has_text l.set t ≡ is_among t (take l.text-index l.texts)
