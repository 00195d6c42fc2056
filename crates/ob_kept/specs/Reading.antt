-- Why entries aren't done again.
use Rattle.std.specs.Prelude.{ℕ, List}
use Rattle.ob_record.specs.Legal.{IsIllegalAt}
use Rattle.ob_record.specs.declared.run.Entry.{Entry}
use Rattle.ob_site_rules.specs.Sites.{SiteState}
use Rattle.ob_kept.specs.declared.fault.ReopenFault.{ReopenFault}
use Rattle.ob_kept.specs.declared.fault.ReopenFault.TheVariants as faults
use Rattle.ob_kept.specs.Redone.{redone}

-- Done again from this state, the entry at this place is the first that keeps another reply than the site's; so they are no legal run.
abbrev pub CeasesToBeLegal : SiteState → List Entry → ℕ → Type 0
CeasesToBeLegal opening entries place = (left : SiteState) × (expected : List ℕ) × IsIllegalAt redone opening left entries place expected

-- They were not done again from this state, since one keeps another reply or memory was wanting.
abbrev pub Undone : SiteState → List Entry → ReopenFault → Type 0
Undone opening entries (faults.Illegal entry) = CeasesToBeLegal opening entries entry
Undone opening entries faults.Memory = Unit {0}
Undone opening entries _ = ⊥
