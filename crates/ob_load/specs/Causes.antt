-- Why a site can't be loaded, as far as the outside has to do with it.
use Rattle.std.specs.Prelude.{ℕ, ◌≤◌, Result, IsErrOf}
use Rattle.ob_io.specs.Faults.{Rose}
use Rattle.ob_site_file.specs.declared.fault.LoadFault.{LoadFault}
use Rattle.ob_site_file.specs.declared.fault.LoadFault.TheVariants.{Read}

-- The count of faults has not fallen, and Read is answered only where it rose.
pub record HasLoadCause {T : Type 0} (before after : ℕ) (result : Result T LoadFault) : Type 0 where
  pub later : before ≤ after
  pub failed : IsErrOf result Read → Rose before after
