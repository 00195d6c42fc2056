-- The causes that errors of std tell.
use Rattle.ob_io.specs.declared.cause.Cause.{Cause}
use Rattle.ob_io.specs.declared.cause.Cause.TheVariants as causes
use Rattle.std.specs.declared.io.ErrorKind.{ErrorKind}
use Rattle.std.specs.declared.io.ErrorKind.TheVariants as kinds

-- the cause that a kind of error tells: `missing` where a name leads nowhere, and `held` where the call would have to wait
abbrev pub cause_of : ErrorKind → (missing held : Cause) → Cause
cause_of kinds.AddrInUse missing held = causes.InUse
cause_of kinds.AddrNotAvailable missing held = causes.NotHere
cause_of kinds.PermissionDenied missing held = causes.NotAllowed
cause_of kinds.ReadOnlyFilesystem missing held = causes.NotAllowed
cause_of kinds.StorageFull missing held = causes.Full
cause_of kinds.QuotaExceeded missing held = causes.Full
cause_of kinds.NotADirectory missing held = causes.NoFolder
cause_of kinds.IsADirectory missing held = causes.IsFolder
cause_of kinds.NotFound missing held = missing
cause_of kinds.WouldBlock missing held = held
cause_of _ missing held = causes.Untold
