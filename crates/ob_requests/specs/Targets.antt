-- Whom a request is for, as the definitions of the site have it.
use Rattle.std.specs.Prelude.{◌≡◌, ℕ, ◌≤◌, ◌^◌}
use Rattle.ob_watching.specs.Operations.{Look, Renew, Add, Remove, PollChanges, PollRefresh, Delete, Refuse, Itself, Nowhere, NewWatch, OneWatch}
use Rattle.ob_site_rules.specs.Watched.{WatchOperation, SiteTarget}
use Rattle.ob_requests.specs.declared.target.Operation.{Operation}
use Rattle.ob_requests.specs.declared.target.Operation.TheVariants as asks
use Rattle.ob_requests.specs.declared.target.Target.{Target}
use Rattle.ob_requests.specs.declared.target.Target.TheVariants as target

abbrev pub operation_of : Operation → WatchOperation
operation_of (asks.Look part) = Look part
operation_of (asks.Renew input) = Renew input
operation_of (asks.Add asked) = Add asked.items
operation_of (asks.Remove texts) = Remove texts.items
operation_of asks.PollChanges = PollChanges
operation_of asks.PollRefresh = PollRefresh
operation_of asks.Delete = Delete
operation_of (asks.Refuse fault) = Refuse fault

-- the target that was meant; one beyond is a watch whose number no watch has
abbrev pub IsTarget : Target → SiteTarget → Type 0
IsTarget target.Itself meant = meant ≡ Itself
IsTarget target.Nowhere meant = meant ≡ Nowhere
IsTarget target.NewWatch meant = meant ≡ NewWatch
IsTarget (target.OneWatch n operation) meant = meant ≡ OneWatch n (operation_of operation)
IsTarget target.Beyond meant = (n : ℕ) × (operation : WatchOperation) × (2 ^ 64 ≤ n) × (meant ≡ OneWatch n operation)
