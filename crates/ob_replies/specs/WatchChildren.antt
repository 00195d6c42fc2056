-- The children of a watch, from the path of the watch.
use Rattle.std.specs.Prelude.{ℕ, pos, codes, List, [], ◌∷◌, ◌++◌, Some, true}
use Rattle.ob_values.specs.declared.value.Value.{Value}
use Rattle.ob_values.specs.declared.value.Value.TheVariants as value
use Rattle.ob_object.specs.declared.kind.Kind.TheVariants as kind
use Rattle.ob_object.specs.declared.head.Slot.TheVariants.{Is}
use Rattle.ob_object.specs.Facets.{no_facets}
use Rattle.ob_object.specs.Object.{Object, empty_head}
use Rattle.ob_site_rules.specs.Build.{Text, Path, leaf, op_at}
use Rattle.ob_site_rules.specs.declared.watch_part.WatchPart.{WatchPart}
use Rattle.ob_site_rules.specs.declared.watch_part.WatchPart.TheVariants.{Whole, Lease, Add, Remove, PollChanges, PollRefresh, Delete}

-- so many nanoseconds
abbrev pub span_value : ℕ → Value
span_value n = value.Reltime (record { months = pos 0; nanos = pos n })

abbrev pub lease_at : Path → ℕ → Object
lease_at path lease =
    leaf (record (empty_head kind.Reltime) {
      name = Some (codes "lease");
      href = Some (path ++ codes "lease");
      slot = Is (span_value lease);
      facets = record no_facets { min = Some (span_value 1_000_000_000); max = Some (span_value 86_400_000_000_000); writable = Some true };
    })

abbrev pub op_of_watch : Path → Text → Text → Text → Object
op_of_watch path name takes gives = op_at name (path ++ name) takes gives

abbrev pub child_at : Path → ℕ → WatchPart → Object
child_at path lease Whole = leaf (empty_head kind.Obj)
child_at path lease Lease = lease_at path lease
child_at path lease Add = op_of_watch path (codes "add") (codes "obix:WatchIn") (codes "obix:WatchOut")
child_at path lease Remove = op_of_watch path (codes "remove") (codes "obix:WatchIn") (codes "obix:Nil")
child_at path lease PollChanges = op_of_watch path (codes "pollChanges") (codes "obix:Nil") (codes "obix:WatchOut")
child_at path lease PollRefresh = op_of_watch path (codes "pollRefresh") (codes "obix:Nil") (codes "obix:WatchOut")
child_at path lease Delete = op_of_watch path (codes "delete") (codes "obix:Nil") (codes "obix:Nil")

-- the lease, and then the ops
abbrev pub children_at : Path → ℕ → List Object
children_at path lease =
    child_at path lease Lease
    ∷ child_at path lease Add
    ∷ child_at path lease Remove
    ∷ child_at path lease PollChanges
    ∷ child_at path lease PollRefresh
    ∷ child_at path lease Delete
    ∷ []
