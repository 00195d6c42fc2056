-- A step that writes to parts of contracts: it sets own slots, as every write does, and leaves another library.
use Rattle.std.specs.Prelude.{◌≡◌, ℕ, Bool, not, ◌&&◌, ◌||◌, List, filter, map, false}
use Rattle.ob_object.specs.declared.head.Slot.TheVariants.{Absent}
use Rattle.ob_object.specs.Object.{Objects, none, node, Object}
use Rattle.ob_contracts.specs.Inherit.{Contracts}
use Rattle.ob_contracts.specs.Standard.{standard, with_added}
use Rattle.ob_site_rules.specs.Build.{Path}
use Rattle.ob_site_rules.specs.declared.plan.Plan.{Plan}
use Rattle.ob_site_rules.specs.State.{State, is_among}
use Rattle.ob_site_rules.specs.Sameness.{same_object}
use Rattle.ob_site_rules.specs.Shown.{dressed}
use Rattle.ob_site_rules.specs.Sites.{watched_object}
use Rattle.ob_site_rules.specs.Writes.{site_contracts}
use Rattle.ob_shown_laws.specs.Alike.{row, without_slot, DifferInValues}
use Rattle.ob_shown_laws.specs.Changed.{differs, reaches, PathsDiffer}
use Rattle.ob_shown_laws.specs.Looked.{IsLeft}
use Rattle.ob_shown_laws.specs.Stamps.{Clock, MarkedWatch, AllMarksPast, ticked, watches, settled_watches, of_plan}
use Rattle.ob_shown_laws.specs.Standing.{standing_at}

-- objects without their slots, at every depth
abbrev pub unslotted_row : Objects → Objects
unslotted_row none = none
unslotted_row (node h inner rest) = node (without_slot h) (unslotted_row inner) (unslotted_row rest)

-- an object without any values
abbrev pub unslotted : Object → Object
unslotted o = record { head = without_slot o.head; inner = unslotted_row o.inner }

-- contracts without their slots
abbrev pub defaults_off : Contracts → Contracts
defaults_off lib = map (λ c. (c.0, unslotted c.1)) lib

-- libraries of the same contracts, which may have other slots
abbrev pub DifferInDefaults : Contracts → Contracts → Type 0
DifferInDefaults lib new = defaults_off lib ≡ defaults_off new

-- Kept trees that are the same but for slots give such libraries.
abbrev pub DefaultsDiffer : Type 0
DefaultsDiffer = (t u : Object) → unslotted t ≡ unslotted u
    → DifferInDefaults (with_added standard (site_contracts t)) (with_added standard (site_contracts u))

-- a slot that was given isn't taken away: what is absent in the second row was so in the first
abbrev pub StayGiven : Objects → Objects → Type 0
StayGiven none qs = Unit {0}
StayGiven (node h below rest) none = Unit {0}
StayGiven (node h below rest) (node k inner more) =
    (k.slot ≡ Absent → h.slot ≡ Absent) × StayGiven below inner × StayGiven rest more

-- the same state with another library
abbrev pub with_library : Contracts → State → State
with_library lib s = record s { library = lib }

-- what a watch shows of a node is the same
abbrev pub is_same : Plan → State → State → Path → Bool
is_same plan s t p = same_object (watched_object plan s p) (watched_object plan t p)

-- A step sets own slots, of which none becomes absent, and then takes another library. What a watch shows of a node is as before
-- exactly where neither of the two changes it.
abbrev pub ChangesAreEither : Type 0
ChangesAreEither = (plan : Plan) (s t : State) (new : Contracts) → DifferInValues s t → StayGiven (row s.tree) (row t.tree)
    → DifferInDefaults t.library new → (p : Path)
    → is_same plan s (with_library new t) p ≡ (is_same plan s t p && is_same plan t (with_library new t) p)

-- So the watches are settled by the paths that it looked at, and by comparing what is shown with both libraries.
abbrev pub DefaultsSettle : Type 0
DefaultsSettle = (plan : Plan) (s t : State) (new : Contracts) → DifferInValues s t → StayGiven (row s.tree) (row t.tree)
    → DifferInDefaults t.library new → PathsDiffer (row (dressed plan s))
    → (looked : List Path) → ((p : Path) → is_among p looked ≡ false → IsLeft plan s t p)
    → (c : Clock (of_plan plan)) (vs : List (ℕ × MarkedWatch (of_plan plan))) → AllMarksPast (of_plan plan) c.steps vs
    → settled_watches (of_plan plan) s (with_library new t) (watches (of_plan plan) c vs)
    ≡ watches
    (of_plan plan)
    (ticked
    (λ p. reaches (filter (differs plan s t) looked) (standing_at plan s p) || not (is_same plan t (with_library new t) p))
    c)
    vs
