-- States that differ in values alone: in the slots of nodes, in records and in alarms.
use Rattle.std.specs.Prelude.{◌≡◌, List, map, None}
use Rattle.ob_object.specs.declared.head.Slot.TheVariants.{Absent}
use Rattle.ob_object.specs.declared.head.Head.{Head}
use Rattle.ob_object.specs.Object.{Objects, none, node, Object}
use Rattle.ob_object.specs.Paths.{node_path}
use Rattle.ob_site_rules.specs.Build.{Path}
use Rattle.ob_site_rules.specs.State.{Log, State}

-- an object as a row of one
abbrev pub row : Object → Objects
row o = node o.head o.inner none

-- without its slot
abbrev pub without_slot : Head → Head
without_slot h = record h { slot = Absent }

-- without its slot and its status
abbrev pub without_values : Head → Head
without_values h = record h { slot = Absent; facets = record h.facets { status = None } }

-- rows of the same objects, which may have other slots and statuses
abbrev pub AreAlike : Objects → Objects → Type 0
AreAlike none none = Unit {0}
AreAlike none (node k inner more) = ⊥
AreAlike (node h below rest) none = ⊥
AreAlike (node h below rest) (node k inner more) =
    (without_values h ≡ without_values k) × AreAlike below inner × AreAlike rest more

-- rows of the same own objects, in which nodes may have other slots
abbrev pub DifferInSlots : Objects → Objects → Type 0
DifferInSlots none none = Unit {0}
DifferInSlots none (node k inner more) = ⊥
DifferInSlots (node h below rest) none = ⊥
DifferInSlots (node h below rest) (node k inner more) =
    (without_slot h ≡ without_slot k) × (node_path h ≡ None → h ≡ k) × DifferInSlots below inner × DifferInSlots rest more

-- the paths of histories
abbrev pub paths_of : List (Path × Log) → List Path
paths_of ls = map (λ l. l.0) ls

-- Two states with one library, whose own objects differ in the slots of nodes alone, and which have the same histories.
-- Records, alarms and events may be others. A write to a part of a contract makes another library, so that this doesn't
-- hold of the states before and after it: there what is shown is compared as a whole.
pub record DifferInValues (s t : State) : Type 0 where
  pub library : s.library ≡ t.library
  pub tree : DifferInSlots (row s.tree) (row t.tree)
  pub histories : paths_of s.logs ≡ paths_of t.logs
