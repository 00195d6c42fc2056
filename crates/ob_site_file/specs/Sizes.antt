-- How many parts a site shows, told without building them.
use Rattle.std.specs.Prelude.{◌≡◌, ℕ, Bool, false, not, cond, List, ◌++◌, Option, Some, None, is_some}
use Rattle.std.specs.Ordering.{nat_cmp}
use Rattle.std.specs.Cmp.Lexicographic.{slice_cmp}
use Rattle.std.specs.BTreeSet.{BTreeSet, contains_by}
use denote.Ref.{Bor}
use Rattle.ob_object.specs.declared.kind.Kind.TheVariants as kind
use Rattle.ob_object.specs.Kinds.{is_ref}
use Rattle.ob_object.specs.Object.{Object, Objects, empty_head, listed, in_row, count}
use Rattle.ob_object.specs.WellFormed.{is_taken}
use Rattle.ob_object.specs.Paths.{node_path}
use Rattle.ob_contracts.specs.Inherit.{Contracts, Words, row_results}
use Rattle.ob_site_rules.specs.Build.{leaf}
use Rattle.ob_site_rules.specs.Shown.{derived, with_status, with_roles}
use Rattle.ob_site_rules.specs.State.{State, at, is_among}
use Rattle.ob_site_rules.specs.declared.plan.Plan.{Plan}
use Rattle.ob_site_file.specs.declared.derived.Counting.{Counting}
use Rattle.ob_site_file.specs.declared.derived.Derived.{Derived}

abbrev pub Texts : Type 0
Texts = BTreeSet (Bor (List ℕ))

-- whether a text is in a set
abbrev pub has_text : Texts → List ℕ → Bool
has_text set t = contains_by (λ k. slice_cmp nat_cmp t k.now) set

-- a set has the names of objects
abbrev pub HasNames : Texts → List Object → Type 0
HasNames set os = (n : List ℕ) → has_text set n ≡ is_taken (Some n) os

-- whether a name is none of a set
abbrev pub is_fresh : Texts → Option (List ℕ) → Bool
is_fresh set None = false
is_fresh set (Some n) = not (has_text set n)

-- what the parts of the site of a plan and a state are counted by
pub record IsCounting (c : Counting) (plan : Plan) (s : State) : Type 0 where
  pub library : c.library.now ≡ s.library
  pub fixed : c.plan.now ≡ plan
  pub points : (t : List ℕ) → has_text c.points t ≡ is_among t plan.points
  pub histories : (t : List ℕ) → has_text c.histories t ≡ is_some (at t s.logs)

-- an own object with the status of each source in it, and with the children that roles derive
abbrev pub dressed_at : Plan → State → Object → Object
dressed_at plan s o = record {
  head = with_status plan s o.head;
  inner = in_row (listed (with_roles plan s o.inner) ++ derived plan s (node_path o.head));
}

-- a child of a name, of which no more is told than whether it is a ref
abbrev pub stand_in : Bool → List ℕ → Object
stand_in ref n = leaf (record (empty_head (cond ref kind.Ref kind.Op)) { name = Some n })

abbrev pub stood : Derived → Object
stood d = stand_in d.is_ref d.name.now

-- the same of an object
abbrev pub plain : Object → Object
plain o = leaf (record (empty_head (cond (is_ref o.head.kind) kind.Ref kind.Op)) { name = o.head.name })

-- how many parts the results of a row have, whose parent has these sources and gives it these words
abbrev pub row_count : Contracts → Option Words → List Object → Objects → ℕ
row_count lib gives above r = count (row_results lib gives above r)
