-- The constructs that have been read, and how far they lead.
use Rattle.std.specs.Prelude.{◌≡◌, ℕ, ◌≤◌, Bool, true, false, List, length, drop, Ok, if◌then◌else◌}
use Rattle.ob_scan.specs.Constructs.{Construct, found, scan}
use Rattle.ob_xml.specs.Meanings.{Meaning, Means}
use Rattle.ob_xml.specs.Structure.{State, start, marked, between, in_tag, behind, whole, beginning, place_of, kind_in, step}
use Rattle.ob_xml.specs.Judged.{is_open}

-- the construct at the front of the bytes leads from a state to another, and leaves a rest
pub record LeadsOn (ended : Bool) (s : State) (bytes : List ℕ) (t : State) (rest : List ℕ) : Type 0 where
  pub construct : Construct
  pub meaning : Meaning
  pub goes_on : is_open s ≡ true
  pub stands : scan (place_of s) ended bytes ≡ found construct rest
  pub means : Means (kind_in s) construct meaning
  pub steps : step s meaning ≡ Ok t

abbrev pub is_tag : State → Bool
is_tag start = false
is_tag marked = false
is_tag (between ns outer) = false
is_tag (in_tag ns names h outer) = true
is_tag (behind d) = false
is_tag (whole d) = false

-- where the tag in hand begins, or else the place behind the construct; a tag began where it was opened
abbrev pub begins_by : Bool → Bool → ℕ → ℕ → ℕ → ℕ
begins_by tag next_tag from at next = if next_tag then (if tag then from else at) else next

abbrev pub tag_begins : State → State → ℕ → ℕ → ℕ → ℕ
tag_begins s t from at next = begins_by (is_tag s) (is_tag t) from at next

-- The constructs of the bytes up to a place lead to a state. The tag in hand begins at the last place, or else the next
-- construct.
pub data Leads (ended : Bool) (bytes : List ℕ) : State → ℕ → ℕ → Type 0 where
  begins : Leads ended bytes beginning 0 0
  on : (s t : State) (at from next : ℕ) → Leads ended bytes s at from → LeadsOn ended s (drop at bytes) t (drop next bytes)
      → at ≤ next → next ≤ length bytes → Leads ended bytes t next (tag_begins s t from at next)
