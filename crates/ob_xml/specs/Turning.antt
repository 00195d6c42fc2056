-- What reading on from a place of the bytes at hand tells, where others have gone before them.
use Rattle.std.specs.Prelude.{◌≡◌, ◌≢◌, ℕ, ◌+◌, ◌<◌, ◌≤◌, Bool, true, List, ◌++◌, length, drop}
use Rattle.ob_scan.specs.Constructs.{more, scan}
use Rattle.ob_scan.specs.Waiting.{IsWaiting}
use Rattle.ob_scan.specs.declared.wait.Wait.{Wait}
use Rattle.ob_xml.specs.declared.judge.Turn.{Turn}
use Rattle.ob_xml.specs.declared.judge.Turn.TheVariants as turns
use Rattle.ob_xml.specs.declared.judge.Outcome.{Outcome}
use Rattle.ob_xml.specs.declared.judge.Outcome.TheVariants as outcomes
use Rattle.ob_xml.specs.declared.refused.Why.{Why}
use Rattle.ob_xml.specs.declared.refused.Why.TheVariants.{Memory}
use Rattle.ob_xml.specs.declared.state.State.{State}
use Rattle.ob_xml.specs.Judged.{document, fault, is_open, Judges}
use Rattle.ob_xml.specs.Leading.{LeadsOn, Leads}
use Rattle.ob_xml.specs.Structure as structure
use Rattle.ob_xml.specs.Structure.{beginning, place_of, IsSound}
use Rattle.ob_xml.specs.Views.{state_of}

-- one construct
abbrev pub Turned : Bool → List ℕ → ℕ → State → ℕ → Turn → Type 0
Turned ended bytes base s at (turns.On t next) =
    (is_open (state_of t) ≡ true) × IsSound (state_of t) × (at < next) × (next ≤ length bytes)
    × LeadsOn ended (state_of s) (drop at bytes) (state_of t) (drop next bytes)
Turned ended bytes base s at (turns.Waiting t wait) =
    (state_of t ≡ state_of s) × (scan (place_of (state_of s)) ended (drop at bytes) ≡ more) × IsWaiting (place_of (state_of s)) (drop at bytes) wait
Turned ended bytes base s at (turns.Document doc) = (ended ≡ true) × Judges ended (state_of s) (base + at) (drop at bytes) (document doc.value)
Turned ended bytes base s at (turns.Fault refused) = Judges ended (state_of s) (base + at) (drop at bytes) (fault refused.at refused.why)

-- what a turn tells of a construct that is refused for what stands before it
abbrev pub Refuses : ℕ → Why → Turn → Type 0
Refuses place why (turns.On t next) = ⊥
Refuses place why (turns.Waiting t wait) = ⊥
Refuses place why (turns.Document doc) = ⊥
Refuses place why (turns.Fault refused) = (why ≢ Memory) × (refused.at ≡ place) × (refused.why ≡ why)

-- what a turn tells of a construct that leads on to a state
abbrev pub Settles : structure.State → ℕ → Turn → Type 0
Settles s next (turns.On t place) = (state_of t ≡ s) × (place ≡ next) × (is_open s ≡ true) × IsSound (state_of t)
Settles s next (turns.Waiting t wait) = ⊥
Settles s next (turns.Document doc) = s ≡ structure.whole doc.value
Settles s next (turns.Fault refused) = ⊥

-- the construct at a place of the bytes isn't whole, and it or the tag that it is in begins at `from`
pub record Rests (ended : Bool) (bytes : List ℕ) (s : structure.State) (at from : ℕ) (wait : Wait) : Type 0 where
  pub goes_on : is_open s ≡ true
  pub sound : IsSound s
  pub begins : from ≤ at
  pub place : at ≤ length bytes
  pub stands : scan (place_of s) ended (drop at bytes) ≡ more
  pub waits : IsWaiting (place_of s) (drop at bytes) wait

-- more is waited for inside the bytes, and a document comes at their end alone
abbrev pub Shaped : Bool → List ℕ → Outcome → Type 0
Shaped ended bytes (outcomes.Waiting s at from wait) = Rests ended bytes (state_of s) at from wait
Shaped ended bytes (outcomes.Document doc) = ended ≡ true
Shaped ended bytes (outcomes.Fault refused) = Unit {0}

-- what all constructs tell of the whole text
abbrev pub Ran : Bool → List ℕ → List ℕ → Outcome → Type 0
Ran ended gone bytes (outcomes.Waiting s at from wait) = Leads ended (gone ++ bytes) (state_of s) (length gone + at) (length gone + from)
Ran ended gone bytes (outcomes.Document doc) = Judges ended beginning 0 (gone ++ bytes) (document doc.value)
Ran ended gone bytes (outcomes.Fault refused) = Judges ended beginning 0 (gone ++ bytes) (fault refused.at refused.why)
