-- A small site whose nodes change, worked.
use Rattle.std.specs.Prelude.{◌≡◌, ℕ, pos, Bool, true, false, codes, List, [], ◌∷◌, Some, None}
use Rattle.url.specs.Parts.{Parts}
use Rattle.ob_object.specs.declared.kind.Kind.TheVariants as kind
use Rattle.ob_object.specs.declared.head.Slot.{Slot}
use Rattle.ob_object.specs.declared.head.Slot.TheVariants.{Absent}
use Rattle.ob_object.specs.Object.{Object, empty_head}
use Rattle.ob_alarms.specs.declared.alarm.Alarm.{Alarm}
use Rattle.ob_alarms.specs.declared.rule.Num.TheVariants as num
use Rattle.ob_history.specs.declared.records.Record.{Record}
use Rattle.ob_site_rules.specs.Build.{Path, whole, leaf, valued, number_slot}
use Rattle.ob_site_rules.specs.declared.plan.Plan.{Plan}
use Rattle.ob_site_rules.specs.State.{State}
use Rattle.ob_site_rules.specs.Sameness.{same_object}
use Rattle.ob_site_rules.specs.Sites.{watched_object}
use Rattle.ob_shown_laws.specs.Changed.{differs}

abbrev root : Path
root = codes "/obix/"

abbrev point : Path
point = codes "/obix/n"

abbrev group : Path
group = codes "/obix/g"

abbrev history : Path
history = codes "/obix/h"

-- an int with this slot; beside it an obj with an int of its own, and a history of the first
abbrev tree : Slot → Object
tree slot =
    whole (record (empty_head kind.Obj) { href = Some root })
    (leaf (record (empty_head kind.Int) { name = Some (codes "n"); href = Some point; slot = slot })
    ∷ whole
    (record (empty_head kind.Obj) { name = Some (codes "g"); href = Some group })
    (valued kind.Int (codes "x") (number_slot 1) ∷ [])
    ∷ leaf (record (empty_head kind.Obj) { name = Some (codes "h"); href = Some history })
    ∷ [])

-- numbers from 0 to 10 raise no alarm
abbrev plan : Parts → Plan
plan base = record {
  base = base;
  root = root;
  boot = 0;
  lobby = false;
  points = [];
  histories = (history, Some point) ∷ [];
  subject = None;
  rules = record { source = point; low = num.Int (pos 0); high = num.Int (pos 10); needs_ack = true } ∷ [];
  about = [];
}

abbrev kept : ℕ → Record
kept n = record { time = record { seconds = pos n; nanos = 0; offset = pos 0 }; kind = kind.Int; slot = number_slot n }

abbrev site : Slot → List Record → List Alarm → State
site slot records alarms = record {
  library = [];
  tree = tree slot;
  logs = (history, record { capacity = None; gone = 0; kept = records }) ∷ [];
  alarms = alarms;
  events = [];
}

-- these records and no alarm, at the value 7
abbrev recorded : List Record → State
recorded records = site (number_slot 7) records []

abbrev raised : Alarm
raised = record { rule = 0; value = num.Int (pos 11); raised = record { at = 0; event = 0 }; normal = None; ack = None }

-- what a watch shows of a node is the same
abbrev is_same : Parts → State → State → Path → Bool
is_same base s t p = same_object (watched_object (plan base) s p) (watched_object (plan base) t p)

-- an absent slot that now holds what it showed hasn't changed
pub record DefaultWritten (base : Parts) : Type 0 where
  pub node : differs (plan base) (site Absent [] []) (site (number_slot 0) [] []) point ≡ false
  pub watched : is_same base (site Absent [] []) (site (number_slot 0) [] []) point ≡ true

-- a value is another: of the node, which is in the root, but isn't in what stands beside it
pub record ValueWritten (base : Parts) : Type 0 where
  pub node : differs (plan base) (site (number_slot 7) [] []) (site (number_slot 8) [] []) point ≡ true
  pub round : differs (plan base) (site (number_slot 7) [] []) (site (number_slot 8) [] []) root ≡ false
  pub watched : is_same base (site (number_slot 7) [] []) (site (number_slot 8) [] []) point ≡ false
  pub watched_round : is_same base (site (number_slot 7) [] []) (site (number_slot 8) [] []) root ≡ false
  pub watched_beside : is_same base (site (number_slot 7) [] []) (site (number_slot 8) [] []) group ≡ true

-- a history with one more record shows itself otherwise, and the root
pub record RecordAdded (base : Parts) : Type 0 where
  pub node : differs (plan base) (recorded (kept 1 ∷ [])) (recorded (kept 1 ∷ kept 2 ∷ [])) history ≡ true
  pub watched_round : is_same base (recorded (kept 1 ∷ [])) (recorded (kept 1 ∷ kept 2 ∷ [])) root ≡ false

-- one that lost its oldest record when it got another has the same count, and another start
pub record RecordRolled (base : Parts) : Type 0 where
  pub node : differs (plan base) (recorded (kept 1 ∷ kept 2 ∷ [])) (recorded (kept 2 ∷ kept 3 ∷ [])) history ≡ true

-- an alarm changes the status of its source
pub record AlarmRaised (base : Parts) : Type 0 where
  pub node : differs (plan base) (site (number_slot 11) [] []) (site (number_slot 11) [] (raised ∷ [])) point ≡ true
  pub watched_round : is_same base (site (number_slot 11) [] []) (site (number_slot 11) [] (raised ∷ [])) root ≡ false

-- from every base
abbrev pub DefaultIsNoChange : Type 0
DefaultIsNoChange = (base : Parts) → DefaultWritten base

-- from every base
abbrev pub ValueIsChange : Type 0
ValueIsChange = (base : Parts) → ValueWritten base

-- from every base
abbrev pub RecordIsChange : Type 0
RecordIsChange = (base : Parts) → RecordAdded base

-- from every base
abbrev pub RollingIsChange : Type 0
RollingIsChange = (base : Parts) → RecordRolled base

-- from every base
abbrev pub AlarmIsChange : Type 0
AlarmIsChange = (base : Parts) → AlarmRaised base
