-- Which paths a write, an acknowledgement and the rolling of histories don't leave alone.
use Rattle.std.specs.Prelude.{◌≡◌, ℕ, Bool, false, ◌||◌, Option, Some}
use Rattle.std.specs.Str.{bytes_eq}
use Rattle.ob_object.specs.declared.kind.Kind.{Kind}
use Rattle.ob_object.specs.declared.head.Slot.{Slot}
use Rattle.ob_object.specs.Paths.{is_path}
use Rattle.ob_alarms.specs.declared.alarm.Alarm.{Alarm}
use Rattle.ob_alarms.specs.Changes.{alarm_of, on_ack}
use Rattle.ob_site_rules.specs.Build.{Text, Path}
use Rattle.ob_site_rules.specs.State.{Log, State, at, board, roll, rolled, with_board}
use Rattle.ob_site_rules.specs.declared.plan.Plan.{Plan}
use Rattle.ob_site_rules.specs.Shown.{rule_of}
use Rattle.ob_site_rules.specs.Writes.{records_from, write}
use Rattle.ob_shown_laws.specs.Looked.{IsLeft}

-- the point that is written to, a history that records it, or the subject of alarms
abbrev pub is_round_write : Plan → Path → Path → Bool
is_round_write plan p q = bytes_eq p q || (records_from plan p q || is_path q plan.subject)

-- A step leaves alone what none of its parts changes: a write all but the point, the histories that record it and the subject
-- of alarms; an acknowledgement all but the source of the alarm's rule; and rolling all but the histories that it makes shorter.
pub record StepsLeave (plan : Plan) : Type 0 where
  pub nothing : (s : State) (p : Path) → IsLeft plan s s p
  pub both : (s t u : State) (p : Path) → IsLeft plan s t p → IsLeft plan t u p → IsLeft plan s u p
  pub writes : (s : State) (now : ℕ) (p : Path) (k : Kind) (slot : Slot) (q : Path) → is_round_write plan p q ≡ false
      → IsLeft plan s (write plan now p k slot s) q
  pub acks : (s : State) (number : ℕ) (user : Option Text) (now : ℕ) (q : Path)
      → ((a : Alarm) → alarm_of number s.alarms ≡ Some a → rule_of plan q ≡ Some a.rule → ⊥)
      → IsLeft plan s (with_board s (on_ack (board plan s) number user now).0) q
  pub rolls : (s : State) (q : Path) → ((l : Log) → at q s.logs ≡ Some l → rolled l ≡ l) → IsLeft plan s (roll s) q

-- law: of every plan
abbrev pub StepsLeaveRest : Type 0
StepsLeaveRest = (plan : Plan) → StepsLeave plan
