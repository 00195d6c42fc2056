-- The board of an alarm feed: the last event of each alarm, in the order of the alarms' first events.
use Rattle.std.specs.Prelude.{◌≡◌, find, ℕ, ◌+◌, cond, Bool, true, false, List, [], ◌∷◌, Option, Some, None, option_map, option_and_then, is_none}
use Rattle.std.specs.Str.{bytes_eq}
use Rattle.ob_object.specs.declared.kind.Kind.TheVariants as kind
use Rattle.ob_object.specs.Object.{Object}
use Rattle.ob_watching.specs.Tables.{put}
use Rattle.ob_watching.specs.WatchOuts.{Text}
use Rattle.ob_console.specs.Alarms.{Shows, shows, if_kind}

-- an alarm under its href
pub record Line : Type 0 where
  pub text : Text
  pub value : Shows

-- in the place of the line under the same href, or last
abbrev pub put_line : Line → List Line → List Line
put_line new lines = put (λ l. bytes_eq new.text l.text) (λ l. new) new lines

-- the line under an href
abbrev pub line_at : Text → List Line → Option Line
line_at text lines = find (λ l. bytes_eq text l.text) lines

-- the alarm that an event tells of: an obj with an href that shows one
abbrev pub alarm_of : Object → Option Line
alarm_of o = option_and_then (λ e. option_and_then (λ href. option_map (λ s. record { text = href; value = s }) (shows e)) e.head.href) (if_kind kind.Obj o)

-- the events, behind those that made this board; none if one of them is no alarm
abbrev pub board_from : List Line → List Object → Option (List Line)
board_from lines [] = Some lines
board_from lines (o ∷ os) = option_and_then (λ l. board_from (put_line l lines) os) (alarm_of o)

abbrev pub board_of : List Object → Option (List Line)
board_of events = board_from [] events

-- the place of the first that is no alarm
abbrev pub first_other : ℕ → List Object → Option ℕ
first_other n [] = None
first_other n (o ∷ os) = cond (is_none (alarm_of o)) (Some n) (first_other (n + 1) os)

-- What an event makes of the lines before it; none where it is no alarm.
abbrev pub Puts : List Line → List Line → Object → Bool → Type 0
Puts old new event true = (l : Line) × (alarm_of event ≡ Some l) × (new ≡ put_line l old)
Puts old new event false = alarm_of event ≡ None
