-- Records and alarms are objects without names.
use Rattle.std.proofs.Common.{◌≡◌, ℕ, Bool, true, false, cond, List, [], ◌∷◌, ◌++◌, map, nat_eq, refl}
use Rattle.std.specs.Prelude.{codes, is_none}
use Rattle.std.specs.List.{list_all}
use Rattle.ob_object.specs.declared.kind.Kind.TheVariants as kind
use Rattle.ob_object.specs.Object.{Object}
use Rattle.ob_history.specs.declared.records.Record.{Record}
use Rattle.ob_alarms.specs.declared.alarm.Alarm.{Alarm}
use Rattle.ob_alarms.specs.Changes.{State as Board, alarm_of}
use Rattle.ob_site_rules.proofs.AlarmNames.{by_alarm}
use Rattle.ob_site_rules.specs.Build.{valued, number_slot}
use Rattle.ob_site_rules.specs.Entries.{record_object, alarm_object}
use Rattle.ob_site_rules.specs.Replies.{dropped_child}
use Rattle.ob_replies.specs.Names.{are_new}
use Rattle.ob_replies.proofs.New.{nameless_new, nameless_behind}

pub records_nameless : (rs : List Record) → list_all (λ o. is_none o.head.name) (map record_object rs) ≡ true
records_nameless [] = refl
records_nameless (r ∷ rs) = records_nameless rs

alarm_nameless : (b : Board) (n : ℕ) → is_none (alarm_object b n).head.name ≡ true
alarm_nameless b n = by_alarm b n (alarm_of n b.alarms)

pub alarms_nameless : (b : Board) (es : List (ℕ × Alarm)) → list_all (λ o. is_none o.head.name) (map (λ e. alarm_object b e.0) es) ≡ true
alarms_nameless b [] = refl
alarms_nameless b (e ∷ es) = rw (alarm_nameless b e.0) (alarms_nameless b es)

behind_dropped : (n : ℕ) (b : Bool) (os : List Object) → list_all (λ o. is_none o.head.name) os ≡ true → are_new [] (cond b [] (valued kind.Int (codes "dropped") (number_slot n) ∷ []) ++ os) ≡ true
behind_dropped n true os h = nameless_new os h
behind_dropped n false os h = nameless_behind (valued kind.Int (codes "dropped") (number_slot n) ∷ []) os h

-- how many rolled off, and events without names
pub events_new : (n : ℕ) (os : List Object) → list_all (λ o. is_none o.head.name) os ≡ true → are_new [] (dropped_child n ++ os) ≡ true
events_new n os h = behind_dropped n (nat_eq n 0) os h
