-- How a proof tells states of a site apart: each is stored as the tuple of its fields.
use Rattle.std.specs.Prelude.{ℕ, Bool, List, Option, refl}
use Rattle.std.specs.Coded.{Coded, code_by, coded×, coded_ℕ, coded_bool, coded_list, coded_option}
use Rattle.url.specs.Parts.{Parts, parts_code}
use Rattle.ob_object.specs.Object.{Object}
use Rattle.ob_object.specs.contracts.object.Obj.{the_row as object_row}
use Rattle.ob_contracts.specs.Inherit.{Contracts}
use Rattle.ob_contracts.specs.contracts.library.Library.{the_row as library_row}
use Rattle.ob_history.specs.declared.records.Record.{Record}
use Rattle.ob_history.specs.contracts.records.Record.{the_row as record_row}
use Rattle.ob_alarms.specs.declared.rule.Num.{Num}
use Rattle.ob_alarms.specs.contracts.rule.Num.{the_row as num_row}
use Rattle.ob_alarms.specs.declared.alarm.Alarm.{Alarm}
use Rattle.ob_alarms.specs.contracts.alarm.Alarm.{the_row as alarm_row}
use Rattle.ob_alarms.specs.declared.alarm.Event.{Event}
use Rattle.ob_alarms.specs.contracts.alarm.Event.{the_row as event_row}
use Rattle.ob_site_rules.specs.Build.{Path, Text}
use Rattle.ob_site_rules.specs.declared.plan.PointRule.{PointRule}
use Rattle.ob_site_rules.specs.declared.plan.Plan.{Plan}
use Rattle.ob_site_rules.specs.State.{Log, State}
use Rattle.ob_site_state.specs.Kept.{Kept}

abbrev pub text_code : Coded Text
text_code = coded_list coded_ℕ

abbrev pub rule_code : Coded PointRule
rule_code =
    code_by (Path × (Num × (Num × Bool))) (coded× text_code (coded× num_row.coded (coded× num_row.coded coded_bool)))
    (λ r. (r.source, (r.low, (r.high, r.needs_ack)))) (λ t. record { source = t.0; low = t.1.0; high = t.1.1.0; needs_ack = t.1.1.1 }) (λ _. refl)

abbrev pub histories_code : Coded (List (Path × Option Path))
histories_code = coded_list (coded× text_code (coded_option text_code))

abbrev pub about_code : Coded (List (Text × Text))
about_code = coded_list (coded× text_code text_code)

-- what roles say, beside the root
abbrev Roles : Type 0
Roles = List Path × (List (Path × Option Path) × (Option Path × (List PointRule × List (Text × Text))))

abbrev roles_code : Coded Roles
roles_code = coded× (coded_list text_code) (coded× histories_code (coded× (coded_option text_code) (coded× (coded_list rule_code) about_code)))

abbrev pub plan_code : Coded Plan
plan_code =
    code_by (Parts × (Path × (ℕ × (Bool × Roles)))) (coded× parts_code (coded× text_code (coded× coded_ℕ (coded× coded_bool roles_code))))
    (λ p. (p.base, (p.root, (p.boot, (p.lobby, (p.points, (p.histories, (p.subject, (p.rules, p.about)))))))))
    (λ t. let roles : Roles = t.1.1.1.1 in record { base = t.0; root = t.1.0; boot = t.1.1.0; lobby = t.1.1.1.0; points = roles.0; histories = roles.1.0; subject = roles.1.1.0; rules = roles.1.1.1.0; about = roles.1.1.1.1 })
    (λ _. refl)

abbrev pub log_code : Coded Log
log_code =
    code_by (Option ℕ × (ℕ × List Record)) (coded× (coded_option coded_ℕ) (coded× coded_ℕ (coded_list record_row.coded)))
    (λ l. (l.capacity, (l.gone, l.kept))) (λ t. record { capacity = t.0; gone = t.1.0; kept = t.1.1 }) (λ _. refl)

abbrev pub state_code : Coded State
state_code =
    code_by (Contracts × (Object × (List (Path × Log) × (List Alarm × List Event))))
    (coded× library_row.coded (coded× object_row.coded (coded× (coded_list (coded× text_code log_code)) (coded× (coded_list alarm_row.coded) (coded_list event_row.coded)))))
    (λ s. (s.library, (s.tree, (s.logs, (s.alarms, s.events))))) (λ t. record { library = t.0; tree = t.1.0; logs = t.1.1.0; alarms = t.1.1.1.0; events = t.1.1.1.1 }) (λ _. refl)

abbrev pub kept_code : Coded Kept
kept_code =
    code_by (Plan × (ℕ × (State × (ℕ × (State × (List ℕ × ℕ))))))
    (coded× plan_code (coded× coded_ℕ (coded× state_code (coded× coded_ℕ (coded× state_code (coded× (coded_list coded_ℕ) coded_ℕ))))))
    (λ k. (k.plan, (k.time, (k.now, (k.since, (k.before, (k.stamps, k.steps)))))))
    (λ t. record { plan = t.0; time = t.1.0; now = t.1.1.0; since = t.1.1.1.0; before = t.1.1.1.1.0; stamps = t.1.1.1.1.1.0; steps = t.1.1.1.1.1.1 }) (λ _. refl)
