-- What items tell of records and rules.
use Rattle.std.specs.Prelude.{◌≡◌, ℕ, cond, codes, List, Option, Some, None, option_and_then}
use Rattle.std.specs.Ordering.{nat_cmp}
use Rattle.std.specs.Cmp.Lexicographic.{slice_cmp}
use Rattle.std.specs.BTreeSet.{BTreeSet, contains_by}
use denote.Ref.{Bor}
use Rattle.ob_times.specs.Times.{Instant}
use Rattle.ob_object.specs.declared.kind.Kind.{Kind}
use Rattle.ob_object.specs.declared.kind.Kind.TheVariants as kind
use Rattle.ob_object.specs.Object.{Object}
use Rattle.ob_contracts.specs.Inherit.{slot_or_default}
use Rattle.ob_history.specs.declared.records.Record.{Record}
use Rattle.ob_alarms.specs.declared.rule.Num.{Num}
use Rattle.ob_alarms.specs.declared.rule.Num.TheVariants as num
use Rattle.ob_site_rules.specs.Build.{Path}
use Rattle.ob_site_rules.specs.Loading.{Part, truth_in, child_of, own_number, rule_from, rule_in, alarm_rule, is_bad_rule, after_rule}
use Rattle.ob_site_rules.specs.State.{is_among}
use Rattle.ob_site_rules.specs.declared.plan.PointRule.{PointRule}
use Rattle.ob_site_rules.specs.declared.site_rule.SiteRule.{SiteRule}
use Rattle.ob_site_file.specs.declared.rules.Limits.{Limits}

-- the record of a time and a value
abbrev pub record_by : Instant × Bor Object → Record
record_by x = record { time = x.0; kind = x.1.now.head.kind; slot = slot_or_default x.1.now.head.kind x.1.now.head.slot }

-- the kind of objects with a number
abbrev pub num_kind : Num → Kind
num_kind (num.Int z) = kind.Int
num_kind (num.Real z) = kind.Real

-- the rule of a source and limits
abbrev pub rule_by : Path → Limits → PointRule
rule_by p l = record { source = p; low = l.low; high = l.high; needs_ack = l.needs_ack }

-- the rule that an item with a source of a kind gives by its limits
abbrev pub limits_for : Path → Kind → Object → Option PointRule
limits_for p k o =
    rule_from (Some p) (own_number (codes "low") k o) (own_number (codes "high") k o)
    (option_and_then (λ c. truth_in c.head.slot) (child_of (codes "needsAck") kind.Bool o))

abbrev pub rule_at : Bor (List ℕ) × Limits → PointRule
rule_at x = rule_by x.0.now x.1

-- the paths that are among these
abbrev pub Has : BTreeSet (Bor (List ℕ)) → List Path → Type 0
Has set paths = (p : Path) → contains_by (λ k. slice_cmp nat_cmp p k.now) set ≡ is_among p paths

-- an item is a rule whose source isn't among those before it, and is then among them; or it breaks a rule of the form
pub record IsNext (ps : List Part) (before : List Path) (item : Object) (broken : Option SiteRule) (new : BTreeSet (Bor (List ℕ))) : Type 0 where
  pub same : cond (is_bad_rule before (rule_in ps item)) (Some (alarm_rule ps item (rule_in ps item))) None ≡ broken
  pub has : broken ≡ None → Has new (after_rule before (rule_in ps item))
