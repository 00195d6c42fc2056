-- The rules of the roles in a word or two, as they are printed.
use Rattle.std.specs.Prelude.{ℕ, List, codes}
use Rattle.ob_site_rules.specs.declared.site_rule.SiteRule.{SiteRule}
use Rattle.ob_site_rules.specs.declared.site_rule.SiteRule.TheVariants.{Kind, Timestamp, Value, Order, Late, Source, Capacity, Total, Low, High, Bounds, NeedsAck, SourceTwice, SecondSubject}

abbrev pub rule_word : SiteRule → List ℕ
rule_word Kind = codes "kind"
rule_word Timestamp = codes "timestamp"
rule_word Value = codes "value"
rule_word Order = codes "order"
rule_word Late = codes "late"
rule_word Source = codes "source"
rule_word Capacity = codes "capacity"
rule_word Total = codes "total"
rule_word Low = codes "low"
rule_word High = codes "high"
rule_word Bounds = codes "bounds"
rule_word NeedsAck = codes "needsAck"
rule_word SourceTwice = codes "source twice"
rule_word SecondSubject = codes "second subject"
