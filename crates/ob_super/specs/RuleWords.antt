-- The rules of a config in a word or two, as they are printed.
use Rattle.std.specs.Prelude.{ℕ, List, codes}
use Rattle.ob_super.specs.declared.config_rule.ConfigRule.{ConfigRule}
use Rattle.ob_super.specs.declared.config_rule.ConfigRule.TheVariants as rule

abbrev pub rule_word : ConfigRule → List ℕ
rule_word rule.Upstreams = codes "upstreams"
rule_word rule.Kind = codes "kind"
rule_word rule.Name = codes "name"
rule_word rule.Url = codes "url"
rule_word rule.Hrefs = codes "hrefs"
rule_word rule.Href = codes "href"
rule_word rule.HrefTwice = codes "href twice"
