-- The words of a refusal of a site file, as they are printed.
use Rattle.std.specs.Prelude.{ℕ, List, ◌++◌, codes, decimal}
use Rattle.ob_contracts.specs.declared.adding.LibFault.{LibFault}
use Rattle.ob_contracts.specs.declared.adding.LibFault.TheVariants as contracts
use Rattle.ob_parts.specs.declared.offence.Offence.{Offence}
use Rattle.ob_site_rules.specs.declared.site_rule.SiteRule.{SiteRule}
use Rattle.ob_site_rules.specs.RuleWords.{rule_word}
use Rattle.ob_xml.specs.Words.{refusal_words}
use Rattle.ob_site_file.specs.declared.fault.LoadFault.{LoadFault}
use Rattle.ob_site_file.specs.declared.fault.LoadFault.TheVariants as loads

-- why a contract isn't taken, and its word
abbrev pub contract_words : LibFault → List ℕ
contract_words (contracts.Twice uri) = codes "Contract Twice " ++ uri
contract_words (contracts.Later uri) = codes "Contract Later " ++ uri
contract_words (contracts.Large uri) = codes "Contract Large " ++ uri
contract_words contracts.Memory = codes "Contract Memory"

-- the part that breaks a rule, and the rule
abbrev pub broken_words : Offence SiteRule → List ℕ
broken_words offence = codes "Rule " ++ (decimal offence.part ++ (codes " " ++ rule_word offence.rule))

-- the refusal, and the part or the path; of bytes that are no document the cause and the place
abbrev pub load_words : LoadFault → List ℕ
load_words loads.Read = codes "Read"
load_words (loads.Document refused) = refusal_words refused
load_words loads.RootHref = codes "RootHref"
load_words (loads.Href part) = codes "Href " ++ decimal part
load_words (loads.Contract fault) = contract_words fault
load_words (loads.PathTwice path) = codes "PathTwice " ++ path
load_words (loads.Rule offence) = broken_words offence
load_words loads.Size = codes "Size"
load_words loads.Memory = codes "Memory"
