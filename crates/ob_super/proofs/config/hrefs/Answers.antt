use Rattle.std.proofs.Common.{◌≡◌, ◌++◌, [], Some, ap, ap₂, sym, ◌∙◌}
use Rattle.std.specs.Prelude.{codes, option_map}
use Rattle.ob_parts.specs.Numbered.{inside, inside_child}
use Rattle.ob_parts.specs.Offences.{unless, needs, said, each}
use Rattle.ob_parts.specs.Views.{part_of}
use Rattle.ob_parts.proofs.Needed.{needs_some, inside_some, said_some}
use Rattle.ob_super.specs.declared.config_rule.ConfigRule.TheVariants as rule
use Rattle.ob_super.specs.Upstreams.{is_list, hrefs_in, href_offences}
use Rattle.ob_super.proofs.ConfigLemmas.{judge_as}
use Rattle.ob_super.proofs.config.hrefs.Goals as goal

pub returns-in-Some : goal.returns-in-Some
returns-in-Some c =
    let p = part_of c.args.part in
    let list = part_of c.in-Some.list in
    let there = sym c.child.ensures ∙ ap (option_map part_of) c.in-Some.is in
    judge_as (unless (is_list 1 2_048 list.object) rule.Hrefs list ++ each href_offences [] (inside list))
    (needs (codes "hrefs") (λ _. rule.Hrefs) (is_list 1 2_048) p ++ each href_offences [] (inside_child (codes "hrefs") p))
    (λ texts. hrefs_in list.object ≡ Some texts.items) (λ texts. said (codes "hrefs") hrefs_in p.object ≡ Some texts.items) c.listed_hrefs.result
    (ap₂ (λ a b. a ++ each href_offences [] b) (needs_some (codes "hrefs") (λ _. rule.Hrefs) (is_list 1 2_048) p list there) (inside_some (codes "hrefs") p list there))
    (λ texts h. said_some (codes "hrefs") hrefs_in p list there ∙ h) c.listed_hrefs.ensures
