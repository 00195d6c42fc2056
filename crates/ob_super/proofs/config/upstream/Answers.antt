use Rattle.std.proofs.Common.{rules, ◌≡◌, ◌++◌, [], true, Some, sym, subst, ◌∙◌}
use Rattle.std.specs.Prelude.{codes, is_some}
use Rattle.ob_parts.specs.Numbered.{inside_child}
use Rattle.ob_parts.specs.Offences.{unless, needs, said, each}
use Rattle.ob_parts.specs.Views.{part_of}
use Rattle.ob_super.specs.declared.upstream.Upstream as code
use Rattle.ob_super.specs.Configs.{Judges, upstream}
use Rattle.ob_super.specs.declared.config_rule.ConfigRule.TheVariants as rule
use Rattle.ob_super.specs.Upstreams.{is_name, is_list, name_in, name_rule, lobby_in, hrefs_in, href_offences, upstream_in}
use Rattle.ob_super.proofs.ConfigLemmas.{refused}
use Rattle.ob_super.proofs.ConfigNames.{both_first, named_so}
use Rattle.ob_super.proofs.config.upstream.Goals as goal

pub returns-in-Err : goal.returns-in-Err
returns-in-Err c =
    let p = part_of c.args.part in
    refused (unless (is_some (name_in p.object)) (name_rule p.object) p) (needs (codes "url") (λ _. rule.Url) (λ o. is_some (lobby_in o)) p)
    (needs (codes "hrefs") (λ _. rule.Hrefs) (is_list 1 2_048) p ++ each href_offences [] (inside_child (codes "hrefs") p))
    (λ n. name_in p.object ≡ Some n) (λ l. said (codes "url") lobby_in p.object ≡ Some l) (λ t. said (codes "hrefs") hrefs_in p.object ≡ Some t.items)
    (λ (u : code.Upstream). upstream_in p.object ≡ Some (upstream u))
    c.name.result c.lobby.result c.hrefs.result c.both-reached.result c.in-Err.fault
    c.name.ensures c.lobby.ensures c.hrefs.ensures c.both-reached.ensures (sym c.both.ensures ∙ c.in-Err.is)

pub invariant_of-result : goal.invariant_of-result
invariant_of-result c =
    let p = part_of c.args.part in
    let first = both_first c.name.result c.both-reached.result c.in-Ok.name (c.in-Ok.lobby, c.in-Ok.hrefs) (sym c.both.ensures ∙ c.in-Ok.is) in
    let form : is_name c.in-Ok.name ≡ true = named_so p.object c.in-Ok.name (subst (Judges (unless (is_some (name_in p.object)) (name_rule p.object) p) (λ n. name_in p.object ≡ Some n)) first c.name.ensures).1 in
    search (rules, form)
