use Rattle.std.proofs.Common.{◌++◌, List, Option, codes, map, ap, ◌∙◌}
use Rattle.std.specs.List.{filter_map}
use Rattle.ob_object.specs.Object.{Object}
use Rattle.ob_site_rules.specs.Loading.{Part, items_of, rule_in}
use Rattle.ob_roles.specs.SiteParts.{part as site_part}
use Rattle.ob_site_file.specs.Opened.{rules_at}
use Rattle.ob_site_file.proofs.Rests.{filter_map-map}
use Rattle.ob_site_file.proofs.plan.put_subject_rules.Goals as goal

pub returns : goal.returns
returns c =
    let ps = map site_part c.args.parts.now in
    let old = c.args.rules.now.items in
    c.in_ok-put_rules.ensures ps c.in_ok-nodes.ensures
    ∙ ap (λ (l : List Object). old ++ filter_map (rule_in ps) l) c.items_of.ensures.objects
    ∙ ap (λ l. old ++ l) (filter_map-map (rule_in ps) (λ i. i.1) (items_of (codes "rules") (site_part c.in-Some.subject.now)))
    ∙ ap (λ (o : Option Part). old ++ rules_at ps o) c.in-Some.ensures
