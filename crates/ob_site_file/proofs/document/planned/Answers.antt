use Rattle.std.proofs.Common.{◌≡◌, List, map, false, refl, ap, ◌∙◌}
use Rattle.ob_object.specs.Object.{node, none}
use Rattle.ob_site_rules.specs.declared.roles.Roles.{Roles}
use Rattle.ob_site_rules.specs.Roles.{no_roles}
use Rattle.ob_site_rules.specs.Loading.{Part, parts_of, histories_in, kept_root}
use Rattle.ob_roles.specs.SiteParts.{part as site_part}
use Rattle.ob_site_file.specs.Opened.{plan_with, whole_log}
use Rattle.ob_site_file.specs.Passes.{site_parts}
use Rattle.ob_site_file.proofs.document.planned.Goals as goal

pub returns : goal.returns
returns c = λ is.
    let root = c.args.root in
    let parts : map site_part c.in_ok-parts.parts.items ≡ site_parts root =
    c.in_ok-parts.ensures ∙ ap (λ (rs : List Roles). parts_of rs 0 false no_roles (node root.head root.inner none)) (c.as_slice.ensures.value ∙ is) in
    record {
      library = refl;
      plan = c.in_ok-plan.ensures ∙ ap (λ (ps : List Part). plan_with c.args.base c.args.boot root ps) (ap (map site_part) c.as_slice-2.ensures.value ∙ parts);
      tree = c.in_ok-tree.ensures ∙ ap (λ (rs : List Roles). kept_root rs root) (c.as_slice-4.ensures.value ∙ is);
      logs = c.in_ok-logs.ensures.logs ∙ ap (λ (ps : List Part). map whole_log (histories_in ps)) (ap (map site_part) c.as_slice-3.ensures.value ∙ parts);
      counted = c.in_ok-logs.ensures.counted;
    }
