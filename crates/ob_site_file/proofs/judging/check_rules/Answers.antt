use Rattle.std.proofs.Common.{◌≡◌, false, List, map, sym, ap, ◌∙◌, subst}
use Rattle.ob_object.specs.Object.{node, none}
use Rattle.ob_site_rules.specs.declared.roles.Roles.{Roles}
use Rattle.ob_site_rules.specs.Loading.{parts_of, bad_part}
use Rattle.ob_site_rules.specs.Roles.{no_roles}
use Rattle.ob_roles.specs.SiteParts.{part as site_part}
use Rattle.ob_site_file.specs.Numbers.{AreNumbered}
use Rattle.ob_site_file.specs.Passes.{site_parts}
use Rattle.ob_site_file.proofs.Worst.{root_numbered}
use Rattle.ob_site_file.proofs.judging.check_rules.Goals as goal

pub bad_part-requires : goal.bad_part-requires
bad_part-requires c = subst AreNumbered (sym (ap (map site_part) c.as_slice-listed.ensures.value ∙ c.in_ok-parts.ensures)) (root_numbered c.args.roles.now c.args.root.now c.requires)

pub returns-in-Some-clause-err : goal.returns-in-Some-clause-err
returns-in-Some-clause-err c = λ base lib same taken once.
    let root = c.args.root.now in
    let whole : map site_part c.as_slice-listed.result.now ≡ site_parts root =
    ap (map site_part) c.as_slice-listed.ensures.value ∙ c.in_ok-parts.ensures ∙ ap (λ (rs : List Roles). parts_of rs 0 false no_roles (node root.head root.inner none)) same in
    record { library = lib; taken = taken; once = once; bad = ap bad_part (sym whole) ∙ sym (c.in_ok-offence.ensures c.in_ok-nodes.ensures) ∙ c.in-Some.is }

pub returns-clause-ok : goal.returns-clause-ok
returns-clause-ok c = λ same.
    let root = c.args.root.now in
    let whole : map site_part c.as_slice-listed.result.now ≡ site_parts root =
    ap (map site_part) c.as_slice-listed.ensures.value ∙ c.in_ok-parts.ensures ∙ ap (λ (rs : List Roles). parts_of rs 0 false no_roles (node root.head root.inner none)) same in
    ap bad_part (sym whole) ∙ sym (c.in_ok-offence.ensures c.in_ok-nodes.ensures) ∙ c.in-None.is
