use Rattle.std.proofs.Common.{◌∙◌, subst}
use Rattle.ob_contracts.specs.Standard.{standard, with_added}
use Rattle.ob_site_rules.specs.Opening.{standard_words}
use Rattle.ob_site_rules.specs.Roles.{worded_contracts}
use Rattle.ob_site_rules.specs.Writes.{site_contracts}
use Rattle.ob_roles.specs.Kinds.{Tells}
use Rattle.ob_site_file.proofs.Alike.{site_alike, tells_alike}
use Rattle.ob_site_file.proofs.judging.roles_in.Goals as goal

pub returns : goal.returns
returns c = λ is.
    let cs = site_contracts c.args.root.now in
    let tells : Tells c.in_ok-known.known (with_added standard cs) = subst (Tells c.in_ok-known.known) (c.contracts.ensures.value ∙ is) c.in_ok-known.ensures in
    let all = worded_contracts standard_words cs in
    let told : Tells c.in_ok-known.known all = tells_alike c.in_ok-known.known (with_added standard cs) all (site_alike cs) tells in
    c.in_ok-roles.ensures all (c.in_ok-table.ensures told) told
