use Rattle.std.proofs.Common.{◌≡◌, rules, sym, subst}
use Rattle.std.specs.Prelude.{Ok, Err}
use Rattle.ob_contracts.specs.Inherit.{Contracts}
use Rattle.ob_contracts.specs.Standard.{standard}
use Rattle.ob_site_rules.specs.Loading.{add_contracts}
use Rattle.ob_site_rules.specs.Writes.{site_contracts}
use Rattle.ob_roles.specs.Sums.{nodes_of, Gives}
use Rattle.ob_roles.proofs.Sums.{sum_refused}
use Rattle.ob_roles.proofs.library.library_by.Goals as goal

pub returns-in-Err : goal.returns-in-Err
returns-in-Err g c =
    let fails = sum_refused c.children-object-items.result.now standard c.loop-object.library c.add.new.library c.loop-object.object-index c.object-item.result c.in-Err.fault c.loop-object-test.true c.object-item.is c.in-Err.ensures c.loop-object.invariant in
    let same : site_contracts c.args.root.now ≡ nodes_of c.children-object-items.result.now = search rules in
    subst (λ (cs : Contracts). Gives (Err c.in-Err.fault) (add_contracts (Ok standard) cs)) (sym same) fails
