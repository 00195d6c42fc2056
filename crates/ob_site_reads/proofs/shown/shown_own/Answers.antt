use Rattle.std.proofs.Common.{◌≡◌, Some}
use Rattle.std.proofs.lemmas.Result.{IfOk-weaker}
use Rattle.ob_site_rules.specs.Build.{Path}
use Rattle.ob_site_rules.specs.Shown.{shown}
use Rattle.ob_tree.specs.Standings.{context}
use Rattle.ob_tree.specs.Contexts.{comes_to}
use Rattle.ob_tree.specs.Laid.{paths}
use Rattle.ob_tree.specs.Paths.{place_of}
use Rattle.ob_shown_laws.specs.OwnTree.{own_shown_at}
use Rattle.ob_site_reads.proofs.Stands.{stands, shows}
use Rattle.ob_site_reads.proofs.shown.shown_own.Goals as goal

pub returns-clause-stands : goal.returns-clause-stands
returns-clause-stands g c =
    let plan = c.args.state.now.plan in
    let s = c.args.state.now.now in
    let n = c.args.node.number in
    let at = context c.standing-standing.result in
    IfOk-weaker c.whole.result (λ o. o ≡ comes_to at c.in_ok-dressed.dressed) (λ o. Some o ≡ own_shown_at plan s n)
    (λ o is. stands plan s n at c.in_ok-dressed.dressed o c.standing-standing.ensures.stands c.in_ok-dressed.ensures is) c.whole.ensures.whole

pub returns-clause-shows : goal.returns-clause-shows
returns-clause-shows g c =
    let plan = c.args.state.now.plan in
    let s = c.args.state.now.now in
    let n = c.args.node.number in
    let at = context c.standing-standing.result in
    IfOk-weaker c.whole.result (λ o. o ≡ comes_to at c.in_ok-dressed.dressed)
    (λ o. (p : Path) → place_of p (paths c.args.state.now.now.tree) ≡ Some n → shown plan s p ≡ Some o)
    (λ o is p here. shows plan s n at c.in_ok-dressed.dressed o c.standing-standing.ensures.stands c.in_ok-dressed.ensures is c.sound_law.ensures.sound.paths_differ p here) c.whole.ensures.whole
