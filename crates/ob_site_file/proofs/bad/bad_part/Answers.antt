use Rattle.std.proofs.Common.{map}
use Rattle.ob_roles.specs.SiteParts.{part as site_part}
use Rattle.ob_site_file.proofs.Worst.{worst_is}
use Rattle.ob_site_file.proofs.bad.bad_part.Goals as goal

pub returns : goal.returns
returns c = λ sees.
    let ps = map site_part c.args.parts.now in
    worst_is ps c.bad_histories.result c.overfull.result c.in_ok-subjects.subjects c.earlier-behind.result c.earlier.result (c.bad_histories.ensures ps sees) c.overfull.ensures (c.in_ok-subjects.ensures ps sees)
    c.earlier-behind.ensures c.earlier.ensures
