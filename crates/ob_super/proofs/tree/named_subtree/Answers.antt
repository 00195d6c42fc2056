use Rattle.std.proofs.Common.{◌≡◌, true, false, Some, sym, ap, ◌∙◌}
use Rattle.ob_object.specs.Fits.{fits_name}
use Rattle.ob_watching.specs.WatchOuts.{Text}
use Rattle.ob_super.proofs.NameLemmas.{name_fits}
use Rattle.ob_super.proofs.tree.named_subtree.Goals as goal

pub unreachable-requires : goal.unreachable-requires
unreachable-requires g c =
    let u = c.args.followed.now.upstream in
    let fits = ap (λ (t : Text). fits_name (Some t)) c.in_ok-name.ensures ∙ name_fits u.name u.named in
    let f : false ≡ true = sym c.in-Err.ensures.0 ∙ fits in
    cc
