use Rattle.std.proofs.Common.{Some, refl, ap, ◌∙◌}
use Rattle.ob_object.specs.Object.{Object}
use Rattle.ob_contracts.specs.Inherit.{implied_by, inherited_head}
use Rattle.ob_contracts.specs.Places.{sources_of}
use Rattle.ob_tree.proofs.standing.Standing.hand_down.Goals as goal

pub returns : goal.returns
returns c =
    let s = c.sources-sources in
    record {
      library = refl;
      implied = c.implied_by-implied.ensures ∙ ap (λ (o : Object). implied_by (inherited_head o.head (sources_of s.result))) s.ensures.own ∙ ap implied_by (s.ensures.same.head c.args.own.now.head);
      over = λ n. c.in_ok-over.ensures n ∙ s.ensures.same.over (Some n);
    }
