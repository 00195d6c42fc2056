use Rattle.std.proofs.Common.{◌≡◌, Some, sym, ap, ◌∙◌}
use Rattle.std.specs.Option.{option_copied}
use Rattle.ob_tree.specs.Standings.{context}
use Rattle.ob_tree.specs.Laid.{head_at}
use Rattle.ob_tree.specs.Shown.{standing_at}
use Rattle.ob_ground.specs.Grounds.{Grounded, inside_at}
use Rattle.ob_tree.proofs.Giving.{own_head}
use Rattle.ob_ground.proofs.Telling.{told_inside, stands_inside}
use Rattle.ob_ground.proofs.ground.Ground.inside.Goals as goal

pub inside-requires : goal.inside-requires
inside-requires g c =
    let t = c.self.inside in
    let n = c.args.id.number in
    let r = context c.standing-standing.result in
    let stands : Some r ≡ standing_at t.told.library n t.tree.root = c.standing-standing.ensures.stands ∙ ap (λ (g : Grounded). standing_at g.library n g.tree.root) (sym c.self.view_is) in
    told_inside t.told t.tree.root r n c.own.result.now.head (option_copied c.words_for.result) c.self.invariant.0 stands (own_head n t.tree.root c.own.result.now c.own.ensures) c.words_for.ensures

pub returns-clause-inside : goal.returns-clause-inside
returns-clause-inside g c =
    let t = c.self.inside in
    let n = c.args.id.number in
    let r = context c.standing-standing.result in
    let name = option_copied c.args.name in
    let stands : Some r ≡ standing_at t.told.library n t.tree.root = c.standing-standing.ensures.stands ∙ ap (λ (g : Grounded). standing_at g.library n g.tree.root) (sym c.self.view_is) in
    stands_inside t.told.library t.tree.root r (context c.inside.result) n c.own.result.now.head name stands (own_head n t.tree.root c.own.result.now c.own.ensures) c.inside.ensures.inside
    ∙ ap (λ (g : Grounded). inside_at g.library n name g.tree.root) c.self.view_is
