use Rattle.std.proofs.Common.{◌≡◌, Some, sym, ap, ◌∙◌}
use Rattle.std.specs.Option.{option_copied}
use Rattle.ob_object.specs.Object.{Object}
use Rattle.ob_tree.specs.Standings.{context}
use Rattle.ob_tree.specs.Shown.{standing_at}
use Rattle.ob_ground.specs.Grounds.{Grounded, alone_at}
use Rattle.ob_tree.proofs.Giving.{own_head}
use Rattle.ob_ground.proofs.Telling.{told_inside, stands_alone}
use Rattle.ob_ground.proofs.ground.Ground.view.Goals as goal

pub view_told-requires : goal.view_told-requires
view_told-requires g c =
    let t = c.self.inside in
    let n = c.args.id.number in
    let r = context c.standing-standing.result in
    let stands : Some r ≡ standing_at t.told.library n t.tree.root = c.standing-standing.ensures.stands ∙ ap (λ (g : Grounded). standing_at g.library n g.tree.root) (sym c.self.view_is) in
    told_inside t.told t.tree.root r n c.own.result.now.head (option_copied c.words_for.result) c.self.invariant.0 stands (own_head n t.tree.root c.own.result.now c.own.ensures) c.words_for.ensures

pub returns-clause-view : goal.returns-clause-view
returns-clause-view g c =
    let t = c.self.inside in
    let n = c.args.id.number in
    let r = context c.standing-standing.result in
    let stands : Some r ≡ standing_at t.told.library n t.tree.root = c.standing-standing.ensures.stands ∙ ap (λ (g : Grounded). standing_at g.library n g.tree.root) (sym c.self.view_is) in
    ap (λ (o : Object). Some o) c.view_told.ensures.view
    ∙ stands_alone t.told.library t.tree.root c.own.result.now r n stands c.own.ensures
    ∙ ap (λ (g : Grounded). alone_at g.library n g.tree.root) c.self.view_is
