use Rattle.std.proofs.Common.{◌≡◌, Some, refl}
use Rattle.std.proofs.lemmas.Result.{IfOk-weaker}
use Rattle.ob_tree.specs.Contexts.{comes_to}
use Rattle.ob_tree.specs.Standings.{context}
use Rattle.ob_tree.specs.Shown.{shown_at}
use Rattle.ob_tree.proofs.Wholes.{whole_shown}
use Rattle.ob_tree.proofs.tree.Tree.whole.Goals as goal

pub returns-clause-whole : goal.returns-clause-whole
returns-clause-whole g c =
    let lib = c.args.library.now in
    let o = c.args.self.now.root in
    let n = c.args.id.number in
    let p = c.in_ok-object.object in
    let stands = context c.standing-standing.result in
    IfOk-weaker c.whole.result (λ made. made ≡ comes_to stands p) (λ made. Some made ≡ shown_at lib n o)
    (λ made is. whole_shown lib o o n p made stands refl c.requires c.in_ok-object.ensures c.standing-standing.ensures.stands is) c.whole.ensures.whole
