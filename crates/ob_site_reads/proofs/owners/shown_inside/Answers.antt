use Rattle.std.proofs.Common.{◌≡◌, ap, ◌∙◌, Some, List, ℕ, Option}
use Rattle.std.proofs.lemmas.Result.{IfOk-weaker}
use Rattle.std.specs.Option.{option_copied}
use Rattle.ob_object.specs.declared.head.Head.{Head}
use Rattle.ob_object.specs.Object.{Object}
use Rattle.ob_ground.specs.Grounds.{inside_at}
use Rattle.ob_tree.specs.Contexts.{comes_to}
use Rattle.ob_tree.specs.Standings.{context}
use Rattle.ob_site_reads.proofs.ByRole.{comes_inside}
use Rattle.ob_site_reads.proofs.owners.shown_inside.Goals as goal

pub returns : goal.returns
returns g c =
    let s = c.args.state.now.now in
    let n = c.args.node.number in
    let named : option_copied c.name.result ≡ c.args.child.now.head.name = c.name.ensures ∙ ap (λ (h : Head). h.name) c.head.ensures.value in
    let stands : Some (context c.inside-inside.result) ≡ inside_at s.library n c.args.child.now.head.name s.tree =
    c.inside-inside.ensures.inside ∙ ap (λ (m : Option (List ℕ)). inside_at s.library n m s.tree) named in
    IfOk-weaker c.whole.result _ _
    (λ made is. ap (λ (o : Object). Some o) (is ∙ ap (comes_to (context c.inside-inside.result)) c.in_ok-copy.ensures) ∙ comes_inside s.library s.tree n c.args.child.now (context c.inside-inside.result) stands) c.whole.ensures.whole
