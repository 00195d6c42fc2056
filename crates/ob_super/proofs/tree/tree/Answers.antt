use Rattle.std.proofs.Common.{Some, ap, ◌∙◌}
use Rattle.ob_object.specs.declared.kind.Kind.TheVariants as kind
use Rattle.ob_object.specs.declared.head.Head.{Head}
use Rattle.ob_watching.specs.WatchOuts.{Text}
use Rattle.ob_object.specs.Object.{Object, none, empty_head, children}
use Rattle.ob_object.specs.WellFormed.{is_taken}
use Rattle.ob_super.specs.Trees.{subtree}
use Rattle.ob_super.specs.InHand as in_hand
use Rattle.ob_super.proofs.NameLemmas.{list_free}
use Rattle.ob_super.proofs.TreeLemmas.{tree_children, tree_more, tree_all}
use Rattle.ob_super.proofs.tree.tree.Goals as goal

pub loop-followed-init : goal.loop-followed-init
loop-followed-init g c =
    c.from_attributes-root.ensures
    ∙ ap (λ (h : Head). let o : Object = record { head = h; inner = none } in o) c.put_href.ensures
    ∙ ap (λ (h : Head). let o : Object = record { head = record h { href = Some c.in_ok-from_ascii.field-0 }; inner = none } in o) c.empty-head.ensures
    ∙ ap (λ (t : Text). let o : Object = record { head = record (empty_head kind.Obj) { href = Some t }; inner = none } in o) c.in_ok-from_ascii.ensures

pub push_last-requires : goal.push_last-requires
push_last-requires g c =
    let i = c.loop-followed.followed-index in
    let f = c.followed-item.result in
    let all = c.args.all.now in
    ap (λ (o : Object). is_taken o.head.name (children c.loop-followed.root)) c.in_ok-list.ensures
    ∙ ap (is_taken (subtree (in_hand.view f)).head.name) (tree_children all i c.loop-followed.root c.loop-followed.invariant)
    ∙ list_free all i f c.requires c.loop-followed-test.true c.followed-item.is

pub loop-followed-preserved : goal.loop-followed-preserved
loop-followed-preserved g c =
    tree_more c.args.all.now c.loop-followed.followed-index c.followed-item.result c.loop-followed.root c.push_last.new.self c.in_ok-list.list c.loop-followed-test.true c.followed-item.is
    c.loop-followed.invariant c.in_ok-list.ensures c.in_ok-push_last.ensures

pub returns : goal.returns
returns g c = tree_all c.args.all.now c.loop-followed.followed-index c.loop-followed.root c.loop-followed-test.false c.loop-followed.invariant
