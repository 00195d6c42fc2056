use Rattle.std.proofs.Common.{◌≡◌, ℕ, Bool, List, Some, Bor, option_map, refl, sym, ap, ◌∙◌}
use Rattle.std.specs.Prelude.{is_some}
use Rattle.ob_contracts.specs.Shown.{shown as shown_by}
use Rattle.ob_object.specs.Object.{Object, children}
use Rattle.ob_object.specs.WellFormed.{named}
use Rattle.ob_object.specs.Paths.{node_path}
use Rattle.ob_site_rules.specs.Shown.{derived}
use Rattle.ob_tree.specs.Contexts.{comes_to}
use Rattle.ob_tree.specs.Children.{child_at}
use Rattle.ob_tree.specs.Laid.{head_at, leaf}
use Rattle.ob_tree.specs.Trees.{Stamped}
use Rattle.ob_tree.specs.declared.node.NodeId.{NodeId}
use Rattle.ob_site_reads.proofs.OwnHeads.{place_there, stands_there, seen_there}
use Rattle.ob_site_reads.proofs.ChildNames.{by_own, by_role, by_source, shows_names, told}
use Rattle.ob_site_reads.proofs.children.shows_child.Goals as goal

pub returns-then-is_some : goal.returns-then-is_some
returns-then-is_some g c =
    let plan = c.args.state.now.plan in
    let s = c.args.state.now.now in
    let k = c.args.node.number in
    let n = c.args.name.now in
    let own = c.own-own.result.now in
    let lent : Some own ≡ option_map leaf (head_at k s.tree) = c.own-own.ensures ∙ ap (λ (t : Stamped). option_map leaf (head_at k t.root)) c.tree-tree.ensures.value in
    let at = place_there s.library k s.tree own in
    let there : is_some (child_at k n s.tree) ≡ c.is_some.result =
    told (λ (id : NodeId). id.number) c.child.result (λ (m : List ℕ). child_at k m s.tree) c.as_str.result.now n c.is_some.result c.as_str.ensures.value
    c.child.ensures.child c.is_some.ensures in
    shows_names plan s k at own (comes_to at own) n (stands_there s.library k s.tree own lent) lent refl
    ∙ ap (λ (b : Bool). Some b) (by_own (is_some (child_at k n s.tree)) (is_some (named n (derived plan s (node_path own.head)))) (is_some (named n (children (comes_to at own)))) (there ∙ c.if-is_some.true))

pub returns-then-is_some-2 : goal.returns-then-is_some-2
returns-then-is_some-2 g c =
    let plan = c.args.state.now.plan in
    let s = c.args.state.now.now in
    let k = c.args.node.number in
    let n = c.args.name.now in
    let own = c.own-own.result.now in
    let lent : Some own ≡ option_map leaf (head_at k s.tree) = c.own-own.ensures ∙ ap (λ (t : Stamped). option_map leaf (head_at k t.root)) c.tree-tree.ensures.value in
    let at = place_there s.library k s.tree own in
    let seen = shown_by c.view-view.result in
    let inherited : is_some (named n (children seen)) ≡ c.is_some-2.result =
    told shown_by c.child-2.result (λ (m : List ℕ). named m (children seen)) c.as_str-2.result.now n c.is_some-2.result c.as_str-2.ensures.value c.child-2.ensures c.is_some-2.ensures in
    shows_names plan s k at own seen n (stands_there s.library k s.tree own lent) lent (seen_there s.library k s.tree own seen lent c.view-view.ensures.view)
    ∙ ap (λ (b : Bool). Some b) (by_source (is_some (child_at k n s.tree)) (is_some (named n (derived plan s (node_path own.head)))) (is_some (named n (children seen))) (inherited ∙ c.if-is_some-2.true))

pub returns : goal.returns
returns g c =
    let plan = c.args.state.now.plan in
    let s = c.args.state.now.now in
    let k = c.args.node.number in
    let n = c.args.name.now in
    let own = c.own-own.result.now in
    let lent : Some own ≡ option_map leaf (head_at k s.tree) = c.own-own.ensures ∙ ap (λ (t : Stamped). option_map leaf (head_at k t.root)) c.tree-tree.ensures.value in
    let at = place_there s.library k s.tree own in
    let seen = shown_by c.view-view.result in
    let roles = derived plan s (node_path own.head) in
    let there : is_some (child_at k n s.tree) ≡ c.is_some.result =
    told (λ (id : NodeId). id.number) c.child.result (λ (m : List ℕ). child_at k m s.tree) c.as_str.result.now n c.is_some.result c.as_str.ensures.value
    c.child.ensures.child c.is_some.ensures in
    let inherited : is_some (named n (children seen)) ≡ c.is_some-2.result =
    told shown_by c.child-2.result (λ (m : List ℕ). named m (children seen)) c.as_str-2.result.now n c.is_some-2.result c.as_str-2.ensures.value c.child-2.ensures c.is_some-2.ensures in
    let made : c.deref.result.now ≡ roles = c.deref.ensures.value ∙ c.in_ok-derived.ensures ∙ ap (derived plan s) (c.node_path.ensures ∙ ap node_path c.head.ensures.value) in
    let derives : is_some (named n roles) ≡ c.is_some-3.result =
    sym (ap (λ (os : List Object). is_some (named n os)) made)
    ∙ told (λ (o : Bor Object). o.now) c.find_named.result (λ (m : List ℕ). named m c.deref.result.now) c.as_str-3.result.now n c.is_some-3.result c.as_str-3.ensures.value c.find_named.ensures c.is_some-3.ensures in
    shows_names plan s k at own seen n (stands_there s.library k s.tree own lent) lent (seen_there s.library k s.tree own seen lent c.view-view.ensures.view)
    ∙ ap (λ (b : Bool). Some b)
    (by_role (is_some (child_at k n s.tree)) (is_some (named n roles)) (is_some (named n (children seen))) (there ∙ c.if-is_some.false) (inherited ∙ c.if-is_some-2.false)
    ∙ derives)
