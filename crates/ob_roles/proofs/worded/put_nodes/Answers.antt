use Rattle.std.proofs.Common.{◌≡◌, ◌++◌, ◌∷◌, [], Some, None, refl, sym, ap, ◌∙◌, subst}
use Rattle.std.specs.Option.{option_copied}
use Rattle.ob_contracts.specs.Inherit.{Contracts}
use Rattle.ob_object.specs.Paths.{node_path}
use Rattle.ob_site_rules.specs.Roles.{worded}
use Rattle.ob_roles.specs.Few.{brief_contracts}
use Rattle.ob_roles.specs.Tables.{Holds}
use Rattle.ob_roles.proofs.Tabled.{Table, nodes_left, nodes_passed, nodes_done}
use Rattle.ob_roles.proofs.worded.put_nodes.Goals as goal
use Rattle.ob_roles.proofs.worded.put_nodes.Goals.{in-Some+in_ok-put_contract, in_default}

pub loop-object-init : goal.loop-object-init
loop-object-init c = λ whole lib tells holds. (lib, (holds, refl))

pub loop-object-preserved : goal.loop-object-preserved
loop-object-preserved c = λ whole lib tells holds.
    let all = c.args.objects.now in
    let i = c.loop-object.object-index in
    let x = c.object-item.result in
    let kept = c.loop-object.invariant whole lib tells holds in
    let path : node_path x.head ≡ option_copied c.node_path.result = sym (c.node_path.ensures ∙ ap node_path c.head.ensures.value) in
    elim c.match-node_path.branch [
      | in-Some+in_ok-put_contract w ↦ (
        kept.0 ++ (w.in-Some.path.now, worded kept.0 x) ∷ [],
        (
          subst (λ (t : Table). Holds t (brief_contracts whole (kept.0 ++ (w.in-Some.path.now, worded kept.0 x) ∷ []))) (sym w.table-is) (w.in_ok-put_contract.ensures whole kept.0 tells kept.1.0),
          sym (nodes_left all i x w.in-Some.path.now kept.0 c.loop-object-test.true c.object-item.is (path ∙ ap option_copied w.in-Some.is)) ∙ kept.1.1,
        ),
      )
      | in_default w ↦ (
        kept.0,
        (
          subst (λ (t : Table). Holds t (brief_contracts whole kept.0)) (sym w.table-is) kept.1.0,
          sym (nodes_passed all i x kept.0 c.loop-object-test.true c.object-item.is (path ∙ ap option_copied w.in_default.is)) ∙ kept.1.1,
        ),
      )
    ]

pub returns : goal.returns
returns c = λ whole lib tells holds.
    let kept = c.loop-object.invariant whole lib tells holds in
    subst (λ (l : Contracts). Holds c.loop-object.table (brief_contracts whole l)) (sym (nodes_done c.args.objects.now c.loop-object.object-index kept.0 c.loop-object-test.false) ∙ kept.1.1) kept.1.0
