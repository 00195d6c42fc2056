use Rattle.std.proofs.Common.{◌≡◌, ◌∙◌, ◌+◌, ◌++◌, ◌∷◌, [], List, ℕ, Vec, Global, map, sym, ap, arith, true≢false}
use Rattle.std.proofs.lemmas.List.{map-append}
use Rattle.ob_tree.specs.declared.node.NodeId.{NodeId}
use Rattle.ob_tree.specs.Differing.{Differs}
use Rattle.ob_tree.proofs.Collecting.{takes, leaves}
use Rattle.ob_tree.proofs.tree.Tree.differing.Goals.{then-not-branch+in_ok-push, else-not-branch}
use Rattle.ob_tree.proofs.tree.Tree.differing.Goals as goal

abbrev number : NodeId → ℕ
number id = id.number

pub loop-number-preserved : goal.loop-number-preserved
loop-number-preserved g c =
    let Is : ℕ → Type 0 = Differs c.args.old.now c.args.new.now c.args.self.now.root in
    let n = c.loop-number.number in
    let before : List NodeId = c.loop-number.ids.items in
    let now : List NodeId = c.if-not-branch.ids.items in
    elim c.if-not-branch.branch [
      | then-not-branch+in_ok-push w ↦
          (let pushed : now ≡ before ++ record { number = n } ∷ [] = ap (λ (v : Vec NodeId Global). v.items) w.ids-is ∙ w.in_ok-push.ensures.items in (
            omega (arith, c.loop-number-test.true),
            takes Is n (map number before) (map number now) c.loop-number.invariant.1
                (λ same. true≢false (sym (c.in_ok-is_alike.ensures.1 same) ∙ w.if-not-branch.true))
                (ap (map number) pushed ∙ map-append number before (record { number = n } ∷ [])),
          ))
      | else-not-branch w ↦ (
        omega (arith, c.loop-number-test.true),
        leaves Is n (map number before) (map number now) c.loop-number.invariant.1
            (λ differs. differs (c.in_ok-is_alike.ensures.0 w.if-not-branch.false))
            (ap (λ (v : Vec NodeId Global). map number v.items) w.ids-is),
      )
    ]
