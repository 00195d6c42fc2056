use Rattle.std.proofs.Common.{◌≡◌, ℕ, Bool, true, false, List, length, Option, refl, sym, ap, ◌∙◌}
use Rattle.std.specs.Prelude.{not, ◌==◌, is_some}
use Rattle.ob_object.specs.Object.{Object}
use Rattle.ob_site_state.specs.Roles.{recorders_of}
use Rattle.ob_site_rules.specs.Build.{leaf}
use Rattle.ob_site_rules.specs.Shown.{node_of, rule_of}
use Rattle.ob_tree.specs.Trees.{Stamped}
use Rattle.ob_site.proofs.BareNodes.{bare_is, free_is, map_some}
use Rattle.ob_site.proofs.points.is_bare.Goals as goal
use Rattle.ob_site.proofs.points.is_bare.Goals.{then-is_some, else-is_some}

pub returns-then-is_empty : goal.returns-then-is_empty
returns-then-is_empty c =
    let plan = c.args.state.now.plan in
    let s = c.args.state.now.now in
    let p = c.args.path.now in
    let own : c.is_some.result ≡ is_some (node_of p s.tree) =
    c.is_some.ensures ∙ sym (map_some (λ x. x.now) c.own_at.result) ∙ ap (λ (o : Option Object). is_some o) c.own_at.ensures ∙ map_some (λ (o : Object). leaf o.head) (node_of p c.tree.result.now.root)
    ∙ ap (λ (t : Stamped). is_some (node_of p t.root)) c.tree.ensures.value in
    let free : c.is_none.result ≡ not (is_some (rule_of plan p)) =
    free_is c.rule_of.result c.is_none.result c.is_none.ensures ∙ ap (λ (o : Option ℕ). not (is_some o)) c.rule_of.ensures in
    elim c.if-is_some.branch [
      | then-is_some w ↦
          let unrecorded : true ≡ (length (recorders_of plan p) == 0) =
          sym c.if-is_empty.true ∙ w.value-is ∙ w.is_empty.ensures ∙ ap (λ (l : List ℕ). length l == 0) w.recorders.ensures in
          sym (bare_is plan s p true true c.is_none.result (sym w.if-is_some.true ∙ own) unrecorded free)
      | else-is_some w ↦ absurd (cc (c.if-is_empty.true, w.value-is))
    ]

pub returns-else-is_empty : goal.returns-else-is_empty
returns-else-is_empty c =
    let plan = c.args.state.now.plan in
    let s = c.args.state.now.now in
    let p = c.args.path.now in
    let own : c.is_some.result ≡ is_some (node_of p s.tree) =
    c.is_some.ensures ∙ sym (map_some (λ x. x.now) c.own_at.result) ∙ ap (λ (o : Option Object). is_some o) c.own_at.ensures ∙ map_some (λ (o : Object). leaf o.head) (node_of p c.tree.result.now.root)
    ∙ ap (λ (t : Stamped). is_some (node_of p t.root)) c.tree.ensures.value in
    let free = not (is_some (rule_of plan p)) in
    elim c.if-is_some.branch [
      | then-is_some w ↦
          let recorded : false ≡ (length (recorders_of plan p) == 0) =
          sym c.if-is_empty.false ∙ w.value-is ∙ w.is_empty.ensures ∙ ap (λ (l : List ℕ). length l == 0) w.recorders.ensures in
          c.if-is_empty.false ∙ sym (bare_is plan s p true false free (sym w.if-is_some.true ∙ own) recorded refl)
      | else-is_some w ↦ c.if-is_empty.false ∙ sym (bare_is plan s p false (length (recorders_of plan p) == 0) free (sym w.if-is_some.false ∙ own) refl refl)
    ]
