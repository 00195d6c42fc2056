use Rattle.std.proofs.Common.{◌≡◌, ◌+◌, List, map, Some, refl, sym, subst, inl, inr}
use Rattle.std.specs.Prelude.{IfOk}
use Rattle.std.proofs.lemmas.Result.{IfOk-weaker}
use Rattle.ob_object.specs.Object.{Object}
use Rattle.ob_requests.specs.declared.target.Operation.{Operation}
use Rattle.ob_requests.specs.Targets.{operation_of}
use Rattle.ob_site_state.specs.Stamping.{tree_of}
use Rattle.ob_watch.specs.declared.item.Item.{Item}
use Rattle.ob_watch.specs.Flags.{flagged, flags}
use Rattle.ob_site_watches.specs.Polls.{WatchTakes, refresh_steps}
use Rattle.ob_site_watches.proofs.Polled.{whatever}
use Rattle.ob_site_watches.proofs.operations.reply.Goals as goal

pub returns-in-Look-clause-steps : goal.returns-in-Look-clause-steps
returns-in-Look-clause-steps g c =
    whatever c.watch_part.result _
    (subst (λ (a : Operation). WatchTakes c.args.state.now.plan c.args.state.now.now (Some (flagged (tree_of c.args.state.now) c.args.watch.now)) (operation_of a) c.args.steps.now c.args.steps.now) (sym c.in-Look.is) refl)

pub returns-in-Remove-clause-steps : goal.returns-in-Remove-clause-steps
returns-in-Remove-clause-steps g c =
    whatever c.nil.result _
    (elim c.in-Remove.is [
      | inl removes ↦ subst (λ (a : Operation). WatchTakes c.args.state.now.plan c.args.state.now.now (Some (flagged (tree_of c.args.state.now) c.args.watch.now)) (operation_of a) c.args.steps.now c.args.steps.now) (sym removes.1) refl
      | inr deletes ↦ subst (λ (a : Operation). WatchTakes c.args.state.now.plan c.args.state.now.now (Some (flagged (tree_of c.args.state.now) c.args.watch.now)) (operation_of a) c.args.steps.now c.args.steps.now) (sym deletes) refl
    ])

pub returns-in-Refuse-clause-steps : goal.returns-in-Refuse-clause-steps
returns-in-Refuse-clause-steps g c =
    whatever c.refusal.result _
    (subst (λ (a : Operation). WatchTakes c.args.state.now.plan c.args.state.now.now (Some (flagged (tree_of c.args.state.now) c.args.watch.now)) (operation_of a) c.args.steps.now c.args.steps.now) (sym c.in-Refuse.is) refl)

pub returns-in-Renew-clause-steps : goal.returns-in-Renew-clause-steps
returns-in-Renew-clause-steps g c =
    whatever c.lease_told.result _
    (subst (λ (a : Operation). WatchTakes c.args.state.now.plan c.args.state.now.now (Some (flagged (tree_of c.args.state.now) c.args.watch.now)) (operation_of a) c.args.steps.now c.lease_told.new.steps) (sym c.in-Renew.is) tt)

pub returns-in-PollChanges-clause-steps : goal.returns-in-PollChanges-clause-steps
returns-in-PollChanges-clause-steps g c =
    IfOk-weaker c.poll.result _ _
    (λ o steps. subst (λ (a : Operation). WatchTakes c.args.state.now.plan c.args.state.now.now (Some (flagged (tree_of c.args.state.now) c.args.watch.now)) (operation_of a) c.args.steps.now c.poll.new.steps) (sym c.in-PollChanges.is) steps) c.poll.ensures.steps

pub returns-in-PollRefresh-clause-steps : goal.returns-in-PollRefresh-clause-steps
returns-in-PollRefresh-clause-steps g c =
    let plan = c.args.state.now.plan in
    let s = c.args.state.now.now in
    let tree = tree_of c.args.state.now in
    let taken : IfOk c.refresh.result (λ (o : Object). c.refresh.new.steps ≡ c.args.steps.now + refresh_steps plan s (map (flags tree) c.args.watch.now.items)) =
    subst (λ (is : List Item). IfOk c.refresh.result (λ (o : Object). c.refresh.new.steps ≡ c.args.steps.now + refresh_steps plan s (map (flags tree) is))) c.items.ensures.items c.refresh.ensures.steps in
    IfOk-weaker c.refresh.result _ _
    (λ o steps. subst (λ (a : Operation). WatchTakes plan s (Some (flagged tree c.args.watch.now)) (operation_of a) c.args.steps.now c.refresh.new.steps) (sym c.in-PollRefresh.is) steps) taken
