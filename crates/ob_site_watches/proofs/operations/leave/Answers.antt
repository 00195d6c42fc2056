use Rattle.std.proofs.Common.{◌≡◌, ℕ, List, Some, Result, sym, ap, subst}
use Rattle.std.specs.Prelude.{option_and_then}
use Rattle.ob_watching.specs.Tables.{lookup, replace}
use Rattle.ob_watching.specs.Operations.{Remove}
use Rattle.ob_site_rules.specs.Build.{Text}
use Rattle.ob_site_rules.specs.declared.fault.Fault.{Fault}
use Rattle.ob_site_rules.specs.Watched.{WatchOperation}
use Rattle.ob_requests.specs.Calls.{lease_in}
use Rattle.ob_requests.specs.declared.target.Operation.{Operation}
use Rattle.ob_requests.specs.Targets.{operation_of}
use Rattle.ob_site_state.specs.Feeds.{feed_logs}
use Rattle.ob_watch.specs.Reported.{all_reported}
use Rattle.ob_watch.specs.Tables.{at_number, holding, touched_at, without}
use Rattle.ob_tree.specs.Trees.{Stamped}
use Rattle.ob_contracts.specs.Inherit.{Contracts}
use Rattle.ob_site_watches.specs.Polls.{WatchTakes}
use Rattle.ob_site_watches.specs.Leaving.{Renews, leased_if, leaving}
use Rattle.ob_site_watches.proofs.Answering.{same_lease}
use Rattle.ob_site_watches.proofs.Leaving.{none_left, polled_left, renewed_left, two_left}
use Rattle.ob_site_watches.proofs.operations.leave.Goals as goal

pub returns-in-Renew-clause-left : goal.returns-in-Renew-clause-left
returns-in-Renew-clause-left g c =
    let n = c.args.call.now.number in
    let now = c.args.call.now.moment in
    let old = c.args.watches.now in
    subst (λ (op : WatchOperation). c.renew.new.watches ≡ leaving c.args.state.now now n op old) (sym (ap operation_of c.in-Renew.is))
    (subst (λ (r : Result ℕ Fault). c.renew.new.watches ≡ holding (replace n (option_and_then (λ w. Some (leased_if r (touched_at now w))) (lookup n old.watches)) old.watches) old)
    (same_lease c.args.state.now.now c.in-Renew.input)
    (renewed_left n (touched_at now) old c.touch-held.new.self c.renew.new.watches (lease_in c.args.state.now.now.library c.in-Renew.input) c.touch-held.ensures.touched
    (subst (λ (l : Contracts). Renews n c.touch-held.new.self c.renew.new.watches (lease_in l c.in-Renew.input)) c.library.ensures c.renew.ensures)))

pub returns-in-Remove-clause-left : goal.returns-in-Remove-clause-left
returns-in-Remove-clause-left g c =
    let n = c.args.call.now.number in
    let now = c.args.call.now.moment in
    let old = c.args.watches.now in
    subst (λ (op : WatchOperation). c.remove.new.self ≡ leaving c.args.state.now now n op old) (sym (ap operation_of c.in-Remove.is))
    (subst (λ (ts : List Text). c.remove.new.self ≡ leaving c.args.state.now now n (Remove ts) old) c.deref.ensures.value
    (two_left n (without c.deref.result.now) (touched_at now) old c.touch-held.new.self c.remove.new.self c.touch-held.ensures.touched c.remove.ensures.removed))

pub returns-in-Delete-clause-left : goal.returns-in-Delete-clause-left
returns-in-Delete-clause-left g c =
    let n = c.args.call.now.number in
    let now = c.args.call.now.moment in
    let old = c.args.watches.now in
    subst (λ (op : WatchOperation). c.delete.new.self ≡ leaving c.args.state.now now n op old) (sym (ap operation_of c.in-Delete.is))
    (none_left n (touched_at now) old c.touch-held.new.self c.delete.new.self c.touch-held.ensures.touched c.delete.ensures.deleted)

pub returns-in-PollChanges-clause-left : goal.returns-in-PollChanges-clause-left
returns-in-PollChanges-clause-left g c =
    let n = c.args.call.now.number in
    let now = c.args.call.now.moment in
    let old = c.args.watches.now in
    polled_left c.args.state.now now n old c.reported.new.self c.args.call.now.asks c.in-PollChanges.is
    (two_left n (all_reported c.args.state.now.steps (feed_logs c.args.state.now.now)) (touched_at now) old c.touch-held.new.self c.reported.new.self c.touch-held.ensures.touched
    (subst (λ (t : Stamped). c.reported.new.self ≡ holding (at_number n (all_reported t.steps (feed_logs c.args.state.now.now)) c.touch-held.new.self.watches) c.touch-held.new.self) c.tree.ensures.value c.reported.ensures.reported))

pub returns-in-Renew-clause-steps : goal.returns-in-Renew-clause-steps
returns-in-Renew-clause-steps g c = λ plan s w before h. subst (λ (a : Operation). WatchTakes plan s w (operation_of a) before c.renew.new.steps) (sym c.in-Renew.is) tt
