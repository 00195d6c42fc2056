use Rattle.std.proofs.Common.{List, refl, sym, ap, ◌∙◌}
use Rattle.ob_history.specs.Logs.{History, cut_to}
use Rattle.ob_alarms.specs.Lists.{changed_at}
use Rattle.ob_alarms.specs.Changes.{State as Board}
use Rattle.ob_site_rules.specs.Build.{Path}
use Rattle.ob_site_rules.specs.State.{Log, State}
use Rattle.ob_site_state.specs.declared.change.Change.{Change}
use Rattle.ob_site_state.specs.Changes.{undone, cut}
use Rattle.ob_site_state.specs.Contents.{state_in}
use Rattle.ob_site_state.proofs.Events.{event_undone}
use Rattle.ob_site_state.proofs.LogPlaces.{lent_back}
use Rattle.ob_site_state.proofs.contents.Contents.take_back.Goals as goal

pub returns-in-Records-clause-new : goal.returns-in-Records-clause-new
returns-in-Records-clause-new c =
    let s = state_in c.args.self.now in
    let len = c.in-Records.len in
    ap (λ (ls : List (Path × Log)). let x : State = record s { logs = ls } in x)
    (lent_back (cut_to len) (cut len) (λ h. refl) c.in-Records.place c.args.self.now.logs.len c.args.self.now.logs.items c.cut_at.new.logs _ c.args.self.now.logs.ok.0
    (c.cut_at.ensures ∙ ap (λ (ls : List (Path × History)). changed_at c.in-Records.place (λ l. (l.0, cut_to len l.1)) ls) c.as_mut_slice.ensures.value))
    ∙ ap (λ (ch : Change). undone ch s) (sym c.in-Records.is)

pub returns-in-Event-clause-new : goal.returns-in-Event-clause-new
returns-in-Event-clause-new c =
    let s = state_in c.args.self.now in
    let u = c.undo.ensures in
    event_undone s c.undo.new.self u.0 u.1 (ap (λ (b : Board). b.alarms) u.2) ∙ ap (λ (ch : Change). undone ch s) (sym c.in-Event.is)
