use Rattle.std.proofs.Common.{List, sym, ap, ◌∙◌}
use Rattle.ob_history.specs.Logs.{History, settled}
use Rattle.ob_alarms.specs.Lists.{changed_at}
use Rattle.ob_site_rules.specs.Build.{Path}
use Rattle.ob_site_rules.specs.State.{Log, State, rolled}
use Rattle.ob_site_state.specs.declared.change.Change.{Change}
use Rattle.ob_site_state.specs.Changes.{settled_by}
use Rattle.ob_site_state.specs.Contents.{state_in}
use Rattle.ob_site_state.proofs.LogPlaces.{lent_back}
use Rattle.ob_site_state.proofs.Settling.{log_settled}
use Rattle.ob_site_state.proofs.contents.Contents.settle_by.Goals as goal

pub returns-in-Records-clause-new : goal.returns-in-Records-clause-new
returns-in-Records-clause-new c =
    let s = state_in c.args.self.now in
    ap (λ (ls : List (Path × Log)). let x : State = record s { logs = ls } in x)
    (lent_back (λ h. settled h.capacity h) rolled log_settled c.in-Records.place c.args.self.now.logs.len c.args.self.now.logs.items c.settle_at.new.logs _ c.args.self.now.logs.ok.0
    (c.settle_at.ensures ∙ ap (λ (ls : List (Path × History)). changed_at c.in-Records.place (λ l. (l.0, settled l.1.capacity l.1)) ls) c.as_mut_slice.ensures.value))
    ∙ ap (λ (ch : Change). let x : State = record s { logs = settled_by ch s.logs } in x) (sym c.in-Records.is)
