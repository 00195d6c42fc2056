use Rattle.std.proofs.Common.{Option, Some, None, Bor, refl, sym, ap, subst, ◌∙◌}
use Rattle.std.specs.Prelude.{IfOk, IfErr, IfSome}
use Rattle.std.specs.Option.{option_copied}
use Rattle.ob_object.specs.Object.{Object}
use Rattle.ob_site_rules.specs.declared.fault.Fault.{Fault}
use Rattle.ob_site_rules.specs.Posts.{write_point}
use Rattle.ob_site_rules.specs.Writes.{write_by}
use Rattle.ob_site_actions.specs.Stops.{IsDone, Stops}
use Rattle.ob_site_actions.specs.Targets.{IsRefused}
use Rattle.ob_site_actions.proofs.ByHead.{point_refused}
use Rattle.ob_site_actions.proofs.calls.write_point.Goals as goal

pub returns-clause-ok : goal.returns-clause-ok
returns-clause-ok g c =
    let old = c.args.state.now in
    let p = c.args.point.now in
    subst (λ (v : Option Object). IfOk c.write_shown.result (IsDone old c.write_shown.new.state (write_point old.plan old.now old.time p v)))
    (sym (ap (λ (o : Option (Bor Object)). option_copied o) c.in-Some.is)) c.write_shown.ensures.ok

pub returns-clause-stop : goal.returns-clause-stop
returns-clause-stop g c =
    let old = c.args.state.now in
    let p = c.args.point.now in
    subst (λ (v : Option Object). IfErr c.write_shown.result (Stops old c.write_shown.new.state (write_point old.plan old.now old.time p v)))
    (sym (ap (λ (o : Option (Bor Object)). option_copied o) c.in-Some.is)) c.write_shown.ensures.stop

pub returns-in-Some-2-clause-stop : goal.returns-in-Some-2-clause-stop
returns-in-Some-2-clause-stop g c =
    let old = c.args.state.now in
    let p = c.args.point.now in
    let new = c.in-Some.new.now in
    let refused : IsRefused old.plan old.now p (λ o. write_by old.plan old.now old.time p o None new) c.in-Some-2.fault =
    subst (λ (o : Option Fault). IfSome o (λ f. IsRefused old.plan old.now p (λ o. write_by old.plan old.now old.time p o None new) f)) c.in-Some-2.is c.in_ok-fault.ensures in
    (refl, ap (λ (o : Option (Bor Object)). write_point old.plan old.now old.time p (option_copied o)) c.in-Some.is ∙ point_refused old.plan old.now old.time p new c.in-Some-2.fault refused)
