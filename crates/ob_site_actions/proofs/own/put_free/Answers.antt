use Rattle.std.proofs.Common.{Some, Option, Bor, refl, sym, ap, ◌∙◌, subst}
use Rattle.std.specs.Prelude.{IfOk, IfErr}
use Rattle.std.specs.Option.{option_copied, option_or}
use Rattle.std.proofs.lemmas.Result.{IfOk-weaker, IfErr-weaker}
use Rattle.ob_object.specs.Object.{Object}
use Rattle.ob_site_rules.specs.Writes.{given_by}
use Rattle.ob_site_rules.specs.declared.fault.Fault.{Fault}
use Rattle.ob_site_rules.specs.declared.fault.Fault.TheVariants.{OtherShape}
use Rattle.ob_site_actions.specs.Own.{DoneBy, StopsBy, head_faults, head_makes, put_faults, put_makes}
use Rattle.ob_site_actions.specs.declared.not_done.NotDone.TheVariants.{Refused}
use Rattle.ob_site_actions.proofs.own.put_free.Goals as goal

pub returns-in-Some-clause-ok : goal.returns-in-Some-clause-ok
returns-in-Some-clause-ok g c =
    let k = c.args.state.now in
    let t = c.put_body.new.state in
    let p = c.args.at.path.now in
    let o = c.args.own.now in
    let body = c.in-Some.body.now in
    let faults = head_faults k p o (given_by k.now body) in
    subst (λ (b : Option (Bor Object)). IfOk c.put_body.result (DoneBy k t (put_faults k p o (option_copied b)) (put_makes k p o (option_copied b)))) (sym c.in-Some.is)
    (IfOk-weaker c.put_body.result (DoneBy k t faults (head_makes k p o (given_by k.now body))) (DoneBy k t (put_faults k p o (Some body)) (put_makes k p o (Some body)))
    (λ reply done. (ap (λ (f : Option Fault). option_or f faults) c.requires.free ∙ done.0, done.1)) c.put_body.ensures.ok)

pub returns-in-Some-clause-stop : goal.returns-in-Some-clause-stop
returns-in-Some-clause-stop g c =
    let k = c.args.state.now in
    let t = c.put_body.new.state in
    let p = c.args.at.path.now in
    let o = c.args.own.now in
    let body = c.in-Some.body.now in
    let faults = head_faults k p o (given_by k.now body) in
    subst (λ (b : Option (Bor Object)). IfErr c.put_body.result (StopsBy k t (put_faults k p o (option_copied b)))) (sym c.in-Some.is)
    (IfErr-weaker c.put_body.result (StopsBy k t faults) (StopsBy k t (put_faults k p o (Some body)))
    (λ stop stops. subst (λ (f : Option Fault). StopsBy k t f stop) (sym (ap (λ (f : Option Fault). option_or f faults) c.requires.free)) stops) c.put_body.ensures.stop)

pub returns-in-None-clause-stop : goal.returns-in-None-clause-stop
returns-in-None-clause-stop g c =
    let k = c.args.state.now in
    let p = c.args.at.path.now in
    let o = c.args.own.now in
    subst (λ (b : Option (Bor Object)). StopsBy k k (put_faults k p o (option_copied b)) (Refused OtherShape)) (sym c.in-None.is)
    (refl, ap (λ (f : Option Fault). option_or f (Some OtherShape)) c.requires.free)
