use Rattle.std.proofs.Common.{◌≡◌, ℕ, ◌≤◌, List, [], ◌∷◌, ◌++◌, length, map, sym, subst, ap, ◌∙◌, arith}
use Rattle.std.proofs.lemmas.List.{map-append}
use Rattle.std.proofs.lemmas.Result.{IfOk-weaker}
use Rattle.std.specs.declared.snapshot.Snapshot.{Snapshot}
use Rattle.ob_object.specs.Object.{Object}
use Rattle.ob_site.specs.declared.site.Site.{Site}
use Rattle.ob_site.proofs.Keeping.{whatever_err}
use Rattle.ob_site_laws.specs.SiteLaws.{acts}
use Rattle.ob_site_rules.specs.Sites.{SiteState}
use Rattle.ob_kept.specs.declared.recorder.Recorder.{Recorder}
use Rattle.ob_kept.specs.Keeping.{Keeping, kept_act, record_is_full}
use Rattle.ob_kept.proofs.Acting.{acted_so, popped, refused_so, stays_so}
use Rattle.ob_kept.proofs.Growing.{keeping, noted_refuses, step_goes, step_stays, taken_stays}
use Rattle.ob_kept.proofs.KeptSteps.{Told, step_done, step_refused, told_as}
use Rattle.ob_kept.proofs.kept.KeptMachine.step.Goals as goal

abbrev seen_in : List (Snapshot Site) → List SiteState
seen_in snapshots = map (λ (s : Snapshot Site). s.value) snapshots

pushed : (xs ys : List (Snapshot Site)) (s : Snapshot Site) (now : SiteState) → ys ≡ xs ++ s ∷ [] → s.value ≡ now → seen_in ys ≡ seen_in xs ++ now ∷ []
pushed xs ys s now is same = ap seen_in is ∙ map-append (λ (x : Snapshot Site). x.value) xs (s ∷ []) ∙ ap (λ (st : SiteState). seen_in xs ++ st ∷ []) same

pub invariant_of-self-in-Ok : goal.invariant_of-self-in-Ok
invariant_of-self-in-Ok g c =
    let d = g.D.Device in
    let k = c.self.inside.recorder in
    let l = c.step_kept.new.keeper in
    let past = seen_in c.self.inside.past.items in
    let now = c.self.inside.site in
    let left = (acts now c.args.request.now c.args.moment).0 in
    let opening = c.self.inside.opening.value in
    let since = d.moment c.self.inside.opened.value in
    let is = ap (λ (x : SiteState × Object). x.0) c.in-Ok.ensures.done in
    let goes = step_goes opening since past now k l c.args.request.now c.args.moment d.is_told d.seen d.may_leave d.moment d.left_since c.sound_law.ensures c.self.invariant.1 c.in-Ok.ensures.keeps in (
      goes.full ∙ c.self.invariant.0,
      subst (λ (st : SiteState). st.world.next ≤ l.next) is goes.covers,
      λ told. told_as d.is_told d.seen d.may_leave d.moment d.left_since g.met.D.Device.counts_now opening since l
          (seen_in c.push.new.self.items) (past ++ now ∷ []) c.step_kept.new.self left
          (pushed c.self.inside.past.items c.push.new.self.items c.of.result now c.in_ok-push.ensures.items c.of.ensures) (sym is)
          (step_done d.is_told d.seen d.may_leave d.moment d.left_since g.met.D.Device.counts_now opening since
          past now k c.if-self.false (c.self.invariant.2 told) told l c.args.request.now c.args.moment c.sound_law.ensures c.in-Ok.ensures.keeps),
    )

pub returns-in-Ok-clause-done : goal.returns-in-Ok-clause-done
returns-in-Ok-clause-done g c =
    let d = g.D.Device in
    let k = c.self.inside.recorder in
    let l = c.step_kept.new.keeper in
    let past = seen_in c.self.inside.past.items in
    let now = c.self.inside.site in
    let opening = c.self.inside.opening.value in
    let since = d.moment c.self.inside.opened.value in
    ap (λ (x : Keeping). kept_act x c.args.request.now c.args.moment) (sym c.self.view_is)
    ∙ acted_so opening since k l past (seen_in c.push.new.self.items) now c.step_kept.new.self c.args.request.now c.args.moment c.in-Ok.reply
    (step_goes opening since past now k l c.args.request.now c.args.moment d.is_told d.seen d.may_leave d.moment d.left_since c.sound_law.ensures c.self.invariant.1 c.in-Ok.ensures.keeps)
    (pushed c.self.inside.past.items c.push.new.self.items c.of.result now c.in_ok-push.ensures.items c.of.ensures) c.in-Ok.ensures.done

pub invariant_of-self-in-Err : goal.invariant_of-self-in-Err
invariant_of-self-in-Err g c =
    let d = g.D.Device in
    let k = c.self.inside.recorder in
    let l = c.step_kept.new.keeper in
    let m = c.take_full.new.self in
    let past = seen_in c.self.inside.past.items in
    let now = c.self.inside.site in
    let opening = c.self.inside.opening.value in
    let since = d.moment c.self.inside.opened.value in
    let r = c.args.request.now in
    let asked = c.args.moment in
    let which = step_stays opening since past now k l r asked d.is_told d.seen d.may_leave d.moment d.left_since c.sound_law.ensures c.self.invariant.1 c.in-Err.ensures.may_keep in
    let stays = taken_stays opening since past now k l r asked m c.self.invariant.0 c.take_full.ensures.taken which in
    let count : c.push.new.self.len ≡ length c.push.new.self.items = omega (arith, c.push.new.self.ok.0) in
    let back = ap seen_in (popped c.self.inside.past.items c.push.new.self.items c.pop.new.self.items c.of.result c.push.new.self.len c.in_ok-push.ensures.items count c.pop.ensures.rest) in
    let same = c.in-Err.ensures.refused in (
      ap (λ (x : Recorder g.row.D.Denot). x.full) c.take_full.ensures.taken,
      subst (λ (n : ℕ). c.step_kept.new.self.world.next ≤ n) (sym stays.next) (subst (λ (st : SiteState). st.world.next ≤ k.next) (sym same) c.self.invariant.1),
      λ told. told_as d.is_told d.seen d.may_leave d.moment d.left_since g.met.D.Device.counts_now opening since m
          (seen_in c.pop.new.self.items) past c.step_kept.new.self now back same
          (subst (λ (x : Recorder g.row.D.Denot). Told d.is_told d.seen d.may_leave d.moment d.left_since g.met.D.Device.counts_now opening since past now x) (sym c.take_full.ensures.taken)
          (step_refused d.is_told d.seen d.may_leave d.moment d.left_since g.met.D.Device.counts_now opening since
          past now k c.if-self.false (c.self.invariant.2 told) told l r asked c.sound_law.ensures c.in-Err.ensures.may_keep)),
    )

pub invariant_of-self-then-take_full : goal.invariant_of-self-then-take_full
invariant_of-self-then-take_full g c =
    let d = g.D.Device in
    let k = c.self.inside.recorder in
    let l = c.step_kept.new.keeper in
    let m = c.take_full.new.self in
    let past = seen_in c.self.inside.past.items in
    let now = c.self.inside.site in
    let opening = c.self.inside.opening.value in
    let since = d.moment c.self.inside.opened.value in
    let r = c.args.request.now in
    let asked = c.args.moment in
    let which = step_stays opening since past now k l r asked d.is_told d.seen d.may_leave d.moment d.left_since c.sound_law.ensures c.self.invariant.1 c.in-Err.ensures.may_keep in
    let stays = taken_stays opening since past now k l r asked m c.self.invariant.0 c.take_full.ensures.taken which in
    let count : c.push.new.self.len ≡ length c.push.new.self.items = omega (arith, c.push.new.self.ok.0) in
    let back = ap seen_in (popped c.self.inside.past.items c.push.new.self.items c.pop.new.self.items c.of.result c.push.new.self.len c.in_ok-push.ensures.items count c.pop.ensures.rest) in
    let same = c.in-Err.ensures.refused in (
      ap (λ (x : Recorder g.row.D.Denot). x.full) c.take_full.ensures.taken,
      subst (λ (n : ℕ). c.step_kept.new.self.world.next ≤ n) (sym stays.next) (subst (λ (st : SiteState). st.world.next ≤ k.next) (sym same) c.self.invariant.1),
      λ told. told_as d.is_told d.seen d.may_leave d.moment d.left_since g.met.D.Device.counts_now opening since m
          (seen_in c.pop.new.self.items) past c.step_kept.new.self now back same
          (subst (λ (x : Recorder g.row.D.Denot). Told d.is_told d.seen d.may_leave d.moment d.left_since g.met.D.Device.counts_now opening since past now x) (sym c.take_full.ensures.taken)
          (step_refused d.is_told d.seen d.may_leave d.moment d.left_since g.met.D.Device.counts_now opening since
          past now k c.if-self.false (c.self.invariant.2 told) told l r asked c.sound_law.ensures c.in-Err.ensures.may_keep)),
    )

pub returns-then-take_full-clause-done : goal.returns-then-take_full-clause-done
returns-then-take_full-clause-done g c =
    let d = g.D.Device in
    let k = c.self.inside.recorder in
    let l = c.step_kept.new.keeper in
    let m = c.take_full.new.self in
    let past = seen_in c.self.inside.past.items in
    let now = c.self.inside.site in
    let opening = c.self.inside.opening.value in
    let since = d.moment c.self.inside.opened.value in
    let r = c.args.request.now in
    let asked = c.args.moment in
    let which = step_stays opening since past now k l r asked d.is_told d.seen d.may_leave d.moment d.left_since c.sound_law.ensures c.self.invariant.1 c.in-Err.ensures.may_keep in
    let stays = taken_stays opening since past now k l r asked m c.self.invariant.0 c.take_full.ensures.taken which in
    let count : c.push.new.self.len ≡ length c.push.new.self.items = omega (arith, c.push.new.self.ok.0) in
    let back = ap seen_in (popped c.self.inside.past.items c.push.new.self.items c.pop.new.self.items c.of.result c.push.new.self.len c.in_ok-push.ensures.items count c.pop.ensures.rest) in
    let refused = noted_refuses opening since past now k l r asked m c.self.invariant.0 c.take_full.ensures.taken (sym c.take_full.ensures.full ∙ c.if-take_full.true) which in
    let site = c.step_kept.new.self in
    let seen = seen_in c.pop.new.self.items in
    IfOk-weaker c.refusal.result (λ (o : Object). o ≡ record_is_full) (λ (o : Object). kept_act c.args.self.now r asked ≡ (keeping m.boot opening since seen site m.journal.end m.next m.begun, o))
    (λ o is. ap (λ (x : Keeping). kept_act x r asked) (sym c.self.view_is)
    ∙ refused_so opening since k m past seen now site r asked refused stays back c.in-Err.ensures.refused
    ∙ ap (λ (x : Object). let both : Keeping × Object = (keeping m.boot opening since seen site m.journal.end m.next m.begun, x) in both) (sym is))
    c.refusal.ensures

pub returns-then-take_full-clause-refused : goal.returns-then-take_full-clause-refused
returns-then-take_full-clause-refused g c =
    let d = g.D.Device in
    let k = c.self.inside.recorder in
    let l = c.step_kept.new.keeper in
    let m = c.take_full.new.self in
    let past = seen_in c.self.inside.past.items in
    let now = c.self.inside.site in
    let opening = c.self.inside.opening.value in
    let since = d.moment c.self.inside.opened.value in
    let r = c.args.request.now in
    let asked = c.args.moment in
    let which = step_stays opening since past now k l r asked d.is_told d.seen d.may_leave d.moment d.left_since c.sound_law.ensures c.self.invariant.1 c.in-Err.ensures.may_keep in
    let stays = taken_stays opening since past now k l r asked m c.self.invariant.0 c.take_full.ensures.taken which in
    let count : c.push.new.self.len ≡ length c.push.new.self.items = omega (arith, c.push.new.self.ok.0) in
    let back = ap seen_in (popped c.self.inside.past.items c.push.new.self.items c.pop.new.self.items c.of.result c.push.new.self.len c.in_ok-push.ensures.items count c.pop.ensures.rest) in
    whatever_err c.refusal.result _ (stays_so opening since k m past (seen_in c.pop.new.self.items) now c.step_kept.new.self r asked stays back c.in-Err.ensures.refused ∙ c.self.view_is)

pub returns-else-take_full-clause-refused : goal.returns-else-take_full-clause-refused
returns-else-take_full-clause-refused g c =
    let d = g.D.Device in
    let k = c.self.inside.recorder in
    let l = c.step_kept.new.keeper in
    let m = c.take_full.new.self in
    let past = seen_in c.self.inside.past.items in
    let now = c.self.inside.site in
    let opening = c.self.inside.opening.value in
    let since = d.moment c.self.inside.opened.value in
    let r = c.args.request.now in
    let asked = c.args.moment in
    let which = step_stays opening since past now k l r asked d.is_told d.seen d.may_leave d.moment d.left_since c.sound_law.ensures c.self.invariant.1 c.in-Err.ensures.may_keep in
    let stays = taken_stays opening since past now k l r asked m c.self.invariant.0 c.take_full.ensures.taken which in
    let count : c.push.new.self.len ≡ length c.push.new.self.items = omega (arith, c.push.new.self.ok.0) in
    let back = ap seen_in (popped c.self.inside.past.items c.push.new.self.items c.pop.new.self.items c.of.result c.push.new.self.len c.in_ok-push.ensures.items count c.pop.ensures.rest) in
    stays_so opening since k m past (seen_in c.pop.new.self.items) now c.step_kept.new.self r asked stays back c.in-Err.ensures.refused ∙ c.self.view_is
