-- A new watch.
use Rattle.std.proofs.Common.{◌≡◌, ℕ, ◌+◌, ◌<◌, ◌≤◌, Bool, true, false, cond, refl, sym, ap, ◌∙◌, subst, arith}
use Rattle.std.specs.Prelude.{MatchBool}
use Rattle.ob_object.specs.Object.{Object}
use Rattle.ob_tree.specs.Trees.{Stamped}
use Rattle.ob_watching.specs.Operations.{Refused, Told}
use Rattle.ob_watching.specs.Sites.{Site}
use Rattle.ob_watching.specs.Watches.{World, Reply, first_lease, is_full, made, on_service, yielded}
use Rattle.ob_site_rules.specs.Computed.{watch_part_object}
use Rattle.ob_site_rules.specs.declared.fault.Fault.TheVariants.{TooManyWatches}
use Rattle.ob_site_rules.specs.declared.request.Request.{Request}
use Rattle.ob_site_rules.specs.Faults.{err}
use Rattle.ob_site_rules.specs.declared.watch_part.WatchPart.TheVariants.{Whole}
use Rattle.ob_site_rules.specs.Replies.{sent}
use Rattle.ob_site_rules.specs.declared.plan.Plan.{Plan}
use Rattle.ob_site_rules.specs.State.{State}
use Rattle.ob_site_state.specs.Kept.{Kept}
use Rattle.ob_watch.specs.Adding.{GivesWay, is_full_at}
use Rattle.ob_watch.specs.AsRules.{world_of}
use Rattle.ob_watch.specs.OfPlan.{of_plan}
use Rattle.ob_watch.specs.Tables.{Table, lapsed_at, with_new, yielded_at}
use Rattle.ob_watch.proofs.LawLemmas.{tables_agree}
use Rattle.ob_site_watches.specs.Answers.{AllKnown, IsMade, IsNoMore, IsOneMore, IsServed}
use Rattle.ob_site_watches.proofs.Knowing.{way_known}

module _ (plan : Plan) (now : ℕ) where
  -- no more can be made
  pub refused : (old : Table) (o : Object) → is_full_at now old ≡ true → o ≡ err TooManyWatches → IsMade plan now old old o
  refused old o h e = subst (λ (b : Bool). MatchBool b (IsNoMore old old o) (IsOneMore plan now old old o)) (sym h) (record { table = refl; reply = e })

  -- one more is made
  pub made_one : (old new : Table) (o : Object) → is_full_at now old ≡ false → new ≡ with_new now old → o ≡ watch_part_object plan old.next first_lease Whole → IsMade plan now old new o
  made_one old new o h put e = subst (λ (b : Bool). MatchBool b (IsNoMore old new o) (IsOneMore plan now old new o)) (sym h) (record { table = put; reply = e })

  -- ---- the request is done

  abbrev m : Site
  m = of_plan plan

  abbrev before : State → Stamped → Table → World m
  before s t old = world_of plan now s t (lapsed_at now old)

  -- what is left where idle watches have given way or not, and the reply
  abbrev choice : Bool → World m → World m → World m × Reply m
  choice b w v = cond b (w, Refused TooManyWatches) (made m v, Told v.next first_lease Whole)

  module _ (old new : Table) (o : Object) (b : Bool) (h : is_full_at now old ≡ b) where
    by_choice : (s : State) (t : Stamped) → on_service m (before s t old) (yielded m (before s t old)) ≡ choice b (before s t old) (world_of plan now s t (yielded_at now (lapsed_at now old)))
    by_choice s t =
        ap (on_service m (before s t old)) ((tables_agree plan t).yields now s (lapsed_at now old))
        ∙ ap (λ (c : Bool). choice c (before s t old) (world_of plan now s t (yielded_at now (lapsed_at now old)))) ((tables_agree plan t).full now s (yielded_at now (lapsed_at now old)) ∙ h)

    served : ((s : State) (t : Stamped) → world_of plan now s t (lapsed_at now new) ≡ (choice b (before s t old) (world_of plan now s t (yielded_at now (lapsed_at now old)))).0)
        → ((s : State) (t : Stamped) → o ≡ sent plan (choice b (before s t old) (world_of plan now s t (yielded_at now (lapsed_at now old)))).1) → IsServed plan now old new o
    served left told = record {
      watches = λ s t r. left s t ∙ sym (ap (λ (d : World m × Reply m). d.0) (by_choice s t));
      reply = λ s t r. told s t ∙ sym (ap (λ (d : World m × Reply m). sent plan d.1) (by_choice s t));
    }

  no_more : (old mid : Table) (o : Object) → is_full_at now old ≡ true → IsMade plan now old mid o → IsNoMore old mid o
  no_more old mid o h is = subst (λ (b : Bool). MatchBool b (IsNoMore old mid o) (IsOneMore plan now old mid o)) h is

  pub one_more : (old mid : Table) (o : Object) → is_full_at now old ≡ false → IsMade plan now old mid o → IsOneMore plan now old mid o
  one_more old mid o h is = subst (λ (b : Bool). MatchBool b (IsNoMore old mid o) (IsOneMore plan now old mid o)) h is

  -- the next number stays where none is made, and else is one more
  same_next : (old mid : Table) → mid ≡ old → old.next < mid.next → ⊥
  same_next old mid e more = (let same : mid.next ≡ old.next = ap (λ (t : Table). t.next) e in omega (arith, same, more))

  less_next : (old mid : Table) → mid ≡ with_new now old → mid.next ≤ old.next → ⊥
  less_next old mid e less = (let same : mid.next ≡ old.next + 1 = ap (λ (t : Table). t.next) e in omega (arith, same, less))

  -- one was made, and others have given way to it
  pub way_served : (old mid new : Table) (o : Object) → old.next < mid.next → IsMade plan now old mid o → GivesWay now mid new → IsServed plan now old new o
  way_served old mid new o more is gives = go (is_full_at now old) refl
    where
      go : (b : Bool) → is_full_at now old ≡ b → IsServed plan now old new o
      go true h = absurd (same_next old mid (no_more old mid o h is).table more)
      go false h =
          let one : IsOneMore plan now old mid o = one_more old mid o h is in
          served old new o false h
          (λ s t.
          ap (λ (u : Table). world_of plan now s t u) (gives.swept ∙ gives.gone old one.table)
          ∙ sym ((tables_agree plan t).makes now s (yielded_at now (lapsed_at now old))))
          (λ s t. one.reply)

  pub way_keeps : (old mid new : Table) (o : Object) → old.next < mid.next → IsMade plan now old mid o → GivesWay now mid new → (k : Kept) → AllKnown k old → AllKnown k new
  way_keeps old mid new o more is gives k known = go (is_full_at now old) refl
    where
      go : (b : Bool) → is_full_at now old ≡ b → AllKnown k new
      go true h = absurd (same_next old mid (no_more old mid o h is).table more)
      go false h = way_known now old new (gives.gone old (one_more old mid o h is).table) k known

  -- none was made
  pub none_served : (old mid : Table) (o : Object) → mid.next ≤ old.next → IsMade plan now old mid o → IsServed plan now old mid o
  none_served old mid o less is = go (is_full_at now old) refl
    where
      go : (b : Bool) → is_full_at now old ≡ b → IsServed plan now old mid o
      go true h =
          let none : IsNoMore old mid o = no_more old mid o h is in
          served old mid o true h (λ s t. ap (λ (u : Table). world_of plan now s t (lapsed_at now u)) none.table) (λ s t. none.reply)
      go false h = absurd (less_next old mid (one_more old mid o h is).table less)

  pub none_keeps : (old mid : Table) (o : Object) → mid.next ≤ old.next → IsMade plan now old mid o → (k : Kept) → AllKnown k old → AllKnown k mid
  none_keeps old mid o less is k known = go (is_full_at now old) refl
    where
      go : (b : Bool) → is_full_at now old ≡ b → AllKnown k mid
      go true h = subst (λ (t : Table). AllKnown k t) (sym (no_more old mid o h is).table) known
      go false h = absurd (less_next old mid (one_more old mid o h is).table less)
