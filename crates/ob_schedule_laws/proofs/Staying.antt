-- A point whose own slot stays is shown with the same slot.
use Rattle.std.proofs.Common.{◌≡◌, true, option_map, sym, ap, subst, ◌∙◌}
use Rattle.std.specs.Prelude.{is_some}
use Rattle.ob_object.specs.Object.{Object}
use Rattle.ob_site_rules.specs.Build.{Path}
use Rattle.ob_site_rules.specs.declared.plan.Plan.{Plan}
use Rattle.ob_site_rules.specs.State.{is_among}
use Rattle.ob_site_rules.specs.Sites.{SiteState}
use Rattle.ob_site_rules.specs.Shown.{node_of, dressed, shown}
use Rattle.ob_shown_laws.specs.Alike.{row}
use Rattle.ob_shown_laws.specs.Changed.{PathsDiffer}
use Rattle.ob_shown_laws.proofs.Owning.{steps_alike}
use Rattle.ob_step_laws.proofs.Reached.{values_back}
use Rattle.ob_schedule_laws.specs.InForce.{slot_at, shown_slot}
use Rattle.ob_schedule_laws.proofs.Shows.{IsShown, shown_at, slot_stays}
use Rattle.ob_schedule_laws.proofs.Leaving.{IsReady, Stands, ready_then}

module _ (start : SiteState) (ready : IsReady start) where
  pub there : (st : SiteState) → Stands start st → (p : Path) → is_among p start.plan.points ≡ true → is_some (node_of p st.world.site.tree) ≡ true
  there st stands p among = ((ready_then start st ready stands).points p (subst (λ (plan : Plan). is_among p plan.points ≡ true) (sym stands.plan) among)).0

  differ : (st : SiteState) → Stands start st → PathsDiffer (row (dressed start.plan st.world.site))
  differ st stands = subst (λ (plan : Plan). PathsDiffer (row (dressed plan st.world.site))) stands.plan (ready_then start st ready stands).differ

  shows : (st : SiteState) → Stands start st → (p : Path) → is_among p start.plan.points ≡ true → IsShown start.plan st.world.site p
  shows st stands p among = shown_at start.plan st.world.site p (differ st stands) (there st stands p among)

  pub stays : (st u : SiteState) → Stands start st → Stands start u → (p : Path) → is_among p start.plan.points ≡ true → slot_at u p ≡ slot_at st p → shown_slot u p ≡ shown_slot st p
  stays st u stands then p among own =
      ap (λ (plan : Plan). option_map (λ (o : Object). o.head.slot) (shown plan u.world.site p)) then.plan
      ∙ (slot_stays start.plan st.world.site u.world.site p
      ((steps_alike start.plan).both st.world.site start.world.site u.world.site (values_back start.world.site st.world.site stands.values) then.values)
      (shows st stands p among) (shows u then p among) own
      ∙ ap (λ (plan : Plan). option_map (λ (o : Object). o.head.slot) (shown plan st.world.site p)) (sym stands.plan))
