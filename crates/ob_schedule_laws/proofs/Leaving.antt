-- What calls that keep the contracts of a site leave of its state.
use Rattle.std.proofs.Common.{◌≡◌, true, Option, Some, None, refl, sym, ap, subst, ◌∙◌, true≢false}
use Rattle.std.specs.Prelude.{is_some, IsTrue}
use Rattle.ob_contracts.specs.Standard.{standard, with_added}
use Rattle.ob_machine.specs.History.{left_by}
use Rattle.ob_machine.specs.declared.call.Answer.{Answer}
use Rattle.ob_machine.specs.declared.call.Answer.TheVariants.{Done, NoMemory}
use Rattle.ob_object.specs.declared.head.Head.{Head}
use Rattle.ob_object.specs.Object.{Object}
use Rattle.ob_object.specs.Kinds.{has_values}
use Rattle.ob_site_rules.specs.State.{State, is_among}
use Rattle.ob_site_rules.specs.declared.plan.Plan.{Plan}
use Rattle.ob_site_rules.specs.Sites.{SiteState}
use Rattle.ob_site_rules.specs.Shown.{node_of, dressed}
use Rattle.ob_site_rules.specs.Writes.{site_contracts}
use Rattle.ob_shown_laws.specs.Alike.{row, DifferInValues}
use Rattle.ob_shown_laws.specs.Changed.{PathsDiffer}
use Rattle.ob_shown_laws.proofs.Owning.{steps_alike}
use Rattle.ob_step_laws.specs.Given.{IsMade, PointsHaveValues}
use Rattle.ob_site_laws.specs.SiteLaws.{Call, acts}
use Rattle.ob_schedule_laws.specs.InForce.{left, KeepsContracts}
use Rattle.ob_schedule_laws.proofs.Following.{step_follows}
use Rattle.ob_schedule_laws.proofs.Slots.{AreSame, nodes_same}

pub record IsReady (st : SiteState) : Type 0 where
  pub made : IsMade st.world.site
  pub points : PointsHaveValues st.plan st.world.site
  pub differ : PathsDiffer (row (dressed st.plan st.world.site))

-- a state that differs from another in values alone, with the contracts of that
pub record Stands (start st : SiteState) : Type 0 where
  pub plan : st.plan ≡ start.plan
  pub values : DifferInValues start.world.site st.world.site
  pub contracts : site_contracts st.world.site.tree ≡ site_contracts start.world.site.tree

pub stands_itself : (start : SiteState) → Stands start start
stands_itself start = record { plan = refl; values = (steps_alike start.plan).nothing start.world.site; contracts = refl }

value_there : (a b : Option Object) → AreSame a b → IsTrue (is_some a) × ((x : Object) → a ≡ Some x → has_values x.head.kind ≡ true)
    → IsTrue (is_some b) × ((x : Object) → b ≡ Some x → has_values x.head.kind ≡ true)
value_there None None d h = absurd (true≢false (sym h.0))
value_there None (Some b) d h = absurd d
value_there (Some a) None d h = absurd d
value_there (Some a) (Some b) d h = (refl, λ x e. ap (λ (o : Object). has_values o.head.kind) (some_one (sym e)) ∙ (ap (λ (u : Head). has_values u.kind) (sym d.0) ∙ h.1 a refl))
  where
    some_one : {x y : Object} → Some x ≡ Some y → x ≡ y
    some_one e = cc

pub ready_then : (start st : SiteState) → IsReady start → Stands start st → IsReady st
ready_then start st ready stands = record {
  made = sym stands.values.library ∙ (ready.made ∙ ap (with_added standard) (sym stands.contracts));
  points = λ p point. value_there (node_of p start.world.site.tree) (node_of p st.world.site.tree)
      (nodes_same p (row start.world.site.tree) (row st.world.site.tree) stands.values.tree)
      (ready.points p (subst (λ (plan : Plan). is_among p plan.points ≡ true) stands.plan point));
  differ = subst (λ (plan : Plan). PathsDiffer (row (dressed plan st.world.site))) (sym stands.plan) ((steps_alike start.plan).paths start.world.site st.world.site stands.values ready.differ);
}

pub call_stands : (start st : SiteState) → IsReady start → Stands start st → (e : Call) → KeepsContracts st e → Stands start (left st e)
call_stands start st ready stands e keeps = go e.answer keeps
  where
    go : (a : Answer Object) → site_contracts (left_by acts st e.request e.moment a).world.site.tree ≡ site_contracts st.world.site.tree → Stands start (left_by acts st e.request e.moment a)
    go NoMemory k = stands
    go (Done reply) k =
        let u : State = (acts st e.request e.moment).0.world.site in
        let f = step_follows st e.request e.moment in
        let made = (ready_then start st ready stands).made in
        record {
          plan = stands.plan;
          values = (steps_alike start.plan).both start.world.site st.world.site u stands.values
              (record { library = made ∙ (ap (with_added standard) (sym k) ∙ sym (f.made made)); tree = f.slots; histories = f.histories });
          contracts = k ∙ stands.contracts;
        }
