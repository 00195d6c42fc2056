-- A feed without a capacity never loses an event.
use Rattle.std.proofs.Common.{◌≡◌, ℕ, List, Option, Some, None, refl, sym, ap, ◌∙◌, subst}
use Rattle.std.specs.Prelude.{option_map}
use Rattle.ob_history.specs.declared.records.Record.{Record}
use Rattle.ob_site_rules.specs.declared.request.Request.{Request}
use Rattle.ob_site_rules.specs.Locating.{locate}
use Rattle.ob_site_rules.specs.declared.plan.Plan.{Plan}
use Rattle.ob_site_rules.specs.State.{Log, State, at, rolled}
use Rattle.ob_site_rules.specs.declared.resource.Resource.{Resource}
use Rattle.ob_site_rules.specs.declared.resource.Resource.TheVariants.{About, Batch, Service, Make, AlarmAt, AckOf, WritePointOf, QueryOf, FeedOf, AlarmQuery, AlarmFeed, Node}
use Rattle.ob_site_rules.specs.Watched.{gone_in, gone_at}
use Rattle.ob_watching.specs.Sites.{Site}
use Rattle.ob_site_laws.specs.SiteLaws.{of_plan, capacity_in, KeepsAll}
use Rattle.ob_site_laws.proofs.Growth.{act_grows}
use Rattle.ob_site_laws.proofs.Rolling.{rolled_at}

-- nothing of it has gone since
abbrev pub Endless : State → Option Resource → State → Type 0
Endless start place s = KeepsAll s place × (gone_at s place ≡ gone_at start place)

abbrev pub log : Option ℕ → ℕ → List Record → Log
log c g k = record { capacity = c; gone = g; kept = k }

one_rolled : (l : Log) → l.capacity ≡ None → (capacity_in (Some (rolled l)) ≡ None) × (gone_in (Some (rolled l)) ≡ gone_in (Some l))
one_rolled l none = subst (λ (c : Option ℕ). (capacity_in (Some (rolled (log c l.gone l.kept))) ≡ None) × (gone_in (Some (rolled (log c l.gone l.kept))) ≡ l.gone)) (sym none) (refl, refl)

some_rolled : (o : Option Log) → capacity_in o ≡ None → (capacity_in (option_map rolled o) ≡ None) × (gone_in (option_map rolled o) ≡ gone_in o)
some_rolled None none = (refl, refl)
some_rolled (Some l) none = one_rolled l none

pub stays_endless : (plan : Plan) (start : State) (place : Option Resource) (s : State) (ns : List ℕ) (r : Request) (now : ℕ) → Endless start place s → let m : Site = of_plan plan in Endless start place (m.roll (m.act s ns r now).0)
stays_endless plan start (Some (FeedOf h)) s ns r now e =
    let m : Site = of_plan plan in
    let u : State = (m.act s ns r now).0 in
    let grown = act_grows locate plan s ns r now in
    let done = some_rolled (at h u.logs) (grown.capacity h ∙ e.0) in
    let there = rolled_at h u.logs in
    (ap capacity_in there ∙ done.0, ap gone_in there ∙ done.1 ∙ grown.gone h ∙ e.1)
stays_endless plan start (Some AlarmFeed) s ns r now e = e
stays_endless plan start None s ns r now e = e
stays_endless plan start (Some (Node o)) s ns r now e = e
stays_endless plan start (Some About) s ns r now e = e
stays_endless plan start (Some Batch) s ns r now e = e
stays_endless plan start (Some Service) s ns r now e = e
stays_endless plan start (Some Make) s ns r now e = e
stays_endless plan start (Some (AlarmAt n)) s ns r now e = e
stays_endless plan start (Some (AckOf n)) s ns r now e = e
stays_endless plan start (Some (WritePointOf q)) s ns r now e = e
stays_endless plan start (Some (QueryOf h)) s ns r now e = e
stays_endless plan start (Some AlarmQuery) s ns r now e = e
