-- Of a feed that is watched through a filter without a bound as many events are held as there were, those missed counted.
use Rattle.std.proofs.Common.{ℕ, ◌+◌, List, [], ◌∷◌, inl, inr, ap, ◌∙◌}
use Rattle.std.specs.List.{filter}
use Rattle.ob_object.specs.Object.{Object}
use Rattle.ob_watching.specs.Laws.{step, HoldsItem, HoldsAll, HadEvent}
use Rattle.ob_watching.specs.Sites.{Site}
use Rattle.ob_watching.specs.Watches.{Object as ObjectItem, Feed as FeedItem, Tracked, Item, Content, Reading, World, IsSound}
use Rattle.ob_watching.proofs.Laws.{sound_after, keeps_after}
use Rattle.ob_site_rules.specs.declared.request.Request.{Request}
use Rattle.ob_site_rules.specs.Build.{Text, Path}
use Rattle.ob_site_rules.specs.Locating.{locate}
use Rattle.ob_site_rules.specs.Places.{event_places}
use Rattle.ob_site_rules.specs.declared.plan.Plan.{Plan}
use Rattle.ob_site_rules.specs.State.{State, at, board}
use Rattle.ob_site_laws.specs.SiteLaws.{of_plan, Call, TellsEvents, HoldsAllOf, EachHoldsAll}
use Rattle.ob_site_laws.proofs.Growth.{act_grows}
use Rattle.ob_site_laws.proofs.Lawful.{lawful}
use Rattle.ob_site_laws.proofs.Timed.{HasTime, timed_passes, all_timed, contained}

module _ (plan : Plan) where
  abbrev m : Site
  m = of_plan plan

  -- a request and the rolling behind it leave the alarms telling their events
  pub still_tells : (s : State) (ns : List ℕ) (r : Request) (now : ℕ) → TellsEvents (board plan s) → TellsEvents (board plan (m.roll (m.act s ns r now).0))
  still_tells s ns r now h = (act_grows locate plan s ns r now).told h

  -- each event that a feed had in a part of a history has a timestamp
  pub had_timed : (part : List Call) (w : World m) → IsSound m w → TellsEvents (board plan w.site) → (path : Path) (event : Object) → HadEvent m w part path event → HasTime event
  had_timed [] w sound tells path event had = contained (λ e. HasTime e) (m.events w.site path) (all_timed plan w.site tells (at path (event_places plan))) event had
  had_timed (e ∷ es) w sound tells path event (inl had) = contained (λ e. HasTime e) (m.events w.site path) (all_timed plan w.site tells (at path (event_places plan))) event had
  had_timed (e ∷ es) w sound tells path event (inr had) =
      had_timed es (step m w e) (sound_after m (lawful locate plan) w (e ∷ []) sound)
      (keeps_after m (lawful locate plan) (λ s. TellsEvents (board plan s)) still_tells w (e ∷ []) sound tells) path event had

  holds_all_of : (now then : State) (had : Path → Object → Type 0) → ((path : Path) (event : Object) → had path event → HasTime event) → (path : Path) (t : Tracked m) (c : Content m) → HoldsItem m now then had path t c → HoldsAllOf plan now then path t c
  holds_all_of now then had timed path (ObjectItem changed) c h = tt
  holds_all_of now then had timed path (FeedItem bounds given) c h = λ wide. record {
    held = filter (m.passes bounds) h.seen;
    missed = h.missed;
    content = h.content;
    number = ap (λ k. k + h.missed + m.gone then path) (h.unfiltered (λ event had. timed_passes bounds event wide (timed path event had))) ∙ h.number;
  }

  pub each_holds_all : (now : State) (when : Text → State) (had : Path → Object → Type 0) → ((path : Path) (event : Object) → had path event → HasTime event) → (items : List (Item m)) (rs : List (Reading m)) → HoldsAll m now when had items rs → EachHoldsAll plan now when items rs
  each_holds_all now when had timed [] [] h = tt
  each_holds_all now when had timed [] (r ∷ rs) h = absurd h
  each_holds_all now when had timed (item ∷ items) [] h = absurd h
  each_holds_all now when had timed (item ∷ items) (r ∷ rs) h =
      (holds_all_of now (when item.text) had timed item.path item.tracked r.content h.0.1, each_holds_all now when had timed items rs h.1)
