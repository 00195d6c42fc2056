-- A history of the whole site is one of its watches, and its plan stays.
use Rattle.std.proofs.Common.{◌≡◌, ℕ, ◌^◌, ◌<◌, List, [], ◌∷◌, ◌++◌, Option, Some, refl, sym, ap, ◌∙◌, subst}
use Rattle.std.specs.List.{AllByRecursion}
use Rattle.ob_machine.specs.History.{left_by, after, IsAnswer, IsLegal}
use Rattle.ob_machine.specs.declared.call.Answer.{Answer}
use Rattle.ob_machine.specs.declared.call.Answer.TheVariants.{Done, NoMemory}
use Rattle.ob_object.specs.Object.{Object}
use Rattle.ob_watching.specs.Tables.{lookup}
use Rattle.ob_watching.specs.Sites.{Site}
use Rattle.ob_watching.specs.Clients.{calls, replay, watched}
use Rattle.ob_watching.specs.Watches.{Object as ObjectItem, Feed as FeedItem, Tracked, Item, Reading, Watch, World, act, IsSound}
use Rattle.ob_watching.specs.Laws.{Begins, Ends, Holds, HadEvent, KeepsItem, EachExact, Legal, whole_at, standing_after}
use Rattle.ob_watching.specs.Laws as watches
use Rattle.ob_watching.proofs.Laws.{watch_replays, watch_stays_gone, leaves_others, sound_after, keeps_after, keeps_whole}
use Rattle.ob_site_rules.specs.Locating.{locate}
use Rattle.ob_site_rules.specs.Build.{Text, Path}
use Rattle.ob_site_rules.specs.declared.plan.Plan.{Plan}
use Rattle.ob_site_rules.specs.State.{at, board}
use Rattle.ob_site_rules.specs.declared.resource.Resource.{Resource}
use Rattle.ob_site_rules.specs.Places.{event_places}
use Rattle.ob_site_rules.specs.Sites.{SiteState}
use Rattle.ob_site_laws.specs.SiteLaws.{acts, of_plan, Call, TellsEvents, IsSoundSite, Stays, ClientsHold, KeepsAll, KeepsAllOf, ClientsHoldAll, EachAsWatched, ClientsHoldEach, EachHoldsAll, ClientsHoldAllSince, GoneForGood, OthersStay}
use Rattle.ob_site_laws.proofs.Lawful.{lawful}
use Rattle.ob_site_laws.proofs.Endless.{Endless, stays_endless}
use Rattle.ob_site_laws.proofs.AllSince.{still_tells, had_timed, each_holds_all}

abbrev pub whole : (plan : Plan) → World (of_plan plan) → SiteState
whole plan w = record { plan = plan; world = w }

abbrev left_whole : (plan : Plan) → World (of_plan plan) → Call → Answer Object → SiteState
left_whole plan w e a = left_by acts (whole plan w) e.request e.moment a

abbrev left_world : (plan : Plan) → World (of_plan plan) → Call → Answer Object → World (of_plan plan)
left_world plan w e a = left_by (act (of_plan plan)) w e.request e.moment a

left_so : (plan : Plan) (w : World (of_plan plan)) (e : Call) (a : Answer Object) → left_whole plan w e a ≡ whole plan (left_world plan w e a)
left_so plan w e (Done reply) = refl
left_so plan w e NoMemory = refl

after_so : (plan : Plan) (w : World (of_plan plan)) (es : List Call) → after acts (whole plan w) es ≡ whole plan (watches.after (of_plan plan) w es)
after_so plan w [] = refl
after_so plan w (e ∷ es) = ap (λ s. after acts s es) (left_so plan w e e.answer) ∙ after_so plan (left_world plan w e e.answer) es

answer_so : (plan : Plan) (w : World (of_plan plan)) (e : Call) (a : Answer Object) → IsAnswer acts (whole plan w) e.request e.moment a → IsAnswer (act (of_plan plan)) w e.request e.moment a
answer_so plan w e (Done reply) h = h
answer_so plan w e NoMemory h = h

legal_so : (plan : Plan) (w : World (of_plan plan)) (es : List Call) → IsLegal acts (whole plan w) es → Legal (of_plan plan) w es
legal_so plan w [] h = tt
legal_so plan w (e ∷ es) h = (
  record { caller = h.0.caller; moment = h.0.moment; answer = answer_so plan w e e.answer h.0.answer },
  legal_so plan (left_world plan w e e.answer) es (subst (λ s. IsLegal acts s es) (left_so plan w e e.answer) h.1),
)

sound_world : (start : SiteState) (es : List Call) → IsSoundSite start → IsSoundSite (whole start.plan (watches.after (of_plan start.plan) start.world es))
sound_world start es sound = record {
  of_watches = sound_after (of_plan start.plan) (lawful locate start.plan) start.world es sound.of_watches;
  of_alarms = keeps_after (of_plan start.plan) (lawful locate start.plan) (λ s. TellsEvents (board start.plan s)) (still_tells start.plan) start.world es sound.of_watches sound.of_alarms;
}

pub stays : Stays
stays start sound es = (after_so start.plan start.world es, subst IsSoundSite (sym (after_so start.plan start.world es)) (sound_world start es sound))

world_after : (start : SiteState) (es : List Call) → after acts start es ≡ whole start.plan (watches.after (of_plan start.plan) start.world es)
world_after start es = after_so start.plan start.world es

pub clients_hold : (n : ℕ) → ClientsHold n
clients_hold n small start sound before part legal begins ends =
    subst (λ (s : SiteState). Holds (of_plan start.plan) n s.world part) (sym (world_after start before))
    (watch_replays (of_plan start.plan) (lawful locate start.plan) n small start.world sound.of_watches before part (legal_so start.plan start.world (before ++ part) legal) begins ends)

pub gone_for_good : (n : ℕ) → GoneForGood n
gone_for_good n small start sound before later legal made gone =
    let none = ap (λ (s : SiteState). lookup n s.world.watches) (sym (world_after start before)) ∙ gone in
    let law = watch_stays_gone (of_plan start.plan) (lawful locate start.plan) n small start.world sound.of_watches before later (legal_so start.plan start.world (before ++ later) legal) made none in
    (ap (λ (s : SiteState). lookup n s.world.watches) (world_after start (before ++ later)) ∙ law.0, law.1)

pub others_stay : (n : ℕ) → OthersStay n
others_stay n st sound e on k differ =
    subst (λ (s : SiteState). lookup k s.world.watches ≡ standing_after (of_plan st.plan) e.answer s.world.time (lookup k st.world.watches)) (sym (left_so st.plan st.world e e.answer))
    (leaves_others (of_plan st.plan) (lawful locate st.plan) n st.world sound.of_watches e on k differ)

-- where the feeds keep all
module _ (start : SiteState) (n : ℕ) (w : World (of_plan start.plan)) (sound_w : IsSound (of_plan start.plan) w) (part : List Call)
    (from : (place : Option Resource) → KeepsAll start.world.site place → Endless start.world.site place w.site) where
  abbrev m : Site
  m = of_plan start.plan

  kept_item : (text : Text) (path : Path) (t : Tracked m) → KeepsAllOf start.plan start.world.site path t → KeepsItem m (watches.after m w part).site (whole_at m n w part (λ _. w.site) text) path t
  kept_item text path (ObjectItem changed) h = tt
  kept_item text path (FeedItem bounds given) h =
      let place = at path (event_places start.plan) in
      let law = lawful locate start.plan in
      let keep = stays_endless start.plan start.world.site place in
      let first = from place h in
      let now_there = keeps_after m law (Endless start.world.site place) keep w part sound_w first in
      let then_there = keeps_whole m law (Endless start.world.site place) keep n w part (λ _. w.site) sound_w first (λ _. first) text in
      now_there.1 ∙ sym then_there.1

  kept_items : (items : List (Item m)) → AllByRecursion (λ item. KeepsAllOf start.plan start.world.site item.path item.tracked) items → AllByRecursion (λ item. KeepsItem m (watches.after m w part).site (whole_at m n w part (λ _. w.site) item.text) item.path item.tracked) items
  kept_items [] h = tt
  kept_items (item ∷ items) h = (kept_item item.text item.path item.tracked h.0, kept_items items h.1)

  each_kept : (items : List (Item m)) (rs : List (Reading m)) → EachExact m (watches.after m w part).site (whole_at m n w part (λ _. w.site)) items rs → EachAsWatched start.plan start.world.site (watches.after m w part).site items rs
  each_kept [] [] h = tt
  each_kept [] (r ∷ rs) h = absurd h
  each_kept (item ∷ items) [] h = absurd h
  each_kept (item ∷ items) (r ∷ rs) h = (λ k. h.0 (kept_item item.text item.path item.tracked k), each_kept items rs h.1)

-- after a part of a history
module _ (n : ℕ) (small : n < 2 ^ 64) (start : SiteState) (sound : IsSoundSite start) (before part : List Call) (legal : IsLegal acts start (before ++ part)) (begins : Begins (of_plan start.plan) n part) (ends : Ends (of_plan start.plan) n part) where
  abbrev the_site : Site
  the_site = of_plan start.plan

  abbrev w : World (of_plan start.plan)
  w = (after acts start before).world

  holds : Holds (of_plan start.plan) n (after acts start before).world part
  holds = clients_hold n small start sound before part legal begins ends

  sound_w : IsSound (of_plan start.plan) (after acts start before).world
  sound_w = subst (λ (s : SiteState). IsSound (of_plan start.plan) s.world) (sym (world_after start before)) (sound_after (of_plan start.plan) (lawful locate start.plan) start.world before sound.of_watches)

  from : (place : Option Resource) → KeepsAll start.world.site place → Endless start.world.site place (after acts start before).world.site
  from place h =
      subst (λ (s : SiteState). Endless start.world.site place s.world.site) (sym (world_after start before))
      (keeps_after (of_plan start.plan) (lawful locate start.plan) (Endless start.world.site place) (stays_endless start.plan start.world.site place) start.world before sound.of_watches (h, refl))

  all_held : (v : Watch (of_plan start.plan)) → lookup n (watches.after (of_plan start.plan) (after acts start before).world part).watches ≡ Some v → AllByRecursion (λ item. KeepsAllOf start.plan start.world.site item.path item.tracked) v.items → Some (replay (of_plan start.plan) (calls (of_plan start.plan) n part)) ≡ watched (of_plan start.plan) n (watches.after (of_plan start.plan) (after acts start before).world part)
  all_held v found all = holds.exact (subst (λ (v : Watch the_site). AllByRecursion (λ item. KeepsItem the_site (watches.after the_site w part).site (whole_at the_site n w part (λ _. w.site) item.text) item.path item.tracked) v.items) same (kept_items start n w sound_w part from v.items all))
    where
      same : v ≡ holds.watch
      same = cc (found, holds.stands)

  each_held : (v : Watch (of_plan start.plan)) → lookup n (watches.after (of_plan start.plan) (after acts start before).world part).watches ≡ Some v → EachAsWatched start.plan start.world.site (watches.after (of_plan start.plan) (after acts start before).world part).site v.items (replay (of_plan start.plan) (calls (of_plan start.plan) n part))
  each_held v found =
      subst (λ (v : Watch the_site). EachAsWatched start.plan start.world.site (watches.after the_site w part).site v.items (replay the_site (calls the_site n part))) same
      (each_kept start n w sound_w part from holds.watch.items (replay the_site (calls the_site n part)) holds.each)
    where
      same : holds.watch ≡ v
      same = cc (found, holds.stands)

  tells_w : TellsEvents (board start.plan (after acts start before).world.site)
  tells_w = subst (λ (s : SiteState). TellsEvents (board start.plan s.world.site)) (sym (world_after start before)) (sound_world start before sound).of_alarms

  since_held : (v : Watch (of_plan start.plan)) → lookup n (watches.after (of_plan start.plan) (after acts start before).world part).watches ≡ Some v →
      EachHoldsAll start.plan (watches.after (of_plan start.plan) (after acts start before).world part).site
      (whole_at (of_plan start.plan) n (after acts start before).world part (λ _. (after acts start before).world.site)) v.items (replay (of_plan start.plan) (calls (of_plan start.plan) n part))
  since_held v found =
      subst (λ (v : Watch the_site). EachHoldsAll start.plan (watches.after the_site w part).site (whole_at the_site n w part (λ _. w.site)) v.items (replay the_site (calls the_site n part))) same
      (each_holds_all start.plan (watches.after the_site w part).site (whole_at the_site n w part (λ _. w.site)) (HadEvent the_site w part)
      (λ path event had. had_timed start.plan part w sound_w tells_w path event had) holds.watch.items (replay the_site (calls the_site n part)) holds.held)
    where
      same : holds.watch ≡ v
      same = cc (found, holds.stands)

pub clients_hold_all : (n : ℕ) → ClientsHoldAll n
clients_hold_all n small start sound before part legal begins ends = all_held n small start sound before part legal begins ends

pub clients_hold_each : (n : ℕ) → ClientsHoldEach n
clients_hold_each n small start sound before part legal begins ends = each_held n small start sound before part legal begins ends

pub clients_hold_all_since : (n : ℕ) → ClientsHoldAllSince n
clients_hold_all_since n small start sound before part legal begins ends = since_held n small start sound before part legal begins ends
