-- Each scheduled point holds the value in force whenever a request acts.
use Rattle.std.proofs.Common.{◌≡◌, ℕ, suc, ◌+◌, ◌<◌, ◌≤◌, max, Bool, true, false, cond, nat_eq, List, [], ◌∷◌, ◌++◌, length, Option, Some, None, option_map, refl, sym, ap, subst, ◌∙◌, inl, inr, append_assoc, arith}
use Rattle.std.specs.Prelude.{slice_get, option_and_then, unwrap_or, IfSome}
use Rattle.std.specs.List.{Contains}
use Rattle.std.proofs.lemmas.Bool.{eqb-true}
use Rattle.jiff.specs.Words.{plain_zone}
use Rattle.ob_values.proofs.Lists.{some_same}
use Rattle.ob_machine.specs.History.{after, IsLegal}
use Rattle.ob_machine.proofs.HistoryLemmas.{after-snoc, legal_back}
use Rattle.ob_object.specs.declared.head.Slot.{Slot}
use Rattle.ob_step_laws.proofs.Opened.{opens_consistent, opens_counted}
use Rattle.ob_step_laws.proofs.Apart.{opens_apart}
use Rattle.ob_step_laws.proofs.Opening.{opens_points}
use Rattle.ob_schedule.specs.Forms.{is_written}
use Rattle.ob_schedule_rules.specs.Merged.{post, IsPostOf, IsBootPost, IsBoot, AreMade, ArePosts, IsMerged}
use Rattle.ob_schedule_rules.specs.Rules.{rules_of}
use Rattle.ob_site_laws.specs.SiteLaws.{Call, acts}
use Rattle.ob_site_rules.specs.State.{is_among}
use Rattle.ob_site_rules.specs.Sites.{SiteState}
use Rattle.ob_weekly.specs.declared.firing.Firing.{Firing}
use Rattle.ob_weekly.specs.declared.schedule.Entry.{Entry}
use Rattle.ob_weekly.specs.declared.schedule.Schedule.{Schedule}
use Rattle.ob_weekly.specs.declared.schedule.Schedules.{Schedules}
use Rattle.ob_weekly.specs.Behind.{slot_of, left_of}
use Rattle.ob_weekly.specs.Firings.{IsInForce}
use Rattle.ob_weekly.proofs.Behind.{in_force_behind}
use Rattle.ob_schedule_laws.proofs.Firings.{have_slots}
use Rattle.ob_weekly.proofs.Dates.{place_below}
use Rattle.ob_weekly.proofs.OneList.{head_in, later_in}
use Rattle.ob_weekly.proofs.Again.{below_or}
use Rattle.ob_schedule_laws.specs.InForce.{timed, IsRequest, RiseFrom, AreLocated, IsUndisturbed, slot_at, shown_slot, HoldInForce, PointsHoldInForce}
use Rattle.ob_schedule_laws.proofs.Leaving.{IsReady, Stands, stands_itself, call_stands}
use Rattle.ob_schedule_laws.proofs.Merging.{greatest, one_more, rises_to, last_parts}
use Rattle.ob_schedule_laws.proofs.Posting.{Sets, point_of, sets}
use Rattle.ob_schedule_laws.proofs.Right.{AllFitSite, schedules_fit}
use Rattle.ob_schedule_laws.proofs.Staying.{stays}

append_nil : {A : Type 0} (xs : List A) → xs ++ [] ≡ xs
append_nil [] = refl
append_nil (x ∷ xs) = ap (λ l. x ∷ l) (append_nil xs)

among_calls : (before : List Call) (e : Call) (rest : List Call) → Contains (before ++ e ∷ rest) e
among_calls [] e rest = head_in e rest
among_calls (x ∷ before) e rest = later_in x e (before ++ e ∷ rest) (among_calls before e rest)

entry_there : (o : Option Entry) (slot : Slot) → option_map (λ (x : Entry). x.slot) o ≡ Some slot → (x : Entry) × (o ≡ Some x) × (x.slot ≡ slot)
entry_there None slot e = absurd cc
entry_there (Some x) slot e = (x, refl, some_same e)

greatest_more : (m : ℕ) (past : List Call) (e : Call) → greatest m (past ++ e ∷ []) ≡ max (greatest m past) e.moment
greatest_more m [] e = refl
greatest_more m (p ∷ past) e = greatest_more (max m p.moment) past e

module _ (s : Schedules) (boot : ℕ) (start : SiteState) (ready : IsReady start) (fit : AllFitSite (rules_of start) s.list.items) (located : AreLocated start s)
    (own calls : List Call) (rises : RiseFrom boot own) (legal : IsLegal acts start calls) (calm : IsUndisturbed s boot start own calls) where
  abbrev list : List Schedule
  list = s.list.items

  abbrev at_call : List Call → SiteState
  at_call before = after acts start before

  among : (k : ℕ) (it : Schedule) → slice_get list k ≡ Some it → is_among it.point start.plan.points ≡ true
  among k it at = (point_of start it.point it.kind (fit.fits k it at).kind_at).among

  -- ---- one write of a schedule
  write_sets : (before rest : List Call) (e : Call) → calls ≡ before ++ e ∷ rest → Stands start (at_call before)
      → (k : ℕ) (it : Schedule) (slot : Slot) → slice_get list k ≡ Some it → e.request ≡ post it slot → is_written (rules_of start) it.point slot ≡ true
      → Sets start (at_call before) (at_call (before ++ e ∷ [])) it.point slot
  write_sets before rest e calls_are stands k it slot at asks fits =
      subst (λ (u : SiteState). Sets start (at_call before) u it.point slot) (sym (after-snoc acts start before e))
      (sets start (at_call before) ready stands it slot (located k it at) (fit.fits k it at).kind_at fits e asks (calm.contracts before rest e calls_are)
      (legal_back acts start before (e ∷ rest) (subst (IsLegal acts start) calls_are legal)).0
      (calm.done e (subst (λ (l : List Call). Contains l e) (sym calls_are) (among_calls before e rest)) (k, it, slot, at, asks)))

  next_calls : (before posts : List Call) (e : Call) (rest : List Call) → calls ≡ before ++ (e ∷ posts ++ rest) → calls ≡ (before ++ e ∷ []) ++ (posts ++ rest)
  next_calls before posts e rest is = is ∙ sym (append_assoc before (e ∷ []) (posts ++ rest))

  -- ---- the writes of firings
  record Ran (before posts : List Call) (firings : List Firing) : Type 0 where
    pub stands : Stands start (at_call (before ++ posts))
    pub holds : (j : ℕ) (jt : Schedule) (v : Slot) → slice_get list j ≡ Some jt → shown_slot (at_call before) jt.point ≡ Some v → shown_slot (at_call (before ++ posts)) jt.point ≡ Some (left_of list j firings v)

  fired_slot : (f : Firing) (it : Schedule) (slot : Slot) → slice_get list f.schedule ≡ Some it → slot_of list f ≡ Some slot → option_map (λ (x : Entry). x.slot) (slice_get it.entries.items f.entry) ≡ Some slot
  fired_slot f it slot at slot_is = sym (ap (option_and_then (λ (t : Schedule). option_map (λ (x : Entry). x.slot) (slice_get t.entries.items f.entry))) at) ∙ slot_is

  run : (firings : List Firing) (posts rest before : List Call) → AreMade (λ f a. IsPostOf s f (timed a)) firings posts → ((f : Firing) → Contains firings f → (slot : Slot) × (slot_of list f ≡ Some slot))
      → calls ≡ before ++ (posts ++ rest) → Stands start (at_call before) → Ran before posts firings
  run [] [] rest before made have calls_are stands = record {
    stands = subst (λ (l : List Call). Stands start (at_call l)) (sym (append_nil before)) stands;
    holds = λ j jt v at shown. ap (λ (l : List Call). shown_slot (at_call l) jt.point) (append_nil before) ∙ shown;
  }
  run [] (e ∷ posts) rest before made have calls_are stands = absurd made
  run (f ∷ firings) [] rest before made have calls_are stands = absurd made
  run (f ∷ firings) (e ∷ posts) rest before made have calls_are stands =
      let of = made.0 in
      let slot = have f (head_in f firings) in
      let x = entry_there (slice_get of.0.entries.items f.entry) slot.0 (fired_slot f of.0 slot.0 of.1 slot.1) in
      let post_is : timed e ≡ (post of.0 x.0.slot, f.at) = subst (λ (o : Option Entry). IfSome o (λ y. timed e ≡ (post of.0 y.slot, f.at))) x.1 of.2 in
      let one = write_sets before (posts ++ rest) e calls_are stands f.schedule of.0 x.0.slot of.1 (ap (λ t. t.0) post_is) ((fit.fits f.schedule of.0 of.1).slots f.entry x.0 x.1) in
      let more = run firings posts rest (before ++ e ∷ []) made.1 (λ g c. have g (later_in f g firings c)) (next_calls before posts e rest calls_are) one.stands in
      let all : (before ++ e ∷ []) ++ posts ≡ before ++ e ∷ posts = append_assoc before (e ∷ []) posts in
      record {
        stands = subst (λ (l : List Call). Stands start (at_call l)) all more.stands;
        holds = λ j jt v at shown. ap (λ (l : List Call). shown_slot (at_call l) jt.point) (sym all)
            ∙ more.holds j jt (cond (nat_eq f.schedule j) (unwrap_or (slot_of list f) v) v) at (after_one f before e of.0 x.0.slot slot.0 of.1 slot.1 x.2 one j jt v at shown (nat_eq f.schedule j) refl);
      }
    where
      after_one : (f : Firing) (before : List Call) (e : Call) (it : Schedule) (written slot : Slot) → slice_get list f.schedule ≡ Some it → slot_of list f ≡ Some slot → written ≡ slot
          → Sets start (at_call before) (at_call (before ++ e ∷ [])) it.point written
          → (j : ℕ) (jt : Schedule) (v : Slot) → slice_get list j ≡ Some jt → shown_slot (at_call before) jt.point ≡ Some v
          → (b : Bool) → nat_eq f.schedule j ≡ b → shown_slot (at_call (before ++ e ∷ [])) jt.point ≡ Some (cond b (unwrap_or (slot_of list f) v) v)
      after_one f before e it written slot here slot_is is one j jt v at shown true same =
          let point : it ≡ jt = some_same (sym here ∙ (ap (slice_get list) (eqb-true f.schedule j same) ∙ at)) in
          ap (λ (t : Schedule). shown_slot (at_call (before ++ e ∷ [])) t.point) (sym point) ∙ (one.at ∙ ap Some (is ∙ sym (ap (λ o. unwrap_or o v) slot_is)))
      after_one f before e it written slot here slot_is is one j jt v at shown false other =
          one.others jt.point (among j jt at) (λ points. apart f.schedule j other (fit.apart f.schedule j it jt here at points)) ∙ shown
        where
          apart : (a b : ℕ) → nat_eq a b ≡ false → a ≡ b → ⊥
          apart a b g h = grind (arith, g, h)

  -- ---- the writes of the boot
  abbrev HoldBelow : ℕ → List Call → Type 0
  HoldBelow n before = (j : ℕ) (jt : Schedule) → slice_get list j ≡ Some jt → j < n → (slot : Slot) × IsInForce (plain_zone s.zone) list j boot slot × (shown_slot (at_call before) jt.point ≡ Some slot)

  record Booted (before posts : List Call) (n : ℕ) : Type 0 where
    pub stands : Stands start (at_call (before ++ posts))
    pub holds : HoldBelow (n + length posts) (before ++ posts)

  -- what is in force may be written
  force_fits : (k : ℕ) (it : Schedule) (slot : Slot) → slice_get list k ≡ Some it → IsInForce (plain_zone s.zone) list k boot slot → is_written (rules_of start) it.point slot ≡ true
  force_fits k it slot at force =
      let same : force.is.schedule ≡ it = some_same (sym force.is.schedule_is ∙ (ap (slice_get list) force.of ∙ at)) in
      ap (is_written (rules_of start) it.point) force.slot_is
      ∙ (fit.fits k it at).slots force.last.entry force.is.entry (ap (λ (t : Schedule). slice_get t.entries.items force.last.entry) (sym same) ∙ force.is.entry_is)

  boots : (posts rest before : List Call) (n : ℕ) → ((k : ℕ) → IfSome (slice_get posts k) (λ a. IsBootPost s boot (n + k) (timed a)))
      → calls ≡ before ++ (posts ++ rest) → Stands start (at_call before) → HoldBelow n before → Booted before posts n
  boots [] rest before n each calls_are stands below = record {
    stands = subst (λ (l : List Call). Stands start (at_call l)) (sym (append_nil before)) stands;
    holds = λ j jt at lt. (let h = below j jt at (omega (arith, lt)) in (h.0, h.1, ap (λ (l : List Call). shown_slot (at_call l) jt.point) (append_nil before) ∙ h.2));
  }
  boots (e ∷ posts) rest before n each calls_are stands below =
      let here : n + 0 ≡ n = omega arith in
      let first : IsBootPost s boot n (timed e) = subst (λ (k : ℕ). IsBootPost s boot k (timed e)) here (each 0) in
      let one = write_sets before (posts ++ rest) e calls_are stands n first.0 first.1 first.2 (ap (λ t. t.0) first.4) (force_fits n first.0 first.1 first.2 first.3) in
      let more = boots posts rest (before ++ e ∷ []) (n + 1) (later_posts e posts n each) (next_calls before posts e rest calls_are) one.stands (below_more before e n first.0 first.1 first.2 first.3 one below) in
      let all : (before ++ e ∷ []) ++ posts ≡ before ++ e ∷ posts = append_assoc before (e ∷ []) posts in
      record {
        stands = subst (λ (l : List Call). Stands start (at_call l)) all more.stands;
        holds = λ j jt at lt. (let h = more.holds j jt at (omega (arith, lt)) in (h.0, h.1, ap (λ (l : List Call). shown_slot (at_call l) jt.point) (sym all) ∙ h.2));
      }
    where
      later_posts : (e : Call) (posts : List Call) (n : ℕ) → ((k : ℕ) → IfSome (slice_get (e ∷ posts) k) (λ a. IsBootPost s boot (n + k) (timed a))) → (k : ℕ) → IfSome (slice_get posts k) (λ a. IsBootPost s boot (n + 1 + k) (timed a))
      later_posts e posts n each k = (let next : n + suc k ≡ n + 1 + k = omega arith in subst (λ (i : ℕ). IfSome (slice_get posts k) (λ a. IsBootPost s boot i (timed a))) next (each (suc k)))

      below_more : (before : List Call) (e : Call) (n : ℕ) (it : Schedule) (slot : Slot) → slice_get list n ≡ Some it → IsInForce (plain_zone s.zone) list n boot slot
          → Sets start (at_call before) (at_call (before ++ e ∷ [])) it.point slot → HoldBelow n before → HoldBelow (n + 1) (before ++ e ∷ [])
      below_more before e n it slot here force one below j jt at lt =
          elim (below_or j n) [
            | inl less ↦ (let h = below j jt at less in (h.0, h.1, one.others jt.point (among j jt at) (λ points. (let same = fit.apart n j it jt here at points in omega (arith, same, less))) ∙ h.2))
            | inr from ↦ (
                let same : n ≡ j = omega (arith, from, lt) in
                let point : it ≡ jt = some_same (sym here ∙ (ap (slice_get list) same ∙ at)) in
                (slot, subst (λ (i : ℕ). IsInForce (plain_zone s.zone) list i boot slot) same force, ap (λ (t : Schedule). shown_slot (at_call (before ++ e ∷ [])) t.point) (sym point) ∙ one.at)
                )
          ]

  -- ---- the requests
  record Found (all : List Call) (moment : ℕ) : Type 0 where
    pub front : List Call
    pub last : Call
    pub all_is : all ≡ front ++ last ∷ []
    pub holds : HoldInForce s (at_call front) moment

  -- behind the writes before a request each point holds what is in force at its moment
  record Now (before posts : List Call) (moment : ℕ) : Type 0 where
    pub stands : Stands start (at_call (before ++ posts))
    pub holds : HoldInForce s (at_call (before ++ posts)) moment

  until : (before posts rest : List Call) (e : Call) (g : ℕ) → ArePosts timed s g e.moment posts → calls ≡ before ++ (posts ++ e ∷ rest) → g ≤ e.moment → Stands start (at_call before) → HoldInForce s (at_call before) g
      → Now before posts e.moment
  until before posts rest e g posts_are calls_are late stands holds =
      let moment = (legal_back acts start (before ++ posts) (e ∷ rest) (subst (IsLegal acts start) (calls_are ∙ sym (append_assoc before posts (e ∷ rest))) legal)).0.moment in
      let ran = run posts_are.0 posts (e ∷ rest) before posts_are.2 (have_slots (plain_zone s.zone) list g e.moment posts_are.0 posts_are.1) calls_are stands in
      record {
        stands = ran.stands;
        holds = λ k it at. (let h = holds k it at in (left_of list k posts_are.0 h.0, in_force_behind (plain_zone s.zone) list k g e.moment h.0 posts_are.0 late moment h.1 posts_are.1, ran.holds k it h.0 at h.2));
      }

  module _ (opening : List Call) (boot_is : IsBoot timed s boot opening) where
    -- a call of the requests' own leaves each point with what it holds
    passed : (past merged posts : List Call) (p : Call) (later rest : List Call) → own ≡ past ++ p ∷ later → IsMerged timed s boot past merged → ArePosts timed s (greatest boot past) p.moment posts
        → calls ≡ ((opening ++ merged) ++ posts) ++ p ∷ rest → Now (opening ++ merged) posts p.moment
        → Now (opening ++ merged) (posts ++ p ∷ []) p.moment
    passed past merged posts p later rest own_are is posts_are calls_are now =
        let before : List Call = (opening ++ merged) ++ posts in
        let then : Stands start (at_call (before ++ p ∷ [])) = subst (Stands start) (sym (after-snoc acts start before p)) (call_stands start (at_call before) ready now.stands p (calm.contracts before rest p calls_are)) in
        let all : before ++ p ∷ [] ≡ (opening ++ merged) ++ (posts ++ p ∷ []) = append_assoc (opening ++ merged) posts (p ∷ []) in
        let request : IsRequest s boot own before p = record {
          earlier = past;
          later = later;
          own_are = own_are;
          merges = record {
            opening = opening;
            rest = merged ++ (posts ++ p ∷ []);
            boot_is = boot_is;
            between = one_more s boot past merged p posts is posts_are;
            merged_is = all ∙ append_assoc opening merged (posts ++ p ∷ []);
          };
        } in
        record {
          stands = subst (λ (l : List Call). Stands start (at_call l)) all then;
          holds = λ k it at.
              (let h = now.holds k it at in
              let same = stays start ready (at_call before) (at_call (before ++ p ∷ [])) now.stands then it.point (among k it at)
              (ap (λ (u : SiteState). slot_at u it.point) (after-snoc acts start before p) ∙ calm.points before rest p calls_are request k it at) in
              (h.0, h.1, ap (λ (l : List Call). shown_slot (at_call l) it.point) (sym all) ∙ (same ∙ h.2)));
        }

    goes : (es past merged cur : List Call) (e : Call) (later rest : List Call) → own ≡ past ++ (es ++ e ∷ later) → IsMerged timed s boot past merged → IsMerged timed s (greatest boot past) (es ++ e ∷ []) cur
        → calls ≡ (opening ++ merged) ++ (cur ++ rest) → Stands start (at_call (opening ++ merged)) → HoldInForce s (at_call (opening ++ merged)) (greatest boot past)
        → Found ((opening ++ merged) ++ cur) e.moment
    goes [] past merged cur e later rest own_are is next calls_are stands holds =
        let late = rises_to boot past later e (subst (RiseFrom boot) own_are rises) in
        let cur_is : cur ++ rest ≡ next.0 ++ e ∷ (next.1 ++ rest) = ap (λ (l : List Call). l ++ rest) next.3 ∙ append_assoc next.0 (e ∷ next.1) rest in
        let now = until (opening ++ merged) next.0 (next.1 ++ rest) e (greatest boot past) next.2 (calls_are ∙ ap (λ (l : List Call). (opening ++ merged) ++ l) cur_is) late stands holds in
        record {
          front = (opening ++ merged) ++ next.0;
          last = e;
          all_is = ap (λ (l : List Call). (opening ++ merged) ++ l) (next.3 ∙ ap (λ (l : List Call). next.0 ++ e ∷ l) next.4) ∙ sym (append_assoc (opening ++ merged) next.0 (e ∷ []));
          holds = now.holds;
        }
    goes (p ∷ es) past merged cur e later rest own_are is next calls_are stands holds =
        let late = rises_to boot past (es ++ e ∷ later) p (subst (RiseFrom boot) own_are rises) in
        let cur_is : cur ++ rest ≡ next.0 ++ p ∷ (next.1 ++ rest) = ap (λ (l : List Call). l ++ rest) next.3 ∙ append_assoc next.0 (p ∷ next.1) rest in
        let calls_now = calls_are ∙ ap (λ (l : List Call). (opening ++ merged) ++ l) cur_is in
        let now = until (opening ++ merged) next.0 (next.1 ++ rest) p (greatest boot past) next.2 calls_now late stands holds in
        let then = passed past merged next.0 p (es ++ e ∷ later) (next.1 ++ rest) own_are is next.2 (calls_now ∙ sym (append_assoc (opening ++ merged) next.0 (p ∷ (next.1 ++ rest)))) now in
        let merged_then : List Call = merged ++ (next.0 ++ p ∷ []) in
        let front_is : (opening ++ merged) ++ (next.0 ++ p ∷ []) ≡ opening ++ merged_then = append_assoc opening merged (next.0 ++ p ∷ []) in
        let all : (opening ++ merged) ++ cur ≡ (opening ++ merged_then) ++ next.1 =
        ap (λ (l : List Call). (opening ++ merged) ++ l) (next.3 ∙ sym (append_assoc next.0 (p ∷ []) next.1))
        ∙ (sym (append_assoc (opening ++ merged) (next.0 ++ p ∷ []) next.1) ∙ ap (λ (l : List Call). l ++ next.1) front_is) in
        let moment_is : p.moment ≡ greatest boot (past ++ p ∷ []) = max_of (greatest boot past) p.moment late ∙ sym (greatest_more boot past p) in
        let rest_found = goes es (past ++ p ∷ []) merged_then next.1 e later rest (own_are ∙ sym (append_assoc past (p ∷ []) (es ++ e ∷ later)))
        (one_more s boot past merged p next.0 is next.2) (subst (λ (g : ℕ). IsMerged timed s g (es ++ e ∷ []) next.1) (sym (greatest_more boot past p)) next.4)
        (calls_are ∙ (sym (append_assoc (opening ++ merged) cur rest) ∙ (ap (λ (l : List Call). l ++ rest) all ∙ append_assoc (opening ++ merged_then) next.1 rest)))
        (subst (λ (l : List Call). Stands start (at_call l)) front_is then.stands)
        (subst (λ (l : List Call). HoldInForce s (at_call l) (greatest boot (past ++ p ∷ []))) front_is (subst (λ (g : ℕ). HoldInForce s (at_call ((opening ++ merged) ++ (next.0 ++ p ∷ []))) g) moment_is then.holds)) in
        record { front = rest_found.front; last = rest_found.last; all_is = all ∙ rest_found.all_is; holds = rest_found.holds }
      where
        max_of : (a b : ℕ) → a ≤ b → b ≡ max a b
        max_of a b h = omega (arith, h)

  -- so each request finds each point with the value in force at its moment
  pub finds : (before later : List Call) (e : Call) → calls ≡ before ++ e ∷ later → IsRequest s boot own before e → HoldInForce s (at_call before) e.moment
  finds before later e calls_are request =
      let m = request.merges in
      let split : calls ≡ m.opening ++ (m.rest ++ later) =
      calls_are ∙ (sym (append_assoc before (e ∷ []) later) ∙ (ap (λ (l : List Call). l ++ later) m.merged_is ∙ append_assoc m.opening m.rest later)) in
      let each : (k : ℕ) → IfSome (slice_get m.opening k) (λ a. IsBootPost s boot (0 + k) (timed a)) = λ k. (let same : k ≡ 0 + k = omega arith in subst (λ (i : ℕ). IfSome (slice_get m.opening k) (λ a. IsBootPost s boot i (timed a))) same (m.boot_is.each k)) in
      let booted = boots m.opening (m.rest ++ later) [] 0 each split (stands_itself start) (λ j jt at lt. absurd (omega (arith, lt))) in
      let none : m.opening ++ [] ≡ m.opening = append_nil m.opening in
      let found = goes m.opening m.boot_is request.earlier [] [] m.rest e request.later later request.own_are refl m.between
      (split ∙ ap (λ (l : List Call). l ++ (m.rest ++ later)) (sym none))
      (subst (λ (l : List Call). Stands start (at_call l)) (sym none) booted.stands)
      (subst (λ (l : List Call). HoldInForce s (at_call l) boot) (sym none) (λ k it at. booted.holds k it at (let b = place_below list k it (length list) (omega arith) at in let c = m.boot_is.count in omega (arith, b, c)))) in
      let fronts = last_parts before found.front e found.last (m.merged_is ∙ (ap (λ (l : List Call). l ++ m.rest) (sym none) ∙ found.all_is)) in
      subst (λ (l : List Call). HoldInForce s (at_call l) e.moment) (sym fronts.0) found.holds

pub points_hold : PointsHoldInForce
points_hold root doc boot st s well few opened file says located own calls rises legal calm before later e calls_are request =
    let is = opens_consistent root boot st well (opens_counted root boot st few opened) opened in
    let ready : IsReady st = record {
      made = is.library;
      points = λ p point. (is.consistent.points p point, λ o e. opens_points root boot st opened p o point e);
      differ = opens_apart root boot st opened;
    } in
    finds s boot st ready (schedules_fit (rules_of st) doc s.list.items file says.weeks) located own calls rises legal calm before later e calls_are request
