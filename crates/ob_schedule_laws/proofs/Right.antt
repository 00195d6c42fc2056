-- What a file of schedules of the form says fits the site: each point with its kind, each slot, and no point twice.
use Rattle.std.proofs.Common.{◌≡◌, ℕ, zero, suc, ◌+◌, ◌≤◌, Bool, true, false, ◌&&◌, ◌||◌, cond, List, [], ◌∷◌, ◌++◌, map, length, Option, Some, None, refl, sym, ap, subst, ◌∙◌, arith, true≢false, codes}
use Rattle.std.specs.Prelude.{option_map, option_and_then, unwrap_or, slice_get, not, nat_le, is_some}
use Rattle.std.specs.List.{list_any}
use Rattle.std.proofs.lemmas.Bool.{leb-true}
use Rattle.ob_object.specs.declared.kind.Kind.{Kind}
use Rattle.ob_object.specs.declared.kind.Kind.TheVariants as kind
use Rattle.ob_object.specs.declared.head.Slot.TheVariants.{Null}
use Rattle.ob_object.specs.Kinds.{same_kind}
use Rattle.ob_object.specs.Object.{Object, children, parts}
use Rattle.ob_parts.specs.Numbered.{Part, plus, numbered_from, inside, child, inside_child, root}
use Rattle.ob_parts.specs.Offences.{unless, needs, each}
use Rattle.ob_parts.proofs.Needed.{said_some, judged_nil}
use Rattle.ob_weekly.specs.declared.schedule.Entry.{Entry}
use Rattle.ob_weekly.specs.declared.schedule.Schedule.{Schedule}
use Rattle.ob_schedule.specs.Forms.{point_text, point_said, is_text, right_point, is_point, is_written, slot_given, is_value, is_day, is_time, is_zone, is_list, is_same_time, week_time, entry_offences, point_of, schedule_offences, offences, point_rule, value_rule}
use Rattle.ob_schedule.specs.declared.rule.ScheduleRule.TheVariants as rule
use Rattle.ob_values.proofs.Bools.{both_true}
use Rattle.ob_schedule.proofs.Right.{append_nil, listed_is}
use Rattle.ob_schedule.specs.PointRules.{PointRules, Text}
use Rattle.ob_schedule.specs.Weeks.{Week, week, week_of, entry_of, listed_in, said_or, slot_in, kind_in, kind_of}
use Rattle.ob_site_laws.proofs.Same.{tells_text, tells_kind}

-- ---- an entry

pub record EntryFits (site : PointRules) (t : Text) (k : Kind) (e : Object) : Type 0 where
  pub slot : is_written site t (entry_of e).slot ≡ true
  pub kind : said_or kind.Obj (codes "value") kind_in e ≡ k

entry_fits : (site : PointRules) (t : Text) (k : Kind) (before : List Object) (p : Part) → entry_offences site (Some (t, k)) before p ≡ [] → EntryFits site t k p.object
entry_fits site t k before p e =
    let once = unless (not (list_any (λ other. is_same_time (week_time other) (week_time p.object)) before)) rule.TimeTwice p in
    let value = needs (codes "value") (value_rule (Some (t, k))) (is_value site (Some (t, k))) p in
    let day = needs (codes "day") (λ _. rule.Day) is_day p in
    let time = needs (codes "at") (λ _. rule.At) is_time p in
    let two = (append_nil value once (append_nil time (value ++ once) (append_nil day (time ++ (value ++ once)) (append_nil (unless (same_kind p.object.head.kind kind.Obj) rule.Kind p) (day ++ (time ++ (value ++ once))) e).1).1).1).0 in
    let d = judged_nil (value_rule (Some (t, k))) (is_value site (Some (t, k))) p (child (codes "value") p) two in
    let right = both_true (same_kind d.0.object.head.kind k) (is_written site t (slot_given d.0.object.head.kind d.0.object.head.slot)) d.2 in
    record {
      slot = ap (λ o. is_written site t (unwrap_or o Null)) (said_some (codes "value") slot_in p d.0 d.1) ∙ right.1;
      kind = ap (λ o. unwrap_or o kind.Obj) (said_some (codes "value") kind_in p d.0 d.1) ∙ tells_kind.equal d.0.object.head.kind k right.0;
    }

each_fits : (site : PointRules) (t : Text) (k : Kind) (b : List Object) (n : ℕ) (os : List Object) → each (entry_offences site (Some (t, k))) b (numbered_from n os) ≡ []
    → (i : ℕ) (o : Object) → slice_get os i ≡ Some o → EntryFits site t k o
each_fits site t k b n [] e i o at = absurd cc
each_fits site t k b n (x ∷ os) e zero o at =
    let p : Part = record { number = n; object = x } in
    let two = append_nil (entry_offences site (Some (t, k)) b p) (each (entry_offences site (Some (t, k))) (b ++ x ∷ []) (numbered_from (plus n (parts x)) os)) e in
    subst (EntryFits site t k) (some_is at) (entry_fits site t k b p two.0)
  where
    some_is : Some x ≡ Some o → x ≡ o
    some_is f = cc
each_fits site t k b n (x ∷ os) e (suc i) o at =
    let p : Part = record { number = n; object = x } in
    let two = append_nil (entry_offences site (Some (t, k)) b p) (each (entry_offences site (Some (t, k))) (b ++ x ∷ []) (numbered_from (plus n (parts x)) os)) e in
    each_fits site t k (b ++ x ∷ []) (plus n (parts x)) os two.1 i o at

-- ---- a schedule

pub record ScheduleFits (site : PointRules) (before : List Object) (s : Object) : Type 0 where
  pub point : Text
  pub kind : Kind
  pub said : point_said s ≡ Some point
  pub kind_at : site.kind_at point ≡ Some kind
  pub apart : list_any (λ o. is_text point (point_said o)) before ≡ false
  pub some : 1 ≤ length (listed_in (codes "entries") s)
  pub entries : (i : ℕ) (o : Object) → slice_get (listed_in (codes "entries") s) i ≡ Some o → EntryFits site point kind o

-- a point that is right
record RightPoint (site : PointRules) (before : List Object) (o : Object) : Type 0 where
  pub point : Text
  pub kind : Kind
  pub text : point_text o ≡ Some point
  pub kind_at : site.kind_at point ≡ Some kind
  pub apart : list_any (λ x. is_text point (point_said x)) before ≡ false
  pub right : right_point site before o ≡ Some (point, kind)

abbrev pair : Text → Kind → Text × Kind
pair t k = (t, k)

right_of : (site : PointRules) (before : List Object) (o : Object) → is_point site before o ≡ true → RightPoint site before o
right_of site before o e = by_text (point_text o) refl e
  where
    by_kind : (t : Text) → point_text o ≡ Some t → list_any (λ s. is_text t (point_said s)) before ≡ false → (k : Option Kind) → site.kind_at t ≡ k → is_some (option_map (pair t) k) ≡ true → RightPoint site before o
    by_kind t f a None g h = absurd cc
    by_kind t f a (Some k) g h = record {
      point = t;
      kind = k;
      text = f;
      kind_at = g;
      apart = a;
      right = ap (option_and_then (λ u. cond (list_any (λ s. is_text u (point_said s)) before) None (option_map (pair u) (site.kind_at u)))) f
          ∙ (ap (λ b. cond b None (option_map (pair t) (site.kind_at t))) a ∙ ap (option_map (pair t)) g);
    }

    by_before : (t : Text) → point_text o ≡ Some t → (b : Bool) → list_any (λ s. is_text t (point_said s)) before ≡ b → is_some (cond b None (option_map (pair t) (site.kind_at t))) ≡ true → RightPoint site before o
    by_before t f true g h = absurd cc
    by_before t f false g h = by_kind t f g (site.kind_at t) refl h

    by_text : (t : Option Text) → point_text o ≡ t → is_some (option_and_then (λ u. cond (list_any (λ s. is_text u (point_said s)) before) None (option_map (pair u) (site.kind_at u))) t) ≡ true → RightPoint site before o
    by_text None f h = absurd cc
    by_text (Some t) f h = by_before t f (list_any (λ s. is_text t (point_said s)) before) refl h

schedule_fits : (site : PointRules) (before : List Object) (p : Part) → schedule_offences site before p ≡ [] → ScheduleFits site before p.object
schedule_fits site before p e =
    let judge = entry_offences site (point_of site before p.object) in
    let listed = each judge [] (inside_child (codes "entries") p) in
    let list = needs (codes "entries") (λ _. rule.Entries) (is_list 1 100) p in
    let point = needs (codes "point") (point_rule site) (is_point site before) p in
    let from_point = append_nil point (list ++ listed) (append_nil (unless (same_kind p.object.head.kind kind.Obj) rule.Kind p) (point ++ (list ++ listed)) e).1 in
    let from_list = append_nil list listed from_point.1 in
    let d = judged_nil (point_rule site) (is_point site before) p (child (codes "point") p) from_point.0 in
    let right = right_of site before d.0.object d.2 in
    let l = judged_nil (λ _. rule.Entries) (is_list 1 100) p (child (codes "entries") p) from_list.0 in
    let bounds = both_true (nat_le 1 (length (children l.0.object))) (nat_le (length (children l.0.object)) 100) (both_true (same_kind l.0.object.head.kind kind.List) (nat_le 1 (length (children l.0.object)) && nat_le (length (children l.0.object)) 100) l.2).1 in
    let listed_are = listed_is (codes "entries") p l.0 l.1 in
    let judged_by : point_of site before p.object ≡ Some (right.point, right.kind) = said_some (codes "point") (right_point site before) p d.0 d.1 ∙ right.right in
    let none : each (entry_offences site (Some (right.point, right.kind))) [] (inside l.0) ≡ [] =
    sym (ap (λ o. each (entry_offences site o) [] (inside l.0)) judged_by) ∙ (sym (ap (λ c. each judge [] (unwrap_or (option_map inside c) [])) l.1) ∙ from_list.1) in
    record {
      point = right.point;
      kind = right.kind;
      said = said_some (codes "point") point_text p d.0 d.1 ∙ right.text;
      kind_at = right.kind_at;
      apart = right.apart;
      some = subst (λ (os : List Object). 1 ≤ length os) (sym listed_are) (leb-true 1 (length (children l.0.object)) bounds.0);
      entries = λ i o at. each_fits site right.point right.kind [] (plus l.0.number 1) (children l.0.object) none i o (sym (ap (λ (os : List Object). slice_get os i) listed_are) ∙ at);
    }

-- each schedule fits, with those before it
abbrev AllFit : PointRules → List Object → List Object → Type 0
AllFit site before [] = Unit {0}
AllFit site before (o ∷ os) = ScheduleFits site before o × AllFit site (before ++ o ∷ []) os

all_fit : (site : PointRules) (b : List Object) (n : ℕ) (os : List Object) → each (schedule_offences site) b (numbered_from n os) ≡ [] → AllFit site b os
all_fit site b n [] e = tt
all_fit site b n (o ∷ os) e =
    let p : Part = record { number = n; object = o } in
    let two = append_nil (schedule_offences site b p) (each (schedule_offences site) (b ++ o ∷ []) (numbered_from (plus n (parts o)) os)) e in
    (schedule_fits site b p two.0, all_fit site (b ++ o ∷ []) (plus n (parts o)) os two.1)

file_fits : (site : PointRules) (doc : Object) → offences site doc ≡ [] → AllFit site [] (listed_in (codes "schedules") doc)
file_fits site doc e =
    let p = root doc in
    let listed = each (schedule_offences site) [] (inside_child (codes "schedules") p) in
    let list = needs (codes "schedules") (λ _. rule.Schedules) (is_list 0 1_000) p in
    let zone = needs (codes "zone") (λ _. rule.Zone) is_zone p in
    let from_list = append_nil list listed (append_nil zone (list ++ listed) (append_nil (unless (same_kind doc.head.kind kind.Obj) rule.Kind p) (zone ++ (list ++ listed)) e).1).1 in
    let d = judged_nil (λ _. rule.Schedules) (is_list 0 1_000) p (child (codes "schedules") p) from_list.0 in
    subst (AllFit site []) (sym (listed_is (codes "schedules") p d.0 d.1))
    (all_fit site [] (plus d.0.number 1) (children d.0.object) (sym (ap (λ c. each (schedule_offences site) [] (unwrap_or (option_map inside c) [])) d.1) ∙ from_list.1))

-- ---- the schedules that were read

pub record Fits (site : PointRules) (it : Schedule) : Type 0 where
  pub kind_at : site.kind_at it.point ≡ Some it.kind
  pub slots : (i : ℕ) (e : Entry) → slice_get it.entries.items i ≡ Some e → is_written site it.point e.slot ≡ true

abbrev Apart : List Schedule → Type 0
Apart list = (j k : ℕ) (a b : Schedule) → slice_get list j ≡ Some a → slice_get list k ≡ Some b → a.point ≡ b.point → j ≡ k

mapped : {A B : Type 0} (f : A → B) (xs : List A) (k : ℕ) (y : B) → slice_get (map f xs) k ≡ Some y → (x : A) × (slice_get xs k ≡ Some x) × (y ≡ f x)
mapped f [] k y e = absurd cc
mapped f (x ∷ xs) zero y e = (x, refl, (let g : f x ≡ y = cc in sym g))
mapped f (x ∷ xs) (suc k) y e = mapped f xs k y e

first_kind : (os : List Object) (k : Kind) → 1 ≤ length os → ((i : ℕ) (o : Object) → slice_get os i ≡ Some o → said_or kind.Obj (codes "value") kind_in o ≡ k) → kind_of os ≡ k
first_kind [] k some all = absurd (omega (arith, some))
first_kind (o ∷ os) k some all = all 0 o refl

week_fits : (site : PointRules) (before : List Object) (o : Object) (it : Schedule) → ScheduleFits site before o → week it ≡ week_of o → Fits site it × (point_said o ≡ Some it.point)
week_fits site before o it fits same =
    let point : it.point ≡ fits.point = ap (λ (w : Week). w.point) same ∙ ap (λ t. unwrap_or t []) fits.said in
    let kind : it.kind ≡ fits.kind = ap (λ (w : Week). w.kind) same ∙ first_kind (listed_in (codes "entries") o) fits.kind fits.some (λ i x at. (fits.entries i x at).kind) in
    let entries : it.entries.items ≡ map entry_of (listed_in (codes "entries") o) = ap (λ (w : Week). w.entries) same in (
      record {
        kind_at = ap site.kind_at point ∙ (fits.kind_at ∙ ap Some (sym kind));
        slots = λ i e at.
            (let m = mapped entry_of (listed_in (codes "entries") o) i e (sym (ap (λ (l : List Entry). slice_get l i) entries) ∙ at) in
            ap (λ (t : Text). is_written site t e.slot) point ∙ (ap (λ (x : Entry). is_written site fits.point x.slot) m.2 ∙ (fits.entries i m.0 m.1).slot));
      },
      fits.said ∙ ap Some (sym point),
    )

all_weeks : (site : PointRules) (before : List Object) (os : List Object) (its : List Schedule) → AllFit site before os → map week its ≡ map week_of os → (k : ℕ) (it : Schedule) → slice_get its k ≡ Some it → Fits site it
all_weeks site before os [] fit same k it at = absurd cc
all_weeks site before [] (x ∷ its) fit same k it at = absurd cc
all_weeks site before (o ∷ os) (x ∷ its) fit same zero it at =
    let first : week x ≡ week_of o = cc in
    let is : x ≡ it = cc in
    subst (Fits site) is (week_fits site before o x fit.0 first).0
all_weeks site before (o ∷ os) (x ∷ its) fit same (suc k) it at =
    let rest : map week its ≡ map week_of os = cc in
    all_weeks site (before ++ o ∷ []) os its fit.1 rest k it at

any_in : (test : Object → Bool) (xs : List Object) (o : Object) (ys : List Object) → test o ≡ true → list_any test (xs ++ o ∷ ys) ≡ true
any_in test [] o ys e = ap (λ b. b || list_any test ys) e
any_in test (x ∷ xs) o ys e = or_more (test x) (any_in test xs o ys e)
  where
    or_more : (b : Bool) → list_any test (xs ++ o ∷ ys) ≡ true → (b || list_any test (xs ++ o ∷ ys)) ≡ true
    or_more true f = refl
    or_more false f = f

any_more : (test : Object → Bool) (xs : List Object) (o : Object) → list_any test xs ≡ true → list_any test (xs ++ o ∷ []) ≡ true
any_more test [] o e = absurd cc
any_more test (x ∷ xs) o e = by_test (test x) e (any_more test xs o)
  where
    by_test : (b : Bool) → (b || list_any test xs) ≡ true → (list_any test xs ≡ true → list_any test (xs ++ o ∷ []) ≡ true) → (b || list_any test (xs ++ o ∷ [])) ≡ true
    by_test true f more = refl
    by_test false f more = more f

-- no schedule behind some objects has a point that one of them says
none_again : (site : PointRules) (before : List Object) (os : List Object) (its : List Schedule) (t : Text) → AllFit site before os → map week its ≡ map week_of os
    → list_any (λ o. is_text t (point_said o)) before ≡ true → (k : ℕ) (it : Schedule) → slice_get its k ≡ Some it → it.point ≡ t → ⊥
none_again site before os [] t fit same said k it at is = absurd cc
none_again site before [] (x ∷ its) t fit same said k it at is = absurd cc
none_again site before (o ∷ os) (x ∷ its) t fit same said zero it at is =
    let first : week x ≡ week_of o = cc in
    let it_is : x ≡ it = cc in
    let point : fit.0.point ≡ t = some_text (sym fit.0.said ∙ (week_fits site before o x fit.0 first).1) ∙ (ap (λ (y : Schedule). y.point) it_is ∙ is) in
    true≢false (sym said ∙ (ap (λ u. list_any (λ y. is_text u (point_said y)) before) (sym point) ∙ fit.0.apart))
  where
    some_text : {a b : Text} → Some a ≡ Some b → a ≡ b
    some_text e = cc
none_again site before (o ∷ os) (x ∷ its) t fit same said (suc k) it at is =
    let rest : map week its ≡ map week_of os = cc in
    none_again site (before ++ o ∷ []) os its t fit.1 rest (any_more (λ y. is_text t (point_said y)) before o said) k it at is

-- so none behind a schedule has its point
later : (site : PointRules) (before : List Object) (o : Object) (os : List Object) (x : Schedule) (its : List Schedule) → AllFit site before (o ∷ os) → map week (x ∷ its) ≡ map week_of (o ∷ os)
    → (k : ℕ) (b : Schedule) → slice_get its k ≡ Some b → b.point ≡ x.point → ⊥
later site before o os x its fit same k b at is =
    let first : week x ≡ week_of o = cc in
    let rest : map week its ≡ map week_of os = cc in
    none_again site (before ++ o ∷ []) os its x.point fit.1 rest
    (any_in (λ y. is_text x.point (point_said y)) before o [] (ap (is_text x.point) (week_fits site before o x fit.0 first).1 ∙ tells_text.itself x.point)) k b at is

all_apart : (site : PointRules) (before : List Object) (os : List Object) (its : List Schedule) → AllFit site before os → map week its ≡ map week_of os → Apart its
all_apart site before os [] fit same j k a b at at' is = absurd cc
all_apart site before [] (x ∷ its) fit same j k a b at at' is = absurd cc
all_apart site before (o ∷ os) (x ∷ its) fit same zero zero a b at at' is = refl
all_apart site before (o ∷ os) (x ∷ its) fit same zero (suc k) a b at at' is =
    absurd (later site before o os x its fit same k b at' (let a_is : x ≡ a = cc in sym is ∙ ap (λ (y : Schedule). y.point) (sym a_is)))
all_apart site before (o ∷ os) (x ∷ its) fit same (suc j) zero a b at at' is =
    absurd (later site before o os x its fit same j a at (let b_is : x ≡ b = cc in is ∙ ap (λ (y : Schedule). y.point) (sym b_is)))
all_apart site before (o ∷ os) (x ∷ its) fit same (suc j) (suc k) a b at at' is =
    let rest : map week its ≡ map week_of os = cc in
    ap suc (all_apart site (before ++ o ∷ []) os its fit.1 rest j k a b at at' is)

pub record AllFitSite (site : PointRules) (its : List Schedule) : Type 0 where
  pub fits : (k : ℕ) (it : Schedule) → slice_get its k ≡ Some it → Fits site it
  pub apart : Apart its

pub schedules_fit : (site : PointRules) (doc : Object) (its : List Schedule) → offences site doc ≡ [] → map week its ≡ map week_of (listed_in (codes "schedules") doc) → AllFitSite site its
schedules_fit site doc its form same =
    let fit = file_fits site doc form in
    record { fits = all_weeks site [] (listed_in (codes "schedules") doc) its fit same; apart = all_apart site [] (listed_in (codes "schedules") doc) its fit same }
