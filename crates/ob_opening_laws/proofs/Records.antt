-- The records of an opened state.
use Rattle.std.proofs.Common.{◌≡◌, ℕ, ◌≤◌, max, arith, Bool, true, false, cond, ◌&&◌, codes, IsTrue, List, [], ◌∷◌, map, flat_map, Option, Some, None, refl, sym, ap, ap₂, subst, true≢false}
use Rattle.std.specs.Prelude.{option_and_then}
use Rattle.std.specs.List.{AllByRecursion}
use Rattle.url.specs.Parts.{Parts}
use Rattle.ob_times.specs.Times.{Instant}
use Rattle.ob_object.specs.declared.kind.Kind.{Kind}
use Rattle.ob_object.specs.declared.kind.Kind.TheVariants as kind
use Rattle.ob_object.specs.declared.head.Slot.{Slot}
use Rattle.ob_object.specs.declared.head.Slot.TheVariants.{Absent, Null, Is}
use Rattle.ob_object.specs.Kinds.{same_kind, has_values}
use Rattle.ob_object.specs.Fits.{fits_slot}
use Rattle.ob_object.specs.Object.{Object}
use Rattle.ob_object.specs.WellFormed.{IsWellFormed}
use Rattle.ob_contracts.specs.Inherit.{Contracts, slot_or_default}
use Rattle.ob_history.specs.declared.records.Record.{Record}
use Rattle.ob_history.specs.Records.{InOrder, IsRecord, holds_value}
use Rattle.ob_hrefs.specs.Hrefs.{site_path, made_object}
use Rattle.ob_site_rules.specs.Build.{Text, Path, child}
use Rattle.ob_site_rules.specs.State.{Log, rolled, rolled_logs}
use Rattle.ob_site_rules.specs.Sites.{SiteState}
use Rattle.ob_site_rules.specs.Roles.{no_roles, all_roles}
use Rattle.ob_site_rules.specs.Opening.{standard_words}
use Rattle.ob_site_rules.specs.Loading.{Part, row_of, kept_root, parts_of, path_of, histories_in, items_of, record_from, record_in, records_of, value_of_record, time_of, child_of, opened, ms_up, greatest}
use Rattle.ob_step_laws.specs.Ordered.{IsBy, whole_log, whole_logs, opening_time}
use Rattle.ob_step_laws.proofs.Lists.{each_first, each_second, each_more, each_map, each_filter, each_filter_map}
use Rattle.ob_step_laws.proofs.Sound.{Sound, slot_fits, formed_sound, made_differ, made_sound}
use Rattle.ob_step_laws.proofs.Rules.{InnerSound, items_sound, PartSound, parts_sound, FitsIfThere, child_fits}
use Rattle.ob_step_laws.proofs.Records.{HasGood, records_good, rolled_kept, each_drop}
use Rattle.ob_step_laws.proofs.Times.{not_after}
use Rattle.ob_step_laws.proofs.Ordered.{opens_in_time, greatest_first}
use Rattle.ob_step_laws.proofs.Begins.{Begins, begins, words_of}
use Rattle.ob_step_laws.proofs.Inverted.{Opens}
use Rattle.ob_opening_laws.specs.Records.{EachLog, HoldsRecords, HasRecords, OpensRecords}

-- what a slot that fits a kind with values stands for is null or a value of it
default_held : (k : Kind) → has_values k ≡ true → IsTrue (has_values k && holds_value k (slot_or_default k Absent))
default_held kind.Bool h = refl
default_held kind.Int h = refl
default_held kind.Real h = refl
default_held kind.Str h = refl
default_held kind.Enum h = refl
default_held kind.Uri h = refl
default_held kind.Abstime h = refl
default_held kind.Reltime h = refl
default_held kind.Date h = refl
default_held kind.Time h = refl
default_held kind.Obj h = absurd (true≢false (sym h))
default_held kind.List h = absurd (true≢false (sym h))
default_held kind.Op h = absurd (true≢false (sym h))
default_held kind.Feed h = absurd (true≢false (sym h))
default_held kind.Ref h = absurd (true≢false (sym h))
default_held kind.Err h = absurd (true≢false (sym h))

slot_held : (k : Kind) (s : Slot) → has_values k ≡ true → IsTrue (fits_slot k s) → IsTrue (has_values k && holds_value k (slot_or_default k s))
slot_held k Absent h f = default_held k h
slot_held k Null h f = ap (λ b. b && true) h
slot_held k (Is v) h f = ap₂ (λ a b. a && b) h f

none_some : (r : Record) → None ≡ Some r → ⊥
none_some r e = cc

-- the record of a time and a child is one
from_value : (t : Option Instant) (v : Object) (r : Record) → has_values v.head.kind ≡ true → IsTrue (fits_slot v.head.kind v.head.slot) → record_from t (Some v) ≡ Some r → IsRecord r
from_value None v r is fits e = absurd (none_some r e)
from_value (Some t) v r is fits e =
    let made : Record = record { time = t; kind = v.head.kind; slot = slot_or_default v.head.kind v.head.slot } in
    let f : Some made ≡ Some r = e in
    let same : made ≡ r = cc in
    subst IsRecord same (slot_held v.head.kind v.head.slot is fits)

from_none : (t : Option Instant) (r : Record) → record_from t None ≡ Some r → ⊥
from_none None r e = none_some r e
from_none (Some t) r e = none_some r e

from_child : (t : Option Instant) (c : Option Object) (r : Record) → FitsIfThere c
    → record_from t (option_and_then (λ (v : Object). cond (has_values v.head.kind) (Some v) None) c) ≡ Some r → IsRecord r
from_child t None r fits e = absurd (from_none t r e)
from_child t (Some v) r fits e = go (has_values v.head.kind) refl e
  where
    go : (b : Bool) → has_values v.head.kind ≡ b → record_from t (cond b (Some v) None) ≡ Some r → IsRecord r
    go true is g = from_value t v r is fits g
    go false is g = absurd (from_none t r g)

in_item : (o : Object) (r : Record) → Sound o.inner → record_in o ≡ Some r → IsRecord r
in_item o r s h = go (same_kind o.head.kind kind.Obj) h
  where
    time : Option Instant
    time = option_and_then (λ (t : Object). time_of t.head.slot) (child_of (codes "timestamp") kind.Abstime o)

    go : (b : Bool) → cond b (record_from (option_and_then (λ (t : Object). time_of t.head.slot) (child_of (codes "timestamp") kind.Abstime o)) (value_of_record o)) None ≡ Some r → IsRecord r
    go true g = from_child time (child (codes "value") o) r (child_fits (codes "value") o.inner s) g
    go false g = absurd (none_some r g)

abbrev AreRecords : Part → Type 0
AreRecords q = AllByRecursion IsRecord (records_of q)

part_records : (q : Part) → PartSound q → AreRecords q
part_records q s =
    each_filter_map IsRecord (λ (i : ℕ × Object). record_in i.1) (items_of (codes "data") q)
    (each_more InnerSound (λ (i : ℕ × Object). (r : Record) → record_in i.1 ≡ Some r → IsRecord r) (items_of (codes "data") q) (λ i t r h. in_item i.1 r t h)
    (items_sound (codes "data") q s))

by_time : (n : ℕ) (rs : List Record) → AllByRecursion (IsBy (greatest n (map (λ (r : Record). ms_up r.time) rs))) rs
by_time n [] = tt
by_time n (r ∷ rs) =
    let m : ℕ = max n (ms_up r.time) in
    let all : List ℕ = map (λ (x : Record). ms_up x.time) rs in
    let e : ms_up r.time ≤ greatest m all = omega (arith, greatest_first m all) in
    (λ small. not_after r.time (greatest m all) small e, by_time m rs)

-- the records of each part are by the time of all
each_of_flat : (P : Record → Type 0) (hs : List Part) → AllByRecursion P (flat_map records_of hs) → AllByRecursion (λ (q : Part). AllByRecursion P (records_of q)) hs
each_of_flat P [] e = tt
each_of_flat P (q ∷ hs) e = (each_first P (records_of q) (flat_map records_of hs) e, each_of_flat P hs (each_second P (records_of q) (flat_map records_of hs) e))

each_is : {A : Type 0} (P : A → Type 0) (xs : List A) → ((x : A) → P x) → AllByRecursion P xs
each_is P [] f = tt
each_is P (x ∷ xs) f = (f x, each_is P xs f)

-- what holds of the log of each history
log_each : (P : Log → Type 0) (hs : List Part) → AllByRecursion (λ (q : Part). P (whole_log q)) hs → EachLog P (map (λ q. (path_of q, whole_log q)) hs)
log_each P hs e = each_map (λ (l : Path × Log). P l.1) (λ q. (path_of q, whole_log q)) hs e

rolls_each : (hs : List Part) → rolled_logs (map (λ q. (path_of q, whole_log q)) hs) ≡ map (λ q. (path_of q, rolled (whole_log q))) hs
rolls_each [] = refl
rolls_each (q ∷ hs) = ap (λ (ls : List (Path × Log)). (path_of q, rolled (whole_log q)) ∷ ls) (rolls_each hs)

module _ (base : Parts) (r : Path) (boot : ℕ) (lib words : Contracts) (root : Object) where
  abbrev ps : List Part
  ps = parts_of (all_roles words root) 0 false no_roles (row_of root)

  abbrev made : SiteState
  made = opened base r boot lib root (kept_root (all_roles words root) root) ps

  made_records : Sound (row_of root) → AllByRecursion HasGood (histories_in ps) → opening_time boot (whole_logs ps) ≡ made.world.time → HasRecords boot made
  made_records sound good time =
      let hs : List Part = histories_in ps in
      let now : ℕ = made.world.time in
      let each : AllByRecursion AreRecords hs =
      each_more PartSound AreRecords hs part_records (each_filter PartSound (λ (q : Part). q.roles.history) ps (parts_sound (all_roles words root) 0 false no_roles (row_of root) sound)) in
      record {
        whole = whole_logs ps;
        rolls = rolls_each hs;
        none_gone = log_each (λ l. l.gone ≡ 0) hs (each_is (λ (q : Part). (whole_log q).gone ≡ 0) hs (λ q. refl));
        records = log_each HoldsRecords hs each;
        in_order = log_each (λ l. InOrder l.kept) hs (each_more HasGood (λ (q : Part). InOrder (records_of q)) hs (λ q g. g.order) good);
        in_time = log_each (λ l. AllByRecursion (IsBy now) l.kept) hs (each_of_flat (IsBy now) hs (by_time boot (flat_map records_of hs)));
        time = sym time;
        kept = each_map (λ (l : Path × Log). HoldsRecords l.1) (λ q. (path_of q, rolled (whole_log q))) hs
            (each_more AreRecords (λ (q : Part). HoldsRecords (rolled (whole_log q))) hs (λ q e. rolled_kept (AllByRecursion IsRecord) (each_drop IsRecord) _ (records_of q) e) each);
      }

  pub opened_records : (st : SiteState) → Sound (row_of root) → Opens base r boot lib words root st → HasRecords boot st
  opened_records st sound o =
      subst (HasRecords boot) o.is (made_records sound (records_good ps o.good) (opens_in_time ps o.good boot))

made_row_sound : (resolve : Text → Option Path) (href : Option Path) (root : Object) → IsWellFormed root → Sound (row_of (made_object resolve href root))
made_row_sound resolve href root w =
    (slot_fits root.head w.head_fits, made_differ resolve root.inner w.names_differ, made_sound resolve root.inner (formed_sound root.inner w.row), tt)

pub opens_records : OpensRecords
opens_records root boot st w h =
    let b : Begins root boot st = begins root boot st h in
    let m : Object = made_object (site_path b.base) (Some b.base.path) root in
    opened_records b.base b.base.path boot b.lib (words_of standard_words m) m st (made_row_sound (site_path b.base) (Some b.base.path) root w) b.opens
