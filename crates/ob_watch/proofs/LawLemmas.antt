-- The marked watches are the watches of the whole site.
use Rattle.std.proofs.Common.{◌≡◌, ℕ, zero, suc, ◌+◌, ◌-◌, ◌≤◌, ◌==◌, Bool, true, false, cond, not, ◌||◌, max, List, [], ◌∷◌, ◌++◌, map, length, drop, filter, refl, sym, ap, ap₂, ◌∙◌, arith}
use Rattle.std.specs.Prelude.{Option, Some, None, option_and_then, option_map, nat_lt, nat_le, slice_get, unwrap_or, replicate}
use Rattle.std.specs.List.{AllByRecursion, list_any}
use Rattle.std.specs.Str.{bytes_eq}
use Rattle.std.proofs.lemmas.Bool.Decides.{nat_tests}
use Rattle.std.proofs.lemmas.Slice.Eq.{bytes_eq-Decides}
use Rattle.ob_object.specs.Object as object
use Rattle.ob_object.specs.Object.{parts}
use Rattle.ob_history.specs.declared.records.Filter.{Filter}
use Rattle.ob_tree.specs.Trees.{Stamped}
use Rattle.ob_watching.specs.Operations.{Lists, Shows}
use Rattle.ob_watching.specs.Tables.{least, lesser, lookup, replace, numbers_of}
use Rattle.ob_watching.specs.Watches.{ItemOf, WatchOf, Reading, count, settled_at, reported, reported_now, changes_of, lists_some, Distinct, Room, since}
use Rattle.ob_watching.specs.Watches as rules
use Rattle.ob_site_rules.specs.Entries.{is_within}
use Rattle.ob_site_rules.specs.declared.plan.Plan.{Plan}
use Rattle.ob_site_rules.specs.State.{State}
use Rattle.ob_watch.specs.declared.item.Tracked.{Tracked}
use Rattle.ob_watch.specs.declared.item.Tracked.TheVariants.{Object, Feed}
use Rattle.ob_watch.specs.declared.item.Item.{Item}
use Rattle.ob_watch.specs.AsRules.{TablesAgree, ItemsAgree, ReportsAgree, AsRules, fault_of}
use Rattle.ob_watch.specs.declared.fault.WatchFault.TheVariants.{ItemsFull, AllItemsFull, AllBytesFull}
use Rattle.ob_watch.specs.Adding.{refusal}
use Rattle.ob_watch.specs.OfPlan.{of_plan}
use Rattle.ob_watch.specs.Fed.{IsFedBy, IsFeedOf}
use Rattle.ob_watch.specs.Feeds.{FeedLog, ever, feed_at, has_news}
use Rattle.ob_watch.specs.Flags.{flags, flag_of, flagged, flags_of, anew}
use Rattle.ob_watch.specs.Items.{Text, Differ, among, bytes_of, has_text, is_due_by, anew_by, put_item, reported_by, stamp_of}
use Rattle.ob_watch.specs.Marks.{AreStampsPast, IsMarkPastBy, IsStampedNextBy}
use Rattle.ob_watch.specs.Tables.{Leased, bytes_in_all, idlest, is_full_watch, is_idle, is_over, items_in_all, lacks_room, live, new_watch, room_left, yielding}
use Rattle.ob_watch.proofs.NewsLemmas.{any_same, as_many, none_pass, some_pass}

abbrev Flagged : Type 0
Flagged = WatchOf Text Text Filter

-- ---- the table

module _ (t : Stamped) where
  looks_up_flags : (n : ℕ) (ws : List (ℕ × Leased)) → lookup n (flags_of t ws) ≡ option_map (flagged t) (lookup n ws)
  looks_up_flags n [] = refl
  looks_up_flags n (w ∷ ws) = go (w.0 == n) (looks_up_flags n ws)
    where
      go : (b : Bool) → lookup n (flags_of t ws) ≡ option_map (flagged t) (lookup n ws) → cond b (Some (flagged t w.1)) (lookup n (flags_of t ws)) ≡ option_map (flagged t) (cond b (Some w.1) (lookup n ws))
      go true rest = refl
      go false rest = rest

  numbers_of_flags : (ws : List (ℕ × Leased)) → numbers_of (flags_of t ws) ≡ numbers_of ws
  numbers_of_flags [] = refl
  numbers_of_flags (w ∷ ws) = ap (λ (ns : List ℕ). w.0 ∷ ns) (numbers_of_flags ws)

  length_of_flags : (ws : List (ℕ × Leased)) → length (flags_of t ws) ≡ length ws
  length_of_flags [] = refl
  length_of_flags (w ∷ ws) = ap suc (length_of_flags ws)

  push_flags : (ws : List (ℕ × Leased)) (w : ℕ × Leased) → flags_of t (ws ++ w ∷ []) ≡ flags_of t ws ++ (w.0, flagged t w.1) ∷ []
  push_flags [] w = refl
  push_flags (x ∷ xs) w = ap (λ (fs : List (ℕ × Flagged)). (x.0, flagged t x.1) ∷ fs) (push_flags xs w)

  replace_flags : (n : ℕ) (o : Option Leased) (ws : List (ℕ × Leased)) → replace n (option_map (flagged t) o) (flags_of t ws) ≡ flags_of t (replace n o ws)
  replace_flags n None [] = refl
  replace_flags n (Some v) [] = refl
  replace_flags n None (w ∷ ws) = go (w.0 == n) (replace_flags n None ws)
    where
      go : (b : Bool) → replace n None (flags_of t ws) ≡ flags_of t (replace n None ws)
          → cond b (replace n None (flags_of t ws)) ((w.0, flagged t w.1) ∷ replace n None (flags_of t ws)) ≡ flags_of t (cond b (replace n None ws) (w ∷ replace n None ws))
      go true rest = rest
      go false rest = ap (λ (fs : List (ℕ × Flagged)). (w.0, flagged t w.1) ∷ fs) rest
  replace_flags n (Some v) (w ∷ ws) = go (w.0 == n) (replace_flags n (Some v) ws)
    where
      go : (b : Bool) → replace n (Some (flagged t v)) (flags_of t ws) ≡ flags_of t (replace n (Some v) ws)
          → (w.0, cond b (flagged t v) (flagged t w.1)) ∷ replace n (Some (flagged t v)) (flags_of t ws) ≡ (w.0, flagged t (cond b v w.1)) ∷ flags_of t (replace n (Some v) ws)
      go true rest = ap (λ (fs : List (ℕ × Flagged)). (w.0, flagged t v) ∷ fs) rest
      go false rest = ap (λ (fs : List (ℕ × Flagged)). (w.0, flagged t w.1) ∷ fs) rest

  live_flags : (plan : Plan) (now : ℕ) (ws : List (ℕ × Leased)) → filter (λ e. not (rules.has_lapsed (of_plan plan) now e.1)) (flags_of t ws) ≡ flags_of t (live now ws)
  live_flags plan now [] = refl
  live_flags plan now (w ∷ ws) = go (is_over now w.1) (live_flags plan now ws)
    where
      go : (b : Bool) → filter (λ e. not (rules.has_lapsed (of_plan plan) now e.1)) (flags_of t ws) ≡ flags_of t (live now ws)
          → cond (not b) ((w.0, flagged t w.1) ∷ filter (λ e. not (rules.has_lapsed (of_plan plan) now e.1)) (flags_of t ws)) (filter (λ e. not (rules.has_lapsed (of_plan plan) now e.1)) (flags_of t ws))
          ≡ flags_of t (cond (not b) (w ∷ live now ws) (live now ws))
      go true rest = rest
      go false rest = ap (λ (fs : List (ℕ × Flagged)). (w.0, flagged t w.1) ∷ fs) rest

  -- ---- what watches leave of what all may have, and who gives way

  length_flags : (items : List Item) → length (map (flags t) items) ≡ length items
  length_flags [] = refl
  length_flags (x ∷ xs) = ap suc (length_flags xs)

  bytes_flags : (plan : Plan) (items : List Item) → rules.bytes_of (of_plan plan) (map (flags t) items) ≡ bytes_of items
  bytes_flags plan [] = refl
  bytes_flags plan (x ∷ xs) = ap (λ n. length x.text + n) (bytes_flags plan xs)

  items_all_flags : (plan : Plan) (ws : List (ℕ × Leased)) → rules.items_in_all (of_plan plan) (flags_of t ws) ≡ items_in_all ws
  items_all_flags plan [] = refl
  items_all_flags plan (w ∷ ws) = ap₂ (λ (a b : ℕ). a + b) (length_flags w.1.items) (items_all_flags plan ws)

  bytes_all_flags : (plan : Plan) (ws : List (ℕ × Leased)) → rules.bytes_in_all (of_plan plan) (flags_of t ws) ≡ bytes_in_all ws
  bytes_all_flags plan [] = refl
  bytes_all_flags plan (w ∷ ws) = ap₂ (λ (a b : ℕ). a + b) (bytes_flags plan w.1.items) (bytes_all_flags plan ws)

  room_flags : (plan : Plan) (ws : List (ℕ × Leased)) → rules.room_left (of_plan plan) (flags_of t ws) ≡ room_left ws
  room_flags plan ws i = record { items = rules.max_items_in_all - items_all_flags plan ws i; bytes = rules.max_bytes_in_all - bytes_all_flags plan ws i }

  lacks_flags : (plan : Plan) (ws : List (ℕ × Leased)) → rules.lacks_room (of_plan plan) (flags_of t ws) ≡ lacks_room ws
  lacks_flags plan ws =
      ap₂ (λ (n : ℕ) (r : Room). nat_le rules.max_watches n || (nat_lt r.items rules.max_items || nat_lt r.bytes rules.max_bytes)) (length_of_flags ws) (room_flags plan ws)

  -- an entry as the definitions have it
  abbrev as_flagged : ℕ × Leased → ℕ × Flagged
  as_flagged w = (w.0, flagged t w.1)

  idle_flags : (plan : Plan) (now : ℕ) (ws : List (ℕ × Leased)) → filter (λ e. rules.is_idle (of_plan plan) now e.1) (flags_of t ws) ≡ flags_of t (filter (λ e. is_idle now e.1) ws)
  idle_flags plan now [] = refl
  idle_flags plan now (w ∷ ws) = go (is_idle now w.1) (idle_flags plan now ws)
    where
      go : (b : Bool) → filter (λ e. rules.is_idle (of_plan plan) now e.1) (flags_of t ws) ≡ flags_of t (filter (λ e. is_idle now e.1) ws)
          → cond b (as_flagged w ∷ filter (λ e. rules.is_idle (of_plan plan) now e.1) (flags_of t ws)) (filter (λ e. rules.is_idle (of_plan plan) now e.1) (flags_of t ws))
          ≡ flags_of t (cond b (w ∷ filter (λ e. is_idle now e.1) ws) (filter (λ e. is_idle now e.1) ws))
      go true rest = ap (λ (fs : List (ℕ × Flagged)). as_flagged w ∷ fs) rest
      go false rest = rest

  least_flags : (ws : List (ℕ × Leased)) → least (λ v. v.touched) (flags_of t ws) ≡ option_map as_flagged (least (λ v. v.touched) ws)
  least_flags [] = refl
  least_flags (w ∷ ws) = ap (λ (o : Option (ℕ × Flagged)). Some (lesser (λ v. v.touched) (as_flagged w) o)) (least_flags ws) ∙ ap Some (go (least (λ v. v.touched) ws))
    where
      go : (o : Option (ℕ × Leased)) → lesser (λ v. v.touched) (as_flagged w) (option_map as_flagged o) ≡ as_flagged (lesser (λ v. v.touched) w o)
      go None = refl
      go (Some other) = either (nat_lt other.1.touched w.1.touched)
        where
          either : (b : Bool) → cond b (as_flagged other) (as_flagged w) ≡ as_flagged (cond b other w)
          either true = refl
          either false = refl

  idlest_flags : (plan : Plan) (now : ℕ) (ws : List (ℕ × Leased)) → rules.idlest (of_plan plan) now (flags_of t ws) ≡ idlest now ws
  idlest_flags plan now ws =
      ap (λ (fs : List (ℕ × Flagged)). option_map (λ e. e.0) (least (λ v. v.touched) fs)) (idle_flags plan now ws)
      ∙ ap (option_map (λ e. e.0)) (least_flags (filter (λ e. is_idle now e.1) ws))
      ∙ go (least (λ v. v.touched) (filter (λ e. is_idle now e.1) ws))
    where
      go : (o : Option (ℕ × Leased)) → option_map (λ e. e.0) (option_map as_flagged o) ≡ option_map (λ e. e.0) o
      go None = refl
      go (Some e) = refl

  yielding_flags : (plan : Plan) (most now : ℕ) (ws : List (ℕ × Leased)) → rules.yielding (of_plan plan) most now (flags_of t ws) ≡ flags_of t (yielding most now ws)
  yielding_flags plan zero now ws = refl
  yielding_flags plan (suc most) now ws =
      ap₂ (λ (b : Bool) (o : Option ℕ). cond b (unwrap_or (option_map (λ n. rules.yielding (of_plan plan) most now (replace n None (flags_of t ws))) o) (flags_of t ws)) (flags_of t ws)) (lacks_flags plan ws) (idlest_flags plan now ws)
      ∙ go (lacks_room ws) (idlest now ws) (yielding_flags plan most now)
    where
      go : (b : Bool) (o : Option ℕ) → ((vs : List (ℕ × Leased)) → rules.yielding (of_plan plan) most now (flags_of t vs) ≡ flags_of t (yielding most now vs))
          → cond b (unwrap_or (option_map (λ n. rules.yielding (of_plan plan) most now (replace n None (flags_of t ws))) o) (flags_of t ws)) (flags_of t ws)
          ≡ flags_of t (cond b (unwrap_or (option_map (λ n. yielding most now (replace n None ws)) o) ws) ws)
      go false o rest = refl
      go true None rest = refl
      go true (Some n) rest = ap (rules.yielding (of_plan plan) most now) (replace_flags n None ws) ∙ rest (replace n None ws)

  yields_flags : (plan : Plan) (now : ℕ) (ws : List (ℕ × Leased)) → rules.yielding (of_plan plan) (length (flags_of t ws)) now (flags_of t ws) ≡ flags_of t (yielding (length ws) now ws)
  yields_flags plan now ws = ap (λ n. rules.yielding (of_plan plan) n now (flags_of t ws)) (length_of_flags ws) ∙ yielding_flags plan (length ws) now ws

pub tables_agree : (plan : Plan) (t : Stamped) → TablesAgree plan t
tables_agree plan t = record {
  begins = λ time s table moment i. record { time = max time moment; site = s; next = table.next; watches = live_flags t plan (max time moment) table.watches i };
  looks_up = λ n ws. looks_up_flags t n ws;
  numbers = λ ws. numbers_of_flags t ws;
  full = λ time s table. ap (λ n. nat_le rules.max_watches n || nat_lt rules.last_number table.next) (length_of_flags t table.watches);
  yields = λ time s table i. record { time = time; site = s; next = table.next; watches = yields_flags t plan time table.watches i };
  room = λ n ws. ap (rules.room_left (of_plan plan)) (replace_flags t n None ws) ∙ room_flags t plan (replace n None ws);
  makes = λ time s table i. record { time = time; site = s; next = table.next + 1; watches = sym (push_flags t table.watches (table.next, new_watch time)) i };
  replaces = λ n o ws. replace_flags t n o ws;
}

-- ---- the items of a watch

module _ (plan : Plan) (t : Stamped) where
  abbrev Shown : Type 0
  Shown = ItemOf Text Text Filter

  put_flags : (i : Item) (items : List Item) → rules.put_item (of_plan plan) (flags t i) (map (flags t) items) ≡ map (flags t) (put_item i items)
  put_flags i [] = refl
  put_flags i (x ∷ xs) = go (bytes_eq x.text i.text) (put_flags i xs)
    where
      go : (b : Bool) → rules.put_item (of_plan plan) (flags t i) (map (flags t) xs) ≡ map (flags t) (put_item i xs)
          → cond b (flags t i ∷ map (flags t) xs) (flags t x ∷ rules.put_item (of_plan plan) (flags t i) (map (flags t) xs)) ≡ map (flags t) (cond b (i ∷ xs) (x ∷ put_item i xs))
      go true rest = refl
      go false rest = ap (λ (fs : List Shown). flags t x ∷ fs) rest

  has_flags : (items : List Item) (text : Text) → rules.has_text (of_plan plan) (map (flags t) items) text ≡ has_text items text
  has_flags [] text = refl
  has_flags (x ∷ xs) text = ap (λ b. bytes_eq x.text text || b) (has_flags xs text)

  refused_flags : (room : Room) (w : Leased) (text : Text) → rules.refusal (of_plan plan) room (map (flags t) w.items) text ≡ option_and_then (fault_of plan) (refusal room w text)
  refused_flags room w text =
      ap₂ (λ (b : Bool) (n : ℕ). cond b None (cond (nat_le rules.max_items n) (Some (of_plan plan).too_many_items) (cond (nat_le room.items n) (Some (of_plan plan).too_many_in_all)
      (cond (nat_lt room.bytes (rules.bytes_of (of_plan plan) (map (flags t) w.items) + length text)) (Some (of_plan plan).too_many_bytes) None)))) (has_flags w.items text) (length_flags t w.items)
      ∙ ap (λ n. cond (has_text w.items text) None (cond (is_full_watch w) (Some (of_plan plan).too_many_items) (cond (nat_le room.items (length w.items)) (Some (of_plan plan).too_many_in_all)
      (cond (nat_lt room.bytes (n + length text)) (Some (of_plan plan).too_many_bytes) None)))) (bytes_flags t plan w.items)
      ∙ go (has_text w.items text) (is_full_watch w) (nat_le room.items (length w.items)) (nat_lt room.bytes (bytes_of w.items + length text))
    where
      go : (a b c d : Bool) → cond a None (cond b (Some (of_plan plan).too_many_items) (cond c (Some (of_plan plan).too_many_in_all) (cond d (Some (of_plan plan).too_many_bytes) None)))
          ≡ option_and_then (fault_of plan) (cond a None (cond b (Some ItemsFull) (cond c (Some AllItemsFull) (cond d (Some AllBytesFull) None))))
      go true b c d = refl
      go false true c d = refl
      go false false true d = refl
      go false false false true = refl
      go false false false false = refl

  filter_flags : (texts : List Text) (items : List Item) → filter (λ i. not (rules.among (of_plan plan) texts i.text)) (map (flags t) items) ≡ map (flags t) (filter (λ i. not (among texts i.text)) items)
  filter_flags texts [] = refl
  filter_flags texts (x ∷ xs) = go (among texts x.text) (filter_flags texts xs)
    where
      go : (b : Bool) → filter (λ i. not (rules.among (of_plan plan) texts i.text)) (map (flags t) xs) ≡ map (flags t) (filter (λ i. not (among texts i.text)) xs)
          → cond (not b) (flags t x ∷ filter (λ i. not (rules.among (of_plan plan) texts i.text)) (map (flags t) xs)) (filter (λ i. not (rules.among (of_plan plan) texts i.text)) (map (flags t) xs))
          ≡ map (flags t) (cond (not b) (x ∷ filter (λ i. not (among texts i.text)) xs) (filter (λ i. not (among texts i.text)) xs))
      go true rest = rest
      go false rest = ap (λ (fs : List Shown). flags t x ∷ fs) rest

  all_flags : (text : Text) (items : List Item) → AllByRecursion (λ (other : Item). bytes_eq text other.text ≡ false) items
      → AllByRecursion (λ (other : Shown). bytes_eq text other.text ≡ false) (map (flags t) items)
  all_flags text [] all = tt
  all_flags text (x ∷ xs) all = (all.0, all_flags text xs all.1)

  differ_flags : (items : List Item) → Differ items → Distinct (of_plan plan) (map (flags t) items)
  differ_flags [] differ = tt
  differ_flags (x ∷ xs) differ = (all_flags x.text xs differ.0, differ_flags xs differ.1)

pub items_agree : (plan : Plan) (t : Stamped) → ItemsAgree plan t
items_agree plan t = record {
  puts = λ i items. put_flags plan t i items;
  has = λ items text. has_flags plan t items text;
  refuses = λ room w text. refused_flags plan t room w text;
  removes = λ texts items. filter_flags plan t texts items;
  differ = λ items differ. differ_flags plan t items differ;
}

-- ---- what is reported

not_below : (stamp steps : ℕ) → stamp ≤ steps → nat_lt steps stamp ≡ false
not_below stamp steps le = grind (arith, nat_tests)

module _ (plan : Plan) (t : Stamped) (feeds : List FeedLog) where
  all_counted : (s : State) (path : Text) (l : FeedLog) → Filter → IsFeedOf plan s path l → ever l ≡ count (of_plan plan) s path
  all_counted s path l f is =
      ap₂ (λ (a b : ℕ). a + b) is.gone (sym (as_many ((of_plan plan).passes f) (is_within f) ((of_plan plan).events s path) l.times (is.passing f)))

  report_flag : AreStampsPast t → (s : State) (path : Text) (k : Tracked) → IsFedBy plan s feeds path k → reported_now (of_plan plan) s path (flag_of t k) ≡ flag_of t (reported_by t.steps feeds k)
  report_flag past s path (Object node mark) is = ap (λ b. rules.Object b) (sym (not_below (stamp_of t node.number) t.steps (past node.number)))
  report_flag past s path (Feed feed filter given) is = ap (λ n. rules.Feed filter n) (sym (all_counted s path (feed_at feeds feed) filter is))

  -- whether there is news of a feed, of its events
  news_of : (s : State) (path : Text) (l : FeedLog) (f : Filter) (given : ℕ) → IsFeedOf plan s path l
      → has_news l given f ≡ (nat_lt given ((of_plan plan).gone s path) || list_any ((of_plan plan).passes f) (since (of_plan plan) s path given))
  news_of s path l f given is =
      ap (λ g. nat_lt given g || list_any (is_within f) (drop (given - g) l.times)) is.gone
      ∙ ap (λ b. nat_lt given ((of_plan plan).gone s path) || b)
      (sym (any_same ((of_plan plan).passes f) (is_within f) (given - (of_plan plan).gone s path) ((of_plan plan).events s path) l.times (is.passing f)))

  abbrev Answer : Type 0
  Answer = Reading (of_plan plan)

  lists_one : (text path : Text) (dropped : ℕ) (es : List object.Object) → dropped ≡ 0 → es ≡ [] → lists_some (of_plan plan) text path dropped es ≡ []
  lists_one text path dropped es zero_dropped empty = ap₂ (λ (n : ℕ) (xs : List object.Object). lists_some (of_plan plan) text path n xs) zero_dropped empty

  changes_none : (s : State) (text path : Text) (k : Tracked) → IsFedBy plan s feeds path k → is_due_by t feeds k ≡ false → changes_of (of_plan plan) s text path (flag_of t k) ≡ []
  changes_none s text path (Object node mark) is due = ap (λ b. changes_of (of_plan plan) s text path (rules.Object b)) due
  changes_none s text path (Feed feed f given) is none =
      go (nat_lt given ((of_plan plan).gone s path)) refl (sym (news_of s path (feed_at feeds feed) f given is) ∙ none)
    where
      go : (b : Bool) → nat_lt given ((of_plan plan).gone s path) ≡ b → (b || list_any ((of_plan plan).passes f) (since (of_plan plan) s path given)) ≡ false
          → lists_some (of_plan plan) text path ((of_plan plan).gone s path - given) (filter ((of_plan plan).passes f) (since (of_plan plan) s path given)) ≡ []
      go true lost quiet = absurd (let e : true ≡ false = quiet in cc)
      go false lost quiet =
          lists_one text path ((of_plan plan).gone s path - given) (filter ((of_plan plan).passes f) (since (of_plan plan) s path given))
          (let le : (of_plan plan).gone s path ≤ given = grind (arith, nat_tests) in omega (arith, le)) (none_pass ((of_plan plan).passes f) (since (of_plan plan) s path given) quiet)

  one_listed : (text path : Text) (dropped : ℕ) (es : List object.Object) → nat_lt 0 dropped ≡ true → (r : Answer) × (lists_some (of_plan plan) text path dropped es ≡ r ∷ [])
  one_listed text path zero es some = absurd (let f : false ≡ true = some in cc)
  one_listed text path (suc n) es some = (record { text = text; content = Lists ((of_plan plan).feed path) (suc n) es }, refl)

  some_listed : (text path : Text) (dropped : ℕ) (y : object.Object) (ys : List object.Object) → (r : Answer) × (lists_some (of_plan plan) text path dropped (y ∷ ys) ≡ r ∷ [])
  some_listed text path zero y ys = (record { text = text; content = Lists ((of_plan plan).feed path) zero (y ∷ ys) }, refl)
  some_listed text path (suc n) y ys = (record { text = text; content = Lists ((of_plan plan).feed path) (suc n) (y ∷ ys) }, refl)

  listed : (text path : Text) (dropped : ℕ) (es fs : List object.Object) → es ≡ fs → (r : Answer) × (lists_some (of_plan plan) text path dropped fs ≡ r ∷ []) → (r : Answer) × (lists_some (of_plan plan) text path dropped es ≡ r ∷ [])
  listed text path dropped es fs same given = (given.0, ap (lists_some (of_plan plan) text path dropped) same ∙ given.1)

  changes_one : (s : State) (text path : Text) (k : Tracked) → IsFedBy plan s feeds path k → is_due_by t feeds k ≡ true → (r : Answer) × (changes_of (of_plan plan) s text path (flag_of t k) ≡ r ∷ [])
  changes_one s text path (Object node mark) is due =
      (record { text = text; content = Shows ((of_plan plan).shown s path) }, ap (λ b. changes_of (of_plan plan) s text path (rules.Object b)) due)
  changes_one s text path (Feed feed f given) is due =
      go (nat_lt given ((of_plan plan).gone s path)) refl (sym (news_of s path (feed_at feeds feed) f given is) ∙ due)
    where
      go : (b : Bool) → nat_lt given ((of_plan plan).gone s path) ≡ b → (b || list_any ((of_plan plan).passes f) (since (of_plan plan) s path given)) ≡ true
          → (r : Answer) × (lists_some (of_plan plan) text path ((of_plan plan).gone s path - given) (filter ((of_plan plan).passes f) (since (of_plan plan) s path given)) ≡ r ∷ [])
      go true lost some =
          one_listed text path ((of_plan plan).gone s path - given) (filter ((of_plan plan).passes f) (since (of_plan plan) s path given)) (grind (arith, nat_tests))
      go false lost some =
          let found = some_pass ((of_plan plan).passes f) (since (of_plan plan) s path given) some in
          listed text path ((of_plan plan).gone s path - given) (filter ((of_plan plan).passes f) (since (of_plan plan) s path given)) (found.0 ∷ found.1.0) found.1.1
          (some_listed text path ((of_plan plan).gone s path - given) found.0 found.1.0)

module _ (plan : Plan) (t : Stamped) where
  below_next : (mark stamp steps : ℕ) (b : Bool) → mark ≤ steps → (nat_lt mark stamp || b) ≡ nat_lt mark (cond b (steps + 1) stamp)
  below_next mark stamp steps true le = or_true (nat_lt mark stamp) ∙ sym (let e : nat_lt mark (steps + 1) ≡ true = grind (arith, nat_tests) in e)
    where
      or_true : (a : Bool) → (a || true) ≡ true
      or_true true = refl
      or_true false = refl
  below_next mark stamp steps false le = or_false (nat_lt mark stamp)
    where
      or_false : (a : Bool) → (a || false) ≡ a
      or_false true = refl
      or_false false = refl

  settle_flag : (u : Stamped) (same : Bool) (k : Tracked) → IsMarkPastBy t.steps k → IsStampedNextBy t u k (not same) → settled_at (of_plan plan) same (flag_of t k) ≡ flag_of u k
  settle_flag u same (Object node mark) past stamped =
      ap (λ b. rules.Object b) (below_next mark (stamp_of t node.number) t.steps (not same) past ∙ ap (nat_lt mark) (sym stamped))
  settle_flag u same (Feed feed filter given) past stamped = refl

  replicated : (n k : ℕ) → nat_lt k n ≡ true → slice_get {X = ℕ} (replicate n 1) k ≡ Some 1
  replicated zero k lt = absurd (let e : nat_lt k 0 ≡ false = grind (arith, nat_tests) in let f : false ≡ true = sym e ∙ lt in cc)
  replicated (suc n) zero lt = refl
  replicated (suc n) (suc k) lt = replicated n k (grind (arith, nat_tests))

  stamp_anew : (n : ℕ) → stamp_of (anew t) n ≡ cond {A = ℕ} (nat_lt n (parts t.root)) 1 0
  stamp_anew n = go (nat_lt n (parts t.root)) refl
    where
      go : (b : Bool) → nat_lt n (parts t.root) ≡ b → cond {A = ℕ} b (unwrap_or (slice_get (replicate (parts t.root) 1) n) 0) 0 ≡ cond {A = ℕ} b 1 0
      go true is = ap (λ (o : Option ℕ). unwrap_or o 0) (replicated (parts t.root) n is)
      go false is = refl

  anew_flag : (k : Tracked) → flag_of (anew t) (anew_by t k) ≡ flag_of t k
  anew_flag (Object node mark) = ap (λ b. rules.Object b) (ap (nat_lt (cond (nat_lt mark (stamp_of t node.number)) 0 1)) (stamp_anew node.number) ∙ go (nat_lt node.number (parts t.root)))
    where
      go : (b : Bool) → nat_lt (cond (nat_lt mark (cond b (unwrap_or (slice_get t.stamps node.number) 0) 0)) 0 1) (cond b 1 0) ≡ nat_lt mark (cond b (unwrap_or (slice_get t.stamps node.number) 0) 0)
      go true = within (nat_lt mark (unwrap_or (slice_get t.stamps node.number) 0))
        where
          within : (c : Bool) → nat_lt (cond c 0 1) 1 ≡ c
          within true = refl
          within false = refl
      go false = let e : nat_lt mark 0 ≡ false = grind (arith, nat_tests) in ap (λ c. nat_lt (cond c 0 1) 0) e ∙ sym e
  anew_flag (Feed feed filter given) = refl

pub reports_agree : (plan : Plan) (t : Stamped) (feeds : List FeedLog) → ReportsAgree plan t feeds
reports_agree plan t feeds = record {
  adds = λ past text path node j. record { text = text; path = path; tracked = rules.Object (not_below (stamp_of t node.number) t.steps (past node.number) j) };
  adds_feed = λ s text path feed filter is j. record { text = text; path = path; tracked = rules.Feed filter (all_counted plan t feeds s path (feed_at feeds feed) filter is j) };
  reports = λ past s i is j. record { text = i.text; path = i.path; tracked = report_flag plan t feeds past s i.path i.tracked is j };
  due = λ s i is due. changes_one plan t feeds s i.text i.path i.tracked is due;
  not_due = λ s i is due. changes_none plan t feeds s i.text i.path i.tracked is due;
  settles = λ before after u i past stamped j. record { text = i.text; path = i.path; tracked = settle_flag plan t u _ i.tracked past stamped j };
  renumbers = λ i j. record { text = i.text; path = i.path; tracked = anew_flag plan t i.tracked j };
}

-- a text is itself
pub itself : (a : Text) → bytes_eq a a ≡ true
itself a = (bytes_eq-Decides a a).1 refl

pub as_rules : AsRules
as_rules plan t = (tables_agree plan t, (items_agree plan t, λ feeds. reports_agree plan t feeds))
