-- The steps that a poll takes, and that they are those of the objects that it reports.
use Rattle.std.proofs.Common.{◌≡◌, ℕ, ◌+◌, ◌-◌, ◌^◌, ◌<◌, ◌≤◌, Bool, true, false, cond, ◌||◌, List, [], ◌∷◌, ◌++◌, map, length, take, get_or, Option, Some, None, refl, sym, ap, ◌∙◌, subst, arith}
use Rattle.std.specs.Prelude.{min, is_none, is_some, option_map, unwrap_or, Result, Ok, Err, IfOk}
use Rattle.std.specs.List.{filter, list_all, list_any}
use Rattle.std.proofs.lemmas.List.{map-append, take_more}
use Rattle.ob_values.proofs.Bools.{and_second}
use Rattle.ob_object.specs.Object.{Object, parts, listed-in_row}
use Rattle.ob_history.specs.declared.records.Filter.{Filter}
use Rattle.ob_watching.specs.Operations.{Look, Renew, Add, Remove, PollChanges, PollRefresh, Delete, Refuse, OneWatch}
use Rattle.ob_watching.specs.Tables.{lookup}
use Rattle.ob_watching.specs.Watches.{TrackedOf, ItemOf, WatchOf, World, acted, changes, changes_of, on_watch}
use Rattle.ob_watching.specs.Watches as rules
use Rattle.ob_watching.specs.WatchOuts.{entries_of}
use Rattle.ob_site_laws.proofs.Heard.{all_hrefs}
use Rattle.ob_site_laws.proofs.Plain.{watched_plain}
use Rattle.ob_site_rules.specs.Build.{Path, Text, under_href}
use Rattle.ob_site_rules.specs.Computed.{watch_out}
use Rattle.ob_site_rules.specs.declared.request.Request.{Request}
use Rattle.ob_site_rules.specs.Replies.{Reading, entry, is_plain, sent}
use Rattle.ob_site_rules.specs.Sites.{watched_object}
use Rattle.ob_site_rules.specs.State.{State}
use Rattle.ob_site_rules.specs.declared.plan.Plan.{Plan}
use Rattle.ob_site_rules.specs.Watched.{WatchOperation}
use Rattle.ob_tree.specs.declared.node.NodeId.{NodeId}
use Rattle.ob_tree.specs.Depths.{depth_at, levels}
use Rattle.ob_tree.specs.Laid.{paths}
use Rattle.ob_tree.specs.Paths.{place_of}
use Rattle.ob_tree.specs.Shown.{row}
use Rattle.ob_tree.specs.Trees.{Stamped}
use Rattle.ob_tree.proofs.Deep.{depths_are_levels}
use Rattle.ob_tree.proofs.Within.{place_within}
use Rattle.ob_watch.specs.declared.item.Item.{Item}
use Rattle.ob_watch.specs.declared.item.Tracked.{Tracked}
use Rattle.ob_watch.specs.declared.item.Tracked.TheVariants as kept
use Rattle.ob_watch.specs.OfPlan.{of_plan}
use Rattle.ob_watch.specs.Feeds.{FeedLog}
use Rattle.ob_watch.specs.Flags.{flag_of, flagged, flags, flags_of}
use Rattle.ob_watch.specs.Items.{is_due, is_due_by}
use Rattle.ob_watch.specs.Tables.{Leased}
use Rattle.ob_watch.proofs.LawLemmas.{tables_agree}
use Rattle.ob_site_watches.specs.Polls.{Takes, WatchTakes, is_of_object, item_steps, items_in, object_entries, of_objects, poll_steps, reading_steps, refresh_steps, round_at, shown_steps, steps_for, steps_in}

plus_zero : (n : ℕ) → n + 0 ≡ n
plus_zero n = omega arith

no_more : (n : ℕ) → n ≡ n + 0
no_more n = omega arith

pub none_more : (n m : ℕ) → m ≡ 0 → n ≡ n + m
none_more n m e = omega (arith, e)

-- a fact that doesn't depend on the result
pub whatever : {A E : Type 0} (r : Result A E) (P : Type 0) → P → IfOk r (λ _. P)
whatever (Ok x) P p = p
whatever (Err e) P p = tt

-- a fact of two facts of one result
pub both : {A E : Type 0} {P Q R : A → Type 0} (r : Result A E) → ((x : A) → P x → Q x → R x) → IfOk r P → IfOk r Q → IfOk r R
both (Ok x) f p q = f x p q
both (Err e) f p q = tt

-- what was counted for an object that was read
shown_for : (plan : Plan) (s : State) (path : Path) (node : NodeId) (o : Object) (old new : ℕ) → place_of path (paths s.tree) ≡ Some node.number → o ≡ watched_object plan s path
    → new ≡ old + depth_at node.number s.tree + min (parts o) (2 ^ 64 - 1) → new ≡ old + shown_steps plan s path
shown_for plan s path node o old new placed read steps =
    let round : round_at s.tree path ≡ depth_at node.number s.tree = ap (λ (n : Option ℕ). unwrap_or (option_map (λ m. depth_at m s.tree) n) 0) placed in
    steps
    ∙ ap (λ (x : Object). old + depth_at node.number s.tree + min (parts x) (2 ^ 64 - 1)) read
    ∙ ap (λ (n : ℕ). old + n + min (parts (watched_object plan s path)) (2 ^ 64 - 1)) (sym round)
    ∙ added old (round_at s.tree path) (min (parts (watched_object plan s path)) (2 ^ 64 - 1))
  where
    added : (a b c : ℕ) → a + b + c ≡ a + (b + c)
    added a b c = omega arith

-- since it is due, or since all are read
pub object_steps : (plan : Plan) (s : State) (t : Stamped) (feeds : List FeedLog) (path : Path) (k : Tracked) (node : NodeId) (mark : ℕ) (o : Object) (old new : ℕ)
    → k ≡ kept.Object node mark → is_due_by t feeds k ≡ true → place_of path (paths s.tree) ≡ Some node.number → o ≡ watched_object plan s path
    → new ≡ old + depth_at node.number s.tree + min (parts o) (2 ^ 64 - 1) → new ≡ old + item_steps plan s path (flag_of t k)
object_steps plan s t feeds path k node mark o old new is due placed read steps =
    let below : is_due_by t feeds (kept.Object node mark) ≡ true = subst (λ (x : Tracked). is_due_by t feeds x ≡ true) is due in
    subst (λ (x : Tracked). new ≡ old + item_steps plan s path (flag_of t x)) (sym is)
    (subst (λ (b : Bool). new ≡ old + item_steps plan s path (rules.Object b)) (sym below) (shown_for plan s path node o old new placed read steps))

pub reading_object : (plan : Plan) (s : State) (t : Stamped) (path : Path) (k : Tracked) (node : NodeId) (mark : ℕ) (o : Object) (old new : ℕ)
    → k ≡ kept.Object node mark → place_of path (paths s.tree) ≡ Some node.number → o ≡ watched_object plan s path
    → new ≡ old + depth_at node.number s.tree + min (parts o) (2 ^ 64 - 1) → new ≡ old + reading_steps plan s path (flag_of t k)
reading_object plan s t path k node mark o old new is placed read steps =
    subst (λ (x : Tracked). new ≡ old + reading_steps plan s path (flag_of t x)) (sym is) (shown_for plan s path node o old new placed read steps)

pub reading_feed : (plan : Plan) (s : State) (t : Stamped) (path : Path) (k : Tracked) (feed : ℕ) (filter : Filter) (given : ℕ) (old : ℕ)
    → k ≡ kept.Feed feed filter given → old ≡ old + reading_steps plan s path (flag_of t k)
reading_feed plan s t path k feed filter given old is = subst (λ (x : Tracked). old ≡ old + reading_steps plan s path (flag_of t x)) (sym is) (no_more old)

-- for a feed nothing is counted
pub feed_steps : (plan : Plan) (s : State) (t : Stamped) (path : Path) (k : Tracked) (feed : ℕ) (filter : Filter) (given : ℕ) (old : ℕ)
    → k ≡ kept.Feed feed filter given → old ≡ old + item_steps plan s path (flag_of t k)
feed_steps plan s t path k feed filter given old is = subst (λ (x : Tracked). old ≡ old + item_steps plan s path (flag_of t x)) (sym is) (no_more old)

-- nor for what isn't due
pub idle_steps : (plan : Plan) (s : State) (t : Stamped) (feeds : List FeedLog) (path : Path) (k : Tracked) → is_due_by t feeds k ≡ false → item_steps plan s path (flag_of t k) ≡ 0
idle_steps plan s t feeds path (kept.Object node mark) idle = ap (λ (b : Bool). item_steps plan s path (rules.Object b)) idle
idle_steps plan s t feeds path (kept.Feed feed filter given) idle = refl

-- so nothing is where nothing is due
pub none_steps : (plan : Plan) (s : State) (t : Stamped) (feeds : List FeedLog) (items : List Item) → list_any (is_due t feeds) items ≡ false → poll_steps plan s (map (flags t) items) ≡ 0
none_steps plan s t feeds [] none = refl
none_steps plan s t feeds (i ∷ items) none =
    let both = none_of (is_due t feeds i) (list_any (is_due t feeds) items) none in
    nothing (item_steps plan s i.path (flag_of t i.tracked)) (poll_steps plan s (map (flags t) items)) (idle_steps plan s t feeds i.path i.tracked both.0) (none_steps plan s t feeds items both.1)
  where
    nothing : (a b : ℕ) → a ≡ 0 → b ≡ 0 → a + b ≡ 0
    nothing a b x y = omega (arith, x, y)

    none_of : (a b : Bool) → (a || b) ≡ false → (a ≡ false) × (b ≡ false)
    none_of true b none = absurd (let e : true ≡ false = none in cc)
    none_of false b none = (refl, none)

nothing_before : (n : ℕ) → n ≡ 0 + n
nothing_before n = omega arith

one_before : (a bc b c : ℕ) → bc ≡ b + c → a + bc ≡ a + b + c
one_before a bc b c e = omega (arith, e)

poll_append : (plan : Plan) (s : State) (xs ys : List (ItemOf Text Path Filter)) → poll_steps plan s (xs ++ ys) ≡ poll_steps plan s xs + poll_steps plan s ys
poll_append plan s [] ys = nothing_before (poll_steps plan s ys)
poll_append plan s (x ∷ xs) ys = one_before (item_steps plan s x.path x.tracked) (poll_steps plan s (xs ++ ys)) (poll_steps plan s xs) (poll_steps plan s ys) (poll_append plan s xs ys)

-- the steps for one more item
pub steps_more : (plan : Plan) (s : State) (t : Stamped) (items : List Item) (k : ℕ) (i : Item) (old between new : ℕ) → k < length items → i ≡ get_or items k i
    → between ≡ old + poll_steps plan s (map (flags t) (take k items)) → new ≡ between + item_steps plan s i.path (flag_of t i.tracked)
    → new ≡ old + poll_steps plan s (map (flags t) (take (k + 1) items))
steps_more plan s t items k i old between new l at before here =
    let last : poll_steps plan s (map (flags t) (i ∷ [])) ≡ item_steps plan s i.path (flag_of t i.tracked) = plus_zero (item_steps plan s i.path (flag_of t i.tracked)) in
    let all : poll_steps plan s (map (flags t) (take (k + 1) items)) ≡ poll_steps plan s (map (flags t) (take k items)) + poll_steps plan s (map (flags t) (i ∷ [])) =
    ap (λ (is : List Item). poll_steps plan s (map (flags t) is)) (take_more items k i l ∙ ap (λ (j : Item). take k items ++ j ∷ []) (sym at))
    ∙ ap (poll_steps plan s) (map-append (flags t) (take k items) (i ∷ []))
    ∙ poll_append plan s (map (flags t) (take k items)) (map (flags t) (i ∷ [])) in
    omega (arith, before, here, last, all)

refresh_append : (plan : Plan) (s : State) (xs ys : List (ItemOf Text Path Filter)) → refresh_steps plan s (xs ++ ys) ≡ refresh_steps plan s xs + refresh_steps plan s ys
refresh_append plan s [] ys = nothing_before (refresh_steps plan s ys)
refresh_append plan s (x ∷ xs) ys = one_before (reading_steps plan s x.path x.tracked) (refresh_steps plan s (xs ++ ys)) (refresh_steps plan s xs) (refresh_steps plan s ys) (refresh_append plan s xs ys)

pub readings_more : (plan : Plan) (s : State) (t : Stamped) (items : List Item) (k : ℕ) (i : Item) (old between new : ℕ) → k < length items → i ≡ get_or items k i
    → between ≡ old + refresh_steps plan s (map (flags t) (take k items)) → new ≡ between + reading_steps plan s i.path (flag_of t i.tracked)
    → new ≡ old + refresh_steps plan s (map (flags t) (take (k + 1) items))
readings_more plan s t items k i old between new l at before here =
    let last : refresh_steps plan s (map (flags t) (i ∷ [])) ≡ reading_steps plan s i.path (flag_of t i.tracked) = plus_zero (reading_steps plan s i.path (flag_of t i.tracked)) in
    let all : refresh_steps plan s (map (flags t) (take (k + 1) items)) ≡ refresh_steps plan s (map (flags t) (take k items)) + refresh_steps plan s (map (flags t) (i ∷ [])) =
    ap (λ (is : List Item). refresh_steps plan s (map (flags t) is)) (take_more items k i l ∙ ap (λ (j : Item). take k items ++ j ∷ []) (sym at))
    ∙ ap (refresh_steps plan s) (map-append (flags t) (take k items) (i ∷ []))
    ∙ refresh_append plan s (map (flags t) (take k items)) (map (flags t) (i ∷ [])) in
    omega (arith, before, here, last, all)

-- the steps of an operation on a watch that stands
pub asked_there : (plan : Plan) (s : State) (t : Stamped) (n : ℕ) (ws : List (ℕ × Leased)) (w : Leased) (op : WatchOperation) (old new : ℕ) → lookup n ws ≡ Some w
    → WatchTakes plan s (Some (flagged t w)) op old new → WatchTakes plan s (lookup n (flags_of t ws)) op old new
asked_there plan s t n ws w op old new there steps =
    subst (λ (v : Option (WatchOf Text Path Filter)). WatchTakes plan s v op old new)
    (sym ((tables_agree plan t).looks_up n ws ∙ ap (λ (v : Option Leased). option_map (flagged t) v) there)) steps

-- where no watch stands, none are taken
pub none_for : (plan : Plan) (s : State) (op : WatchOperation) (old : ℕ) → WatchTakes plan s None op old old
none_for plan s (Look part) old = refl
none_for plan s (Renew input) old = tt
none_for plan s (Add asked) old = tt
none_for plan s (Remove texts) old = refl
none_for plan s PollChanges old = no_more old
none_for plan s PollRefresh old = no_more old
none_for plan s Delete old = refl
none_for plan s (Refuse fault) old = refl

pub none_asked : (plan : Plan) (s : State) (t : Stamped) (n : ℕ) (ws : List (ℕ × Leased)) (op : WatchOperation) (old : ℕ) → lookup n ws ≡ None → WatchTakes plan s (lookup n (flags_of t ws)) op old old
none_asked plan s t n ws op old none =
    subst (λ (v : Option (WatchOf Text Path Filter)). WatchTakes plan s v op old old)
    (sym ((tables_agree plan t).looks_up n ws ∙ ap (λ (v : Option Leased). option_map (flagged t) v) none)) (none_for plan s op old)

-- The steps of a poll are at most those for the objects that it reports.
steps_append : (round : ℕ) (xs ys : List Object) → steps_for round (of_objects (xs ++ ys)) ≡ steps_for round (of_objects xs) + steps_for round (of_objects ys)
steps_append round [] ys = omega arith
steps_append round (x ∷ xs) ys =
    elim (is_of_object x) as (λ b. steps_for round (cond b (x ∷ of_objects (xs ++ ys)) (of_objects (xs ++ ys))) ≡ steps_for round (cond b (x ∷ of_objects xs) (of_objects xs)) + steps_for round (of_objects ys)) [
      | true ↦ omega (arith, steps_append round xs ys)
      | false ↦ steps_append round xs ys
    ]

one_for : (round depth most : ℕ) (t : Option Text) (o : Object) → is_of_object o ≡ true → depth ≤ round → depth + min (parts o) most ≤ steps_for round (of_objects (under_href t o ∷ []))
one_for round depth most t o is less =
    let here : depth + min (parts o) most ≤ parts o + round + 0 = omega (arith, less) in
    subst (λ (b : Bool). depth + min (parts o) most ≤ steps_for round (cond b (under_href t o ∷ []) [])) (sym is) here

together : (a b x y all : ℕ) → a ≤ x → b ≤ y → all ≡ x + y → a + b ≤ all
together a b x y all p q e = omega (arith, p, q, e)

none_least : (n : ℕ) → 0 ≤ n
none_least n = omega arith

round_within : (root : Object) (n : Option ℕ) → ((m : ℕ) → n ≡ Some m → m < parts root) → unwrap_or (option_map (λ m. depth_at m root) n) 0 ≤ levels (row root)
round_within root None within = none_least (levels (row root))
round_within root (Some m) within =
    let less : depth_at m root < levels (row root) = depths_are_levels root m (within m refl) in
    let most : depth_at m root ≤ levels (row root) = omega (arith, less) in
    most

module _ (plan : Plan) (s : State) where
  item_at_most : (text : Text) (path : Path) (t : TrackedOf Filter) → item_steps plan s path t ≤ steps_in s.tree (of_objects (map entry (changes_of (of_plan plan) s text path t)))
  item_at_most text path (rules.Object true) =
      one_for (levels (row s.tree)) (round_at s.tree path) (2 ^ 64 - 1) (Some text) (watched_object plan s path)
      (and_second (is_none (watched_object plan s path).head.href) (is_of_object (watched_object plan s path)) (watched_plain plan s path))
      (round_within s.tree (place_of path (paths s.tree)) (λ m placed. place_within s.tree path m placed))
  item_at_most text path (rules.Object false) = none_least 0
  item_at_most text path (rules.Feed filter given) = none_least (steps_in s.tree (of_objects (map entry (changes_of (of_plan plan) s text path (rules.Feed filter given)))))

  all_at_most : (items : List (ItemOf Text Path Filter)) → poll_steps plan s items ≤ steps_in s.tree (of_objects (map entry (changes (of_plan plan) s items)))
  all_at_most [] = none_least 0
  all_at_most (i ∷ items) =
      let here = changes_of (of_plan plan) s i.text i.path i.tracked in
      let rest = changes (of_plan plan) s items in
      let each = steps_in s.tree (of_objects (map entry here)) in
      let others = steps_in s.tree (of_objects (map entry rest)) in
      let both : steps_in s.tree (of_objects (map entry (here ++ rest))) ≡ each + others =
      ap (λ (os : List Object). steps_in s.tree (of_objects os)) (map-append entry here rest) ∙ steps_append (levels (row s.tree)) (map entry here) (map entry rest) in
      together (item_steps plan s i.path i.tracked) (poll_steps plan s items) each others (steps_in s.tree (of_objects (map entry (here ++ rest)))) (item_at_most i.text i.path i.tracked) (all_at_most items) both

  -- the entries of a WatchOut are those that it was made of
  entries_are : (rs : List Reading) → entries_of (watch_out (map entry rs)) ≡ Some (map entry rs)
  entries_are rs =
      ap (λ (os : List Object). cond (list_all (λ item. is_some item.head.href) os) (Some os) None) (listed-in_row (map entry rs))
      ∙ ap (λ (b : Bool). cond b (Some (map entry rs)) None) (all_hrefs rs)

  polls_at_most : (items : List (ItemOf Text Path Filter)) → poll_steps plan s items ≤ steps_in s.tree (object_entries (watch_out (map entry (changes (of_plan plan) s items))))
  polls_at_most items =
      subst (λ (os : List Object). poll_steps plan s items ≤ steps_in s.tree os)
      (sym (ap (λ (os : Option (List Object)). of_objects (unwrap_or os [])) (entries_are (changes (of_plan plan) s items)))) (all_at_most items)

-- what a watch that is polled replies
polled_at_most : (plan : Plan) (w : World (of_plan plan)) (n : ℕ) (found : Option (WatchOf Text Path Filter))
    → poll_steps plan w.site (items_in found) ≤ steps_in w.site.tree (object_entries (sent plan (on_watch (of_plan plan) w n PollChanges found).1))
polled_at_most plan w n None = none_least _
polled_at_most plan w n (Some v) = polls_at_most plan w.site v.items

-- The steps that a poll takes are at most those for the objects that its reply reports.
pub steps_at_most : (plan : Plan) (w : World (of_plan plan)) (r : Request) (n old new : ℕ) → Takes plan w (OneWatch n PollChanges) old new
    → new ≤ old + steps_in w.site.tree (object_entries (sent plan (acted (of_plan plan) w r (OneWatch n PollChanges)).1))
steps_at_most plan w r n old new takes = omega (arith, takes, polled_at_most plan w n (lookup n w.watches))
