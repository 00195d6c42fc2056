-- What is found to be a watched object is an own node.
use Rattle.std.proofs.Common.{ℕ, ◌≡◌, suc, Bool, true, false, not, ◌&&◌, ◌||◌, cond, List, [], ◌∷◌, ◌++◌, map, length, Option, Some, None, option_map, refl, sym, ap, ap₂, ◌∙◌, subst, true≢false}
use Rattle.std.specs.Prelude.{is_some, nat_lt, slice_get}
use Rattle.ob_object.specs.declared.kind.Kind.{Kind}
use Rattle.ob_object.specs.declared.kind.Kind.TheVariants as kind
use Rattle.ob_object.specs.declared.head.Head.{Head}
use Rattle.ob_object.specs.Kinds.{same_kind, is_ref, is_err}
use Rattle.ob_object.specs.Object.{Objects, none, node, Object, listed, in_row}
use Rattle.ob_object.specs.Paths.{is_path, node_path}
use Rattle.ob_contracts.specs.Inherit.{Contracts, Words, or_else, only_if, result_of, effective_of}
use Rattle.ob_history.specs.declared.records.Filter.{Filter}
use Rattle.ob_history.specs.Filters.{filter_of}
use Rattle.ob_watching.specs.Operations.{FeedAt, ObjectAt, NotFound}
use Rattle.ob_site_rules.specs.Build.{Path}
use Rattle.ob_site_rules.specs.declared.fault.Fault.TheVariants.{HrefTooLong, NotWatchable}
use Rattle.ob_site_rules.specs.Locating.{locate}
use Rattle.ob_site_rules.specs.Places.{computed_places}
use Rattle.ob_watch.specs.Feeds.{feed_place}
use Rattle.ob_site_rules.specs.Shown.{derived, rule_of, with_status, with_status_at, with_status_by, with_roles, shown}
use Rattle.ob_site_rules.specs.State.{State, at}
use Rattle.ob_site_rules.specs.declared.resource.Resource.{Resource}
use Rattle.ob_site_rules.specs.declared.resource.Resource.TheVariants.{About, AckOf, AlarmAt, AlarmFeed, AlarmQuery, Batch, FeedOf, Make, Node, QueryOf, Service, WritePointOf}
use Rattle.ob_site_rules.specs.declared.plan.Plan.{Plan}
use Rattle.ob_site_rules.specs.Watched.{is_call_kind, feed_if, feed_with, sets_limit, found_place, found_at, found_located}
use Rattle.ob_tree.specs.Contexts.{HandedDown, handed_down, under}
use Rattle.ob_shown_laws.specs.Alike.{row}
use Rattle.ob_shown_laws.specs.Changed.{is_in, is_watchable}
use Rattle.ob_shown_laws.specs.Numbered.{root_row}
use Rattle.ob_shown_laws.specs.Standing.{Standing, effective, standing_in, standing_at}
use Rattle.ob_shown_laws.proofs.Looking.{at_path, standing_in-behind}
use Rattle.ob_shown_laws.proofs.Owning.{path_off}
use Rattle.ob_shown_laws.proofs.Reaching.{at_row}
use Rattle.ob_shown_laws.proofs.Standings.{shown_there}
use Rattle.ob_shown_laws.proofs.Touches.{there}
use Rattle.ob_shown_laws.proofs.Undressing.{own_there}
use Rattle.ob_tree.specs.Laid.{heads, heads_of}
use Rattle.ob_tree.specs.Paths.{place_of}
use Rattle.ob_tree.proofs.Contexts.{heads_row}
use Rattle.ob_site_watches.specs.Watched.{IsOwnFound, AllWatchedAreOwn}
use Rattle.ob_site_watches.proofs.Calls.{call_found, derived_calls, is_node, computed_free}
use Rattle.ob_site_watches.proofs.FeedNumbers.{HasNumber, feed_numbered}

-- the first of these heads that is of a node of a path
abbrev first_of : Path → List Head → Option Head
first_of p [] = None
first_of p (h ∷ hs) = cond (is_path p (node_path h)) (Some h) (first_of p hs)

first_append : (p : Path) (hs gs : List Head) → first_of p (hs ++ gs) ≡ or_else (first_of p hs) (first_of p gs)
first_append p [] gs = refl
first_append p (h ∷ hs) gs = ap (cond (is_path p (node_path h)) (Some h)) (first_append p hs gs) ∙ go (is_path p (node_path h))
  where
    go : (b : Bool) → cond b (Some h) (or_else (first_of p hs) (first_of p gs)) ≡ or_else (cond b (Some h) (first_of p hs)) (first_of p gs)
    go true = refl
    go false = refl

some_either : (a b : Option Head) → is_some (or_else a b) ≡ (is_some a || is_some b)
some_either None b = refl
some_either (Some x) b = refl

first_there : (p : Path) (os : Objects) → is_some (first_of p (heads os)) ≡ is_in p os
first_there p none = refl
first_there p (node h inner rest) =
    ap (λ (o : Option Head). is_some (cond (is_path p (node_path h)) (Some h) o)) (first_append p (heads inner) (heads rest))
    ∙ go (is_path p (node_path h))
    ∙ ap₂ (λ a b. is_path p (node_path h) || (a || b)) (first_there p inner) (first_there p rest)
  where
    go : (b : Bool) → is_some (cond b (Some h) (or_else (first_of p (heads inner)) (first_of p (heads rest)))) ≡ (b || (is_some (first_of p (heads inner)) || is_some (first_of p (heads rest))))
    go true = refl
    go false = some_either (first_of p (heads inner)) (first_of p (heads rest))

-- it has a number
numbered_first : (p : Path) (hs : List Head) (h : Head) → first_of p hs ≡ Some h → (n : ℕ) × (place_of p (map node_path hs) ≡ Some n) × (slice_get hs n ≡ Some h) × (node_path h ≡ Some p)
numbered_first p [] h e = absurd cc
numbered_first p (g ∷ hs) h e = go (is_path p (node_path g)) refl e (λ f. numbered_first p hs h f)
  where
    go : (b : Bool) → is_path p (node_path g) ≡ b → cond b (Some g) (first_of p hs) ≡ Some h
        → (first_of p hs ≡ Some h → (n : ℕ) × (place_of p (map node_path hs) ≡ Some n) × (slice_get hs n ≡ Some h) × (node_path h ≡ Some p))
        → (n : ℕ) × (place_of p (map node_path (g ∷ hs)) ≡ Some n) × (slice_get (g ∷ hs) n ≡ Some h) × (node_path h ≡ Some p)
    go true is e rest =
        let same : g ≡ h = cc in
        (0, ap (λ b. cond b (Some 0) (option_map suc (place_of p (map node_path hs)))) is, e, ap (λ (x : Head). node_path x) (sym same) ∙ at_path p (node_path g) is)
    go false is e rest =
        let more = rest e in
        (suc more.0, ap (λ b. cond b (Some 0) (option_map suc (place_of p (map node_path hs)))) is ∙ ap (option_map suc) more.1, more.2, more.3)

-- statuses and what is inherited leave the kind
status_by : (plan : Plan) (s : State) (h : Head) (r : Option ℕ) → (with_status_by plan s h r).kind ≡ h.kind
status_by plan s h None = refl
status_by plan s h (Some rule) = refl

status_at : (plan : Plan) (s : State) (h : Head) (o : Option Path) → (with_status_at plan s h o).kind ≡ h.kind
status_at plan s h None = refl
status_at plan s h (Some p) = status_by plan s h (rule_of plan p)

effective_kind : (lib : Contracts) (o : Object) (implied : Option Words) (over : Option Object) → (effective_of lib o implied over).head.kind ≡ o.head.kind
unfolding result_of
effective_kind lib o implied over = refl

-- the first own node of a path, of this kind
abbrev IsFirst : Path → Objects → Kind → Type 0
IsFirst p os k = (h : Head) × (first_of p (heads os) ≡ Some h) × (h.kind ≡ k)

-- a node that is found among own and derived ones, and is no op and no feed, is the first own one of its path
own_first : (plan : Plan) (s : State) (p : Path) (r : HandedDown) (os : Objects) (x : Standing) → standing_in p r (with_roles plan s os) ≡ Some x → is_call_kind x.object.head.kind ≡ false
    → IsFirst p os x.object.head.kind
own_first plan s p r none x e call = absurd cc
own_first plan s p r (node h below rest) x e call =
    go (is_path p (node_path h)) (standing_in p d (with_roles plan s below)) (standing_in p d (in_row more)) refl refl refl
    (sym (ap (λ b. or_else (only_if b (Some here)) (or_else (standing_in p d inner) behind)) (ap (is_path p) (path_off plan s h (node_path h))))
    ∙ e)
    (λ f. own_first plan s p d below x f call) (λ f. own_first plan s p r rest x f call)
  where
    k : Head
    k = with_status plan s h

    d : HandedDown
    d = handed_down (under r k.name) k

    more : List Object
    more = derived plan s (node_path h)

    inner : Objects
    inner = in_row (listed (with_roles plan s below) ++ more)

    behind : Option Standing
    behind = standing_in p r (with_roles plan s rest)

    here : Standing
    here = record { context = under r k.name; object = record { head = k; inner = inner } }

    some_same : {a b : Standing} → Some a ≡ Some b → a ≡ b
    some_same f = cc

    firsts : (b : Bool) → is_path p (node_path h) ≡ b → first_of p (heads (node h below rest)) ≡ cond b (Some h) (or_else (first_of p (heads below)) (first_of p (heads rest)))
    firsts b is =
        ap (λ c. cond c (Some h) (first_of p (heads below ++ heads rest))) is
        ∙ ap (cond b (Some h)) (first_append p (heads below) (heads rest))

    -- no own node of the path is below where none is found there
    none_below : standing_in p d (with_roles plan s below) ≡ None → first_of p (heads below) ≡ None
    none_below f = nothing (first_of p (heads below)) (first_there p below ∙ off (is_in p below) refl)
      where
        nothing : (o : Option Head) → is_some o ≡ false → o ≡ None
        nothing None g = refl
        nothing (Some y) g = absurd cc

        off : (b : Bool) → is_in p below ≡ b → b ≡ false
        off false g = refl
        off true g =
            absurd (true≢false (sym (own_there plan s p below g) ∙ sym (there p d (with_roles plan s below)) ∙ ap is_some f))

    go : (b : Bool) (i j : Option Standing) → is_path p (node_path h) ≡ b → standing_in p d (with_roles plan s below) ≡ i → standing_in p d (in_row more) ≡ j
        → or_else (only_if b (Some here)) (or_else (standing_in p d inner) behind) ≡ Some x
        → (standing_in p d (with_roles plan s below) ≡ Some x → IsFirst p below x.object.head.kind) → (behind ≡ Some x → IsFirst p rest x.object.head.kind)
        → IsFirst p (node h below rest) x.object.head.kind
    go true i j is deep last e f g =
        (h, firsts true is, sym (status_at plan s h (node_path h)) ∙ ap (λ (y : Standing). y.object.head.kind) (some_same e))
    go false i j is deep last e f g =
        by_inner i j deep last
        (sym (ap (λ o. or_else o behind) (standing_in-behind p d (with_roles plan s below) more ∙ ap₂ or_else deep last)) ∙ e)
      where
        by_inner : (i j : Option Standing) → standing_in p d (with_roles plan s below) ≡ i → standing_in p d (in_row more) ≡ j → or_else (or_else i j) behind ≡ Some x → IsFirst p (node h below rest) x.object.head.kind
        by_inner (Some y) j deep last e =
            let own = f (deep ∙ e) in
            (own.0, firsts false is ∙ ap (λ (o : Option Head). or_else o (first_of p (heads rest))) own.1, own.2)
        by_inner None (Some y) deep last e =
            absurd (true≢false (sym (call_found p d (in_row more) x (derived_calls plan s (node_path h)) (last ∙ e)) ∙ call))
        by_inner None None deep last e =
            let own = g e in
            (own.0, firsts false is ∙ ap (λ (o : Option Head). or_else o (first_of p (heads rest))) (none_below deep) ∙ own.1, own.2)

-- a node that is no op and no feed can be watched
watchable : (h : Head) (p : Path) → node_path h ≡ Some p → is_call_kind h.kind ≡ false → is_watchable h ≡ true
watchable h p path call = go h.kind refl path call
  where
    go : (k : Kind) → h.kind ≡ k → only_if (not (is_ref k || is_err k)) h.href ≡ Some p → is_call_kind k ≡ false → (not (same_kind k kind.Feed) && not (same_kind k kind.Err)) ≡ true
    go kind.Obj is path call = refl
    go kind.Bool is path call = refl
    go kind.Int is path call = refl
    go kind.Real is path call = refl
    go kind.Str is path call = refl
    go kind.Enum is path call = refl
    go kind.Uri is path call = refl
    go kind.Abstime is path call = refl
    go kind.Reltime is path call = refl
    go kind.Date is path call = refl
    go kind.Time is path call = refl
    go kind.List is path call = refl
    go kind.Op is path call = absurd cc
    go kind.Feed is path call = absurd cc
    go kind.Ref is path call = absurd cc
    go kind.Err is path call = absurd cc

pub all_watched_are_own : AllWatchedAreOwn
all_watched_are_own plan s numbers text input = by_length (nat_lt 1024 (length text))
  where
    by_node : (p : Path) (o : Object) → shown plan s p ≡ Some o → (b : Bool) → is_call_kind o.head.kind ≡ b → IsOwnFound plan s.tree (cond b (NotFound NotWatchable) (ObjectAt p))
    by_node p o e true is = tt
    by_node p o e false is = go (standing_at plan s p) refl (sym ((shown_there plan s p).shows) ∙ e)
      where
        some_same : {a b : Object} → Some a ≡ Some b → a ≡ b
        some_same f = cc

        go : (i : Option Standing) → standing_at plan s p ≡ i → option_map effective i ≡ Some o → IsOwnFound plan s.tree (ObjectAt p)
        go None stood f = absurd cc
        go (Some x) stood f =
            let kinds : o.head.kind ≡ x.object.head.kind =
            ap (λ (y : Object). y.head.kind) (sym (some_same f)) ∙ effective_kind x.context.library x.object x.context.implied x.context.over in
            let call : is_call_kind x.object.head.kind ≡ false = ap is_call_kind (sym kinds) ∙ is in
            let own = own_first plan s p (root_row s.library) (row s.tree) x (sym (at_row plan s p) ∙ stood) call in
            let number = numbered_first p (heads_of s.tree) own.0 (ap (first_of p) (sym (heads_row s.tree)) ∙ own.1) in (
              number.0,
              number.1,
              λ h is.
                  (let same : own.0 ≡ h = cc in
                  subst (λ (g : Head). is_watchable g ≡ true) same (watchable own.0 p number.3 (ap is_call_kind own.2 ∙ call))),
            )

    by_filter : (p : Path) (b : Bool) (f : Option Filter) → (n : ℕ) × (feed_place plan p ≡ Some n) → IsOwnFound plan s.tree (feed_if b p f)
    by_filter p true f number = tt
    by_filter p false None number = tt
    by_filter p false (Some f) number = number

    by_feed : (p : Path) → (n : ℕ) × (feed_place plan p ≡ Some n) → IsOwnFound plan s.tree (feed_with p input)
    by_feed p number = by_filter p (sets_limit input) (filter_of input) number

    by_computed : (p : Path) (place : Resource) → is_node place ≡ false → HasNumber plan p place → IsOwnFound plan s.tree (found_place p input place)
    by_computed p About free number = tt
    by_computed p Batch free number = tt
    by_computed p Service free number = tt
    by_computed p Make free number = tt
    by_computed p (AlarmAt n) free number = tt
    by_computed p (AckOf n) free number = tt
    by_computed p (WritePointOf q) free number = tt
    by_computed p (QueryOf h) free number = tt
    by_computed p (FeedOf h) free number = by_feed p number
    by_computed p AlarmQuery free number = tt
    by_computed p AlarmFeed free number = by_feed p number
    by_computed p (Node o) free number = absurd cc

    by_place : (p : Path) (i : Option Resource) (o : Option Object) → at p (computed_places plan s) ≡ i → shown plan s p ≡ o → IsOwnFound plan s.tree (found_at plan numbers p input (or_else i (option_map Node o)))
    by_place p (Some place) o computed is = by_computed p place (computed_free plan s p place computed) (feed_numbered plan s p place computed)
    by_place p None None computed is = tt
    by_place p None (Some o) computed is = by_node p o is (is_call_kind o.head.kind) refl

    by_path : (o : Option Path) → IsOwnFound plan s.tree (found_located plan s numbers input o)
    by_path None = tt
    by_path (Some p) = by_place p (at p (computed_places plan s)) (shown plan s p) refl refl

    by_length : (b : Bool) → IsOwnFound plan s.tree (cond b (NotFound HrefTooLong) (found_located plan s numbers input (locate plan.base text)))
    by_length true = tt
    by_length false = by_path (locate plan.base text)
