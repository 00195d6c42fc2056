-- What own nodes show of themselves, and states that differ in values alone.
use Rattle.std.proofs.Common.{ℕ, ◌≡◌, Bool, true, false, not, ◌&&◌, ◌||◌, cond, List, [], ◌∷◌, ◌++◌, length, Option, Some, None, option_map, refl, sym, ap, ap₂, ◌∙◌}
use Rattle.std.specs.Prelude.{is_some, codes}
use Rattle.std.specs.Str.{bytes_eq}
use Rattle.circular_buffer.specs.Buffer.{last_item}
use Rattle.ob_object.specs.declared.kind.Kind.{Kind}
use Rattle.ob_object.specs.declared.kind.Kind.TheVariants as kind
use Rattle.ob_object.specs.declared.head.Slot.{Slot}
use Rattle.ob_object.specs.declared.head.Slot.TheVariants.{Absent, Null, Is}
use Rattle.ob_object.specs.declared.head.Head.{Head}
use Rattle.ob_object.specs.Object.{Objects, none, node, Object, listed, in_row, in_row-listed}
use Rattle.ob_object.specs.Paths.{is_path, node_path}
use Rattle.ob_contracts.specs.Inherit.{or_else, given, slot_of, slot_or_default}
use Rattle.ob_contracts.specs.Standard.{standard, with_added}
use Rattle.ob_times.specs.Times.{Instant}
use Rattle.ob_values.proofs.Bools.{or_second, or_first, and_true}
use Rattle.ob_site_rules.specs.Build.{Path, number_slot, time_slot, valued}
use Rattle.ob_site_rules.specs.Shown.{lobby_children, write_point_op, count_child, first_record, subject_children, history_part, derived, with_status, with_status_by, with_status_at, with_roles, rule_of}
use Rattle.ob_site_rules.specs.State.{Log, State, at, is_among, rolled_logs}
use Rattle.ob_site_rules.specs.declared.plan.Plan.{Plan}
use Rattle.ob_site_rules.specs.Sameness.{same_slot}
use Rattle.ob_site_rules.specs.Writes.{with_slot, with_slot_in, site_contracts, recorded}
use Rattle.ob_shown_laws.specs.Alike.{without_slot, AreAlike, DifferInSlots, paths_of}
use Rattle.ob_tree.specs.Contexts.{Context, HandedDown, handed_down, under}
use Rattle.ob_shown_laws.specs.Changed.{same_values, head_in, same_leaves, same_log, same_derived}
use Rattle.ob_shown_laws.specs.Own.{OwnNodesDiffer, StepsLeaveAlike}
use Rattle.ob_shown_laws.proofs.Itself.{and_drop, and_keep, values_itself, some_status_itself}
use Rattle.ob_shown_laws.proofs.Touches.{differ_alike}
use Rattle.ob_shown_laws.proofs.Reaching.{alike_itself, alike_listed, history_alike, roles_alike, at_both}

pub leaves_itself : (r : HandedDown) (os : Objects) → same_leaves r os os ≡ true
leaves_itself r none = refl
leaves_itself r (node h below rest) =
    let own : Bool = same_values (head_in (under r h.name) h) (head_in (under r h.name) h) in
    let deep : Bool = same_leaves (handed_down (under r h.name) h) below below in
    and_true (is_some (node_path h) || (own && deep)) (same_leaves r rest rest)
    (or_second (is_some (node_path h)) (own && deep) (and_true own deep (values_itself (head_in (under r h.name) h)) (leaves_itself (handed_down (under r h.name) h) below)))
    (leaves_itself r rest)

and_assoc : (a b c : Bool) → (a && (b && c)) ≡ ((a && b) && c)
and_assoc true b c = refl
and_assoc false b c = refl

leaves_append : (r : HandedDown) (xs ys zs ws : List Object) → AreAlike (in_row xs) (in_row ys)
    → same_leaves r (in_row (xs ++ zs)) (in_row (ys ++ ws)) ≡ (same_leaves r (in_row xs) (in_row ys) && same_leaves r (in_row zs) (in_row ws))
leaves_append r [] [] zs ws a = refl
leaves_append r [] (y ∷ ys) zs ws a = absurd a
leaves_append r (x ∷ xs) [] zs ws a = absurd a
leaves_append r (x ∷ xs) (y ∷ ys) zs ws a =
    ap (λ b. own && b) (leaves_append r xs ys zs ws a.2)
    ∙ and_assoc own (same_leaves r (in_row xs) (in_row ys)) (same_leaves r (in_row zs) (in_row ws))
  where
    own : Bool
    own =
        is_some (node_path x.head)
        || (same_values (head_in (under r x.head.name) x.head) (head_in (under r x.head.name) y.head) && same_leaves (handed_down (under r x.head.name) x.head) x.inner y.inner)

leaves_behind : (r : HandedDown) (os qs : Objects) (zs ws : List Object) → AreAlike os qs
    → same_leaves r (in_row (listed os ++ zs)) (in_row (listed qs ++ ws)) ≡ (same_leaves r os qs && same_leaves r (in_row zs) (in_row ws))
leaves_behind r os qs zs ws a =
    leaves_append r (listed os) (listed qs) zs ws (alike_listed os qs a)
    ∙ ap₂ (λ (x y : Objects). same_leaves r x y && same_leaves r (in_row zs) (in_row ws)) (in_row-listed os) (in_row-listed qs)

pub path_off : (plan : Plan) (s : State) (h : Head) (o : Option Path) → node_path (with_status_at plan s h o) ≡ node_path h
path_off plan s h None = refl
path_off plan s h (Some p) = by_rule (rule_of plan p)
  where
    by_rule : (r : Option ℕ) → node_path (with_status_by plan s h r) ≡ node_path h
    by_rule None = refl
    by_rule (Some r) = refl

-- of own objects that differ in the slots of nodes alone, those that are no nodes show the same
own_leaves : (plan : Plan) (s t : State) → paths_of s.logs ≡ paths_of t.logs → (r : HandedDown) (os qs : Objects) → DifferInSlots os qs → same_leaves r (with_roles plan s os) (with_roles plan t qs) ≡ true
own_leaves plan s t e r none none d = refl
own_leaves plan s t e r none (node k inner more) d = absurd d
own_leaves plan s t e r (node h below rest) none d = absurd d
own_leaves plan s t e r (node h below rest) (node k inner more) d =
    and_true (first (with_status plan s h) (with_status plan t k) (derived plan s (node_path h)) (derived plan t (node_path k))) (same_leaves r (with_roles plan s rest) (with_roles plan t more))
    (go (node_path h) refl (own_leaves plan s t e (handed_down (under r h.name) h) below inner d.2))
    (own_leaves plan s t e r rest more d.3)
  where
    first : Head → Head → List Object → List Object → Bool
    first x y zs ws =
        is_some (node_path x)
        || (same_values (head_in (under r x.name) x) (head_in (under r x.name) y)
        && same_leaves (handed_down (under r x.name) x) (in_row (listed (with_roles plan s below) ++ zs)) (in_row (listed (with_roles plan t inner) ++ ws)))

    leaf : node_path h ≡ None → same_leaves (handed_down (under r h.name) h) (with_roles plan s below) (with_roles plan t inner) ≡ true → first h h [] [] ≡ true
    leaf is deep =
        or_second (is_some (node_path h)) _
        (and_true (same_values (head_in (under r h.name) h) (head_in (under r h.name) h)) _ (values_itself (head_in (under r h.name) h))
        (leaves_behind (handed_down (under r h.name) h) (with_roles plan s below) (with_roles plan t inner) [] [] (roles_alike plan s t e below inner d.2)
        ∙ and_keep (same_leaves (handed_down (under r h.name) h) (with_roles plan s below) (with_roles plan t inner)) true refl
        ∙ deep))

    go : (o : Option Path) → node_path h ≡ o → same_leaves (handed_down (under r h.name) h) (with_roles plan s below) (with_roles plan t inner) ≡ true
        → first (with_status plan s h) (with_status plan t k) (derived plan s (node_path h)) (derived plan t (node_path k)) ≡ true
    go (Some p) is deep = or_first (is_some (node_path (with_status plan s h))) _ (ap is_some (path_off plan s h (node_path h) ∙ is))
    go None is deep =
        let other : h ≡ k = d.1 is in
        let none_too : node_path k ≡ None = ap node_path (sym other) ∙ is in
        ap (λ (o : Option Path). first (with_status_at plan s h o) (with_status plan t k) (derived plan s o) (derived plan t (node_path k))) is
        ∙ ap (λ (o : Option Path). first h (with_status_at plan t k o) [] (derived plan t o)) none_too
        ∙ ap (λ (x : Head). first h x [] []) (sym other)
        ∙ leaf is deep

-- a slot that is given stays
abbrev IsGiven : Slot → Type 0
IsGiven Absent = ⊥
IsGiven Null = Unit {0}
IsGiven (Is v) = Unit {0}

kept_slot : (k : Kind) (v : Slot) (x : Option Slot) → IsGiven v → slot_or_default k (slot_of (or_else (given v) x)) ≡ v
kept_slot k Absent x g = absurd g
kept_slot k Null x g = refl
kept_slot k (Is v) x g = refl

time_given : (o : Option Instant) → IsGiven (time_slot o)
time_given None = tt
time_given (Some t) = tt

leaf_same : (c : Context) (h : Head) (v w : Slot) → IsGiven v → IsGiven w → same_values (head_in c (record h { slot = v })) (head_in c (record h { slot = w })) ≡ same_slot v w
leaf_same c h v w g i =
    and_keep (same_slot (head_in c (record h { slot = v })).slot (head_in c (record h { slot = w })).slot) _ (some_status_itself (head_in c h).facets.status)
    ∙ ap₂ (λ (x y : Slot). same_slot x y) (kept_slot h.kind v _ g) (kept_slot h.kind w _ i)

three : (a b c x y z : Bool) → a ≡ x → b ≡ y → c ≡ z → ((a && true) && ((b && true) && ((c && true) && true))) ≡ (x && (y && z))
three a b c x y z e f g =
    ap₂ (λ u v. u && v) (and_keep a true refl ∙ e)
    (ap₂ (λ u v. u && v) (and_keep b true refl ∙ f) (and_keep (c && true) true refl ∙ and_keep c true refl ∙ g))

history_leaves : (r : HandedDown) (p : Path) (o q : Option Log) → is_some o ≡ is_some q → same_leaves r (in_row (history_part p o)) (in_row (history_part p q)) ≡ same_log o q
history_leaves r p None None e = refl
history_leaves r p None (Some m) e = absurd cc
history_leaves r p (Some l) None e = absurd cc
history_leaves r p (Some l) (Some m) e =
    three _ _ _ _ _ _
    (leaf_same (under r count.name) count (number_slot (length l.kept)) (number_slot (length m.kept)) tt tt)
    (leaf_same (under r start.name) start (first l) (first m) (time_given _) (time_given _))
    (leaf_same (under r end.name) end (last l) (last m) (time_given _) (time_given _))
  where
    first : Log → Slot
    first x = time_slot (option_map (λ r. r.time) (first_record x.kept))

    last : Log → Slot
    last x = time_slot (option_map (λ r. r.time) (last_item x.kept))

    count : Head
    count = (count_child 0).head

    start : Head
    start = (valued kind.Abstime (codes "start") Null).head

    end : Head
    end = (valued kind.Abstime (codes "end") Null).head

subject_leaves : (r : HandedDown) (b : Bool) (p : Path) (n m : ℕ) → same_leaves r (in_row (cond b (subject_children p n) [])) (in_row (cond b (subject_children p m) [])) ≡ (not b || same_slot (number_slot n) (number_slot m))
subject_leaves r false p n m = refl
subject_leaves r true p n m =
    and_keep (same_values (head_in (under r count.name) (count_child n).head) (head_in (under r count.name) (count_child m).head) && true) true refl
    ∙ and_keep (same_values (head_in (under r count.name) (count_child n).head) (head_in (under r count.name) (count_child m).head)) true refl
    ∙ leaf_same (under r count.name) count (number_slot n) (number_slot m) tt tt
  where
    count : Head
    count = (count_child 0).head

derived_leaves : (plan : Plan) (s t : State) → paths_of s.logs ≡ paths_of t.logs → (r : HandedDown) (p : Path) → same_leaves r (in_row (derived plan s (Some p))) (in_row (derived plan t (Some p))) ≡ same_derived plan s t p
derived_leaves plan s t e r p =
    let lobby : List Object = cond (plan.lobby && bytes_eq p plan.root) (lobby_children plan) [] in
    let point : List Object = cond (is_among p plan.points) (write_point_op p ∷ []) [] in
    leaves_append r lobby lobby _ _ (alike_itself (in_row lobby))
    ∙ and_drop (same_leaves r (in_row lobby) (in_row lobby)) _ (leaves_itself r (in_row lobby))
    ∙ leaves_append r point point _ _ (alike_itself (in_row point))
    ∙ and_drop (same_leaves r (in_row point) (in_row point)) _ (leaves_itself r (in_row point))
    ∙ leaves_append r (history_part p (at p s.logs)) (history_part p (at p t.logs)) _ _ (history_alike p (at p s.logs) (at p t.logs) (at_both p s.logs t.logs e))
    ∙ ap₂ (λ a b. a && b) (history_leaves r p (at p s.logs) (at p t.logs) (at_both p s.logs t.logs e)) (subject_leaves r (is_path p plan.subject) p (length s.alarms) (length t.alarms))

pub own_nodes : OwnNodesDiffer
own_nodes plan s t values o q d p is c =
    let x : Head = with_status plan s o.head in
    let y : Head = with_status plan t q.head in
    let r : HandedDown = handed_down c x in
    let its : node_path q.head ≡ Some p = sym (ap (λ (u : Head). node_path u) d.0) ∙ is in
    ap (λ b. same_values (head_in c x) (head_in c y) && b)
    (leaves_behind r (with_roles plan s o.inner) (with_roles plan t q.inner) (derived plan s (node_path o.head)) (derived plan t (node_path q.head)) (roles_alike plan s t values.histories o.inner q.inner d.2)
    ∙ and_drop (same_leaves r (with_roles plan s o.inner) (with_roles plan t q.inner)) _ (own_leaves plan s t values.histories r o.inner q.inner d.2)
    ∙ ap₂ (λ (u v : Option Path). same_leaves r (in_row (derived plan s u)) (in_row (derived plan t v))) is its
    ∙ derived_leaves plan s t values.histories r p)

-- states that differ in values alone
pub differ_itself : (os : Objects) → DifferInSlots os os
differ_itself none = tt
differ_itself (node h below rest) = (refl, λ _. refl, differ_itself below, differ_itself rest)

differ_then : (os qs rs : Objects) → DifferInSlots os qs → DifferInSlots qs rs → DifferInSlots os rs
differ_then none none none d f = tt
differ_then none none (node k inner more) d f = absurd f
differ_then none (node k inner more) rs d f = absurd d
differ_then (node h below rest) none rs d f = absurd d
differ_then (node h below rest) (node k inner more) none d f = absurd f
differ_then (node h below rest) (node k inner more) (node l deep behind) d f = (
  d.0 ∙ f.0,
  λ is. d.1 is ∙ f.1 (sym (ap (λ (u : Head). node_path u) d.0) ∙ is),
  differ_then below inner deep d.2 f.2,
  differ_then rest more behind d.3 f.3,
)

pub slot_set : (b : Bool) (h : Head) (slot : Slot) → without_slot h ≡ without_slot (cond b (record h { slot = slot }) h)
slot_set true h slot = refl
slot_set false h slot = refl

differ_slotted : (p : Path) (slot : Slot) (os : Objects) → DifferInSlots os (with_slot_in p slot os)
differ_slotted p slot none = tt
differ_slotted p slot (node h below rest) = (
  slot_set (is_path p (node_path h)) h slot,
  λ is. sym (ap (λ (o : Option Path). cond (is_path p o) (record h { slot = slot }) h) is),
  differ_slotted p slot below,
  differ_slotted p slot rest,
)

pub paths_recorded : (plan : Plan) (now : ℕ) (p : Path) (k : Kind) (slot : Slot) (ls : List (Path × Log)) → paths_of ls ≡ paths_of (recorded plan now p k slot ls)
paths_recorded plan now p k slot [] = refl
paths_recorded plan now p k slot (l ∷ ls) = ap (λ (ps : List Path). l.0 ∷ ps) (paths_recorded plan now p k slot ls)

paths_rolled : (ls : List (Path × Log)) → paths_of ls ≡ paths_of (rolled_logs ls)
paths_rolled [] = refl
paths_rolled (l ∷ ls) = ap (λ (ps : List Path). l.0 ∷ ps) (paths_rolled ls)

pub steps_alike : StepsLeaveAlike
steps_alike plan = record {
  nothing = λ s. record { library = refl; tree = differ_itself (node s.tree.head s.tree.inner none); histories = refl };
  both = λ s t u d f. record {
    library = d.library ∙ f.library;
    tree = differ_then (node s.tree.head s.tree.inner none) (node t.tree.head t.tree.inner none) (node u.tree.head u.tree.inner none) d.tree f.tree;
    histories = d.histories ∙ f.histories;
  };
  writes = λ s now p k slot outside. record {
    library = sym (ap (λ b. cond b (with_added standard (site_contracts (with_slot p slot s.tree))) s.library) outside);
    tree = differ_slotted p slot (node s.tree.head s.tree.inner none);
    histories = paths_recorded plan now p k slot s.logs;
  };
  alarms = λ s b. record { library = refl; tree = differ_itself (node s.tree.head s.tree.inner none); histories = refl };
  rolls = λ s. record { library = refl; tree = differ_itself (node s.tree.head s.tree.inner none); histories = paths_rolled s.logs };
  paths = λ s t values d. differ_alike (with_roles plan s (node s.tree.head s.tree.inner none)) (with_roles plan t (node t.tree.head t.tree.inner none)) (roles_alike plan s t values.histories (node s.tree.head s.tree.inner none) (node t.tree.head t.tree.inner none) values.tree) d;
}
