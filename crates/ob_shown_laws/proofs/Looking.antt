-- Nodes that a step left alone show themselves as before.
use Rattle.std.proofs.Common.{ℕ, ◌≡◌, Bool, true, false, not, ◌&&◌, ◌||◌, cond, List, [], ◌∷◌, ◌++◌, filter, length, Option, Some, None, option_map, refl, sym, ap, ap₂, ◌∙◌, subst}
use Rattle.std.specs.Prelude.{is_some}
use Rattle.std.specs.Str.{bytes_eq}
use Rattle.std.proofs.lemmas.Slice.Eq.{bytes_eq-Decides}
use Rattle.ob_object.specs.declared.head.Head.{Head}
use Rattle.ob_object.specs.declared.status.Status.{Status}
use Rattle.ob_object.specs.Object.{Objects, none, node, Object, listed, in_row}
use Rattle.circular_buffer.specs.Buffer.{last_item}
use Rattle.ob_values.proofs.Bools.{and_false, and_true}
use Rattle.ob_object.specs.declared.head.Slot.{Slot}
use Rattle.ob_object.specs.Paths.{is_path, node_path}
use Rattle.ob_site_rules.specs.Sameness.{same_slot}
use Rattle.ob_contracts.specs.Inherit.{or_else, only_if}
use Rattle.ob_alarms.specs.States.{status_of}
use Rattle.ob_site_rules.specs.Build.{Path, number_slot, time_slot}
use Rattle.ob_site_rules.specs.Shown.{first_record, lobby_children, write_point_op, subject_children, history_part, derived, rule_of, with_status_by, with_status_at, with_status, with_roles}
use Rattle.ob_site_rules.specs.State.{Log, State, at, is_among, numbered_from}
use Rattle.ob_site_rules.specs.declared.plan.Plan.{Plan}
use Rattle.ob_shown_laws.specs.Alike.{without_values, AreAlike, DifferInSlots, paths_of, DifferInValues}
use Rattle.ob_tree.specs.Contexts.{Context, HandedDown, handed_down, under}
use Rattle.ob_shown_laws.specs.Standing.{Standing, standing_in}
use Rattle.ob_shown_laws.specs.Changed.{same_values, head_in, same_leaves, same_node, same_standing, differs, same_log, same_derived}
use Rattle.ob_shown_laws.specs.Own.{derived_own}
use Rattle.ob_shown_laws.specs.Looked.{NodesAreSame, IsLeft, LookingIsEnough}
use Rattle.ob_shown_laws.proofs.Standings.{or_else-assoc}
use Rattle.ob_shown_laws.proofs.Itself.{slot_itself, values_itself}
use Rattle.ob_shown_laws.proofs.Alikes.{under_alike, handed_alike}
use Rattle.ob_shown_laws.proofs.Touches.{path_alike, in_alike, there}
use Rattle.ob_shown_laws.proofs.Reaching.{alike_append, alike_itself, alike_listed, history_alike, derived_alike, roles_alike, status_alike, at_both, at_row, at_row_of, root_row}
use Rattle.ob_shown_laws.proofs.Owning.{leaves_itself, path_off, own_nodes}

-- a row that is alike is looked through as the other is
pub first_alike : (p : Path) (r : HandedDown) (h k : Head) (inner more : Objects) → without_values h ≡ without_values k
    → standing_in p r (node k inner more)
    ≡ or_else (only_if (is_path p (node_path h)) (Some (record { context = under r h.name; object = record { head = k; inner = inner } })))
    (or_else (standing_in p (handed_down (under r h.name) h) inner) (standing_in p r more))
first_alike p r h k inner more e =
    ap (λ (o : Option Path). or_else (only_if (is_path p o) (Some (y (under r k.name)))) (or_else (standing_in p (handed_down (under r k.name) k) inner) (standing_in p r more))) (sym (path_alike h k e))
    ∙ ap (λ (c : Context). or_else (only_if (is_path p (node_path h)) (Some (y c))) (or_else (standing_in p (handed_down c k) inner) (standing_in p r more))) (under_alike r h k e)
    ∙ ap (λ (d : HandedDown). or_else (only_if (is_path p (node_path h)) (Some (y (under r h.name)))) (or_else (standing_in p d inner) (standing_in p r more))) (handed_alike (under r h.name) h k e)
  where
    y : Context → Standing
    y c = record { context = c; object = record { head = k; inner = inner } }

same_either : (i j l m : Option Standing) → is_some i ≡ is_some j → same_standing i j ≡ true → same_standing l m ≡ true → same_standing (or_else i l) (or_else j m) ≡ true
same_either (Some u) (Some v) l m e f g = f
same_either (Some u) None l m e f g = absurd cc
same_either None (Some v) l m e f g = absurd cc
same_either None None l m e f g = g

same_first : (b : Bool) (x y : Standing) (i j l m : Option Standing) → (b ≡ true → same_standing (Some x) (Some y) ≡ true) → is_some i ≡ is_some j → same_standing i j ≡ true → same_standing l m ≡ true
    → same_standing (or_else (only_if b (Some x)) (or_else i l)) (or_else (only_if b (Some y)) (or_else j m)) ≡ true
same_first true x y i j l m own e f g = own refl
same_first false x y i j l m own e f g = same_either i j l m e f g

both_there : (p : Path) (r : HandedDown) (os qs : Objects) → AreAlike os qs → is_some (standing_in p r os) ≡ is_some (standing_in p r qs)
both_there p r os qs a = there p r os ∙ in_alike p os qs a ∙ sym (there p r qs)

-- rows whose nodes are the same
abbrev pub NodesStay : Objects → Objects → Type 0
NodesStay none qs = Unit {0}
NodesStay (node h below rest) none = Unit {0}
NodesStay (node h below rest) (node k inner more) = (is_some (node_path h) ≡ true → (h ≡ k) × (below ≡ inner)) × NodesStay below inner × NodesStay rest more

some_at : (p : Path) (o : Option Path) → is_path p o ≡ true → is_some o ≡ true
some_at p None e = absurd cc
some_at p (Some q) e = refl

node_itself : (c : Context) (o : Object) → same_node c o o ≡ true
node_itself c o =
    and_true (same_values (head_in c o.head) (head_in c o.head)) (same_leaves (handed_down c o.head) o.inner o.inner) (values_itself (head_in c o.head)) (leaves_itself (handed_down c o.head) o.inner)

staying : (p : Path) (r : HandedDown) (os qs : Objects) → AreAlike os qs → NodesStay os qs → same_standing (standing_in p r os) (standing_in p r qs) ≡ true
staying p r none none a n = refl
staying p r none (node k inner more) a n = absurd a
staying p r (node h below rest) none a n = absurd a
staying p r (node h below rest) (node k inner more) a n =
    ap (same_standing (standing_in p r (node h below rest))) (first_alike p r h k inner more a.0)
    ∙ same_first (is_path p (node_path h)) (record { context = c; object = record { head = h; inner = below } }) (record { context = c; object = record { head = k; inner = inner } })
    (standing_in p d below) (standing_in p d inner) (standing_in p r rest) (standing_in p r more)
    own (both_there p d below inner a.1) (staying p d below inner a.1 n.1) (staying p r rest more a.2 n.2)
  where
    c : Context
    c = under r h.name

    d : HandedDown
    d = handed_down c h

    own : is_path p (node_path h) ≡ true → same_node c (record { head = h; inner = below }) (record { head = k; inner = inner }) ≡ true
    own e =
        let is = n.0 (some_at p (node_path h) e) in
        sym (ap₂ (λ (x : Head) (y : Objects). same_node c (record { head = h; inner = below }) (record { head = x; inner = y })) is.0 is.1)
        ∙ node_itself c (record { head = h; inner = below })

stay_itself : (os : Objects) → NodesStay os os
stay_itself none = tt
stay_itself (node h below rest) = (λ _. (refl, refl), stay_itself below, stay_itself rest)

stay_append : (xs ys zs ws : List Object) → AreAlike (in_row xs) (in_row ys) → NodesStay (in_row xs) (in_row ys) → NodesStay (in_row zs) (in_row ws) → NodesStay (in_row (xs ++ zs)) (in_row (ys ++ ws))
stay_append [] [] zs ws a n m = m
stay_append [] (y ∷ ys) zs ws a n m = absurd a
stay_append (x ∷ xs) [] zs ws a n m = absurd a
stay_append (x ∷ xs) (y ∷ ys) zs ws a n m = (n.0, n.1, stay_append xs ys zs ws a.2 n.2 m)

history_stay : (p : Path) (o q : Option Log) → is_some o ≡ is_some q → NodesStay (in_row (history_part p o)) (in_row (history_part p q))
history_stay p None q e = tt
history_stay p (Some l) None e = absurd cc
history_stay p (Some l) (Some m) e =
    ((λ f. absurd cc), tt, ((λ f. absurd cc), tt, ((λ f. absurd cc), tt, ((λ _. (refl, refl)), tt, ((λ _. (refl, refl)), tt, tt)))))

subject_stay : (b : Bool) (p : Path) (n m : ℕ) → NodesStay (in_row (cond b (subject_children p n) [])) (in_row (cond b (subject_children p m) []))
subject_stay true p n m = ((λ f. absurd cc), tt, ((λ _. (refl, refl)), tt, ((λ _. (refl, refl)), tt, tt)))
subject_stay false p n m = tt

pub derived_stay : (plan : Plan) (s t : State) → paths_of s.logs ≡ paths_of t.logs → (o : Option Path) → NodesStay (in_row (derived plan s o)) (in_row (derived plan t o))
derived_stay plan s t e None = tt
derived_stay plan s t e (Some p) =
    let lobby : List Object = cond (plan.lobby && bytes_eq p plan.root) (lobby_children plan) [] in
    let point : List Object = cond (is_among p plan.points) (write_point_op p ∷ []) [] in
    let logs : is_some (at p s.logs) ≡ is_some (at p t.logs) = at_both p s.logs t.logs e in
    stay_append lobby lobby _ _ (alike_itself (in_row lobby)) (stay_itself (in_row lobby))
    (stay_append point point _ _ (alike_itself (in_row point)) (stay_itself (in_row point))
    (stay_append (history_part p (at p s.logs)) (history_part p (at p t.logs)) _ _ (history_alike p (at p s.logs) (at p t.logs) logs) (history_stay p (at p s.logs) (at p t.logs) logs)
    (subject_stay (is_path p plan.subject) p (length s.alarms) (length t.alarms))))

-- looking through a row and then another
pub standing_in-behind : (p : Path) (r : HandedDown) (os : Objects) (zs : List Object) → standing_in p r (in_row (listed os ++ zs)) ≡ or_else (standing_in p r os) (standing_in p r (in_row zs))
standing_in-behind p r none zs = refl
standing_in-behind p r (node h below rest) zs =
    ap (λ o. or_else here (or_else deep o)) (standing_in-behind p r rest zs)
    ∙ ap (or_else here) (sym (or_else-assoc deep (standing_in p r rest) (standing_in p r (in_row zs))))
    ∙ sym (or_else-assoc here (or_else deep (standing_in p r rest)) (standing_in p r (in_row zs)))
  where
    here : Option Standing
    here = only_if (is_path p (node_path h)) (Some (record { context = under r h.name; object = record { head = h; inner = below } }))

    deep : Option Standing
    deep = standing_in p (handed_down (under r h.name) h) below

pub at_path : (p : Path) (o : Option Path) → is_path p o ≡ true → o ≡ Some p
at_path p None e = absurd cc
at_path p (Some q) e = ap (λ (x : Path). Some x) ((bytes_eq-Decides q p).0 e)

-- the status of what is no source, or whose alarms are as they were
pub same_status_at : (plan : Plan) (s t : State) (p : Path) → IsLeft plan s t p → (h : Head) → with_status_at plan s h (Some p) ≡ with_status_at plan t h (Some p)
same_status_at plan s t p left h = go (rule_of plan p) left.status
  where
    go : (o : Option ℕ) → ((rule : ℕ) → o ≡ Some rule → status_of (numbered_from 0 plan.rules) s.alarms rule ≡ status_of (numbered_from 0 plan.rules) t.alarms rule)
        → with_status_by plan s h o ≡ with_status_by plan t h o
    go None f = refl
    go (Some rule) f = ap (λ (x : Status). record h { facets = record h.facets { status = Some x } }) (f rule refl)

-- what roles derive of a node whose log and count are as they were
log_itself : (o : Option Log) → same_log o o ≡ true
log_itself None = refl
log_itself (Some l) =
    and_true (same_slot count count) (same_slot first first && same_slot last last) (slot_itself count)
    (and_true (same_slot first first) (same_slot last last) (slot_itself first) (slot_itself last))
  where
    count : Slot
    count = number_slot (length l.kept)

    first : Slot
    first = time_slot (option_map (λ r. r.time) (first_record l.kept))

    last : Slot
    last = time_slot (option_map (λ r. r.time) (last_item l.kept))

left_derived : (plan : Plan) (s t : State) (p : Path) → IsLeft plan s t p → same_derived plan s t p ≡ true
left_derived plan s t p left =
    and_true (same_log (at p s.logs) (at p t.logs)) (not (is_path p plan.subject) || same_slot (number_slot (length s.alarms)) (number_slot (length t.alarms)))
    (sym (ap (same_log (at p s.logs)) left.log) ∙ log_itself (at p s.logs))
    (go (is_path p plan.subject) left.count)
  where
    go : (b : Bool) → (b ≡ true → length s.alarms ≡ length t.alarms) → (not b || same_slot (number_slot (length s.alarms)) (number_slot (length t.alarms))) ≡ true
    go false f = refl
    go true f = sym (ap (λ n. same_slot (number_slot (length s.alarms)) (number_slot n)) (f refl)) ∙ slot_itself (number_slot (length s.alarms))

same_roles : (plan : Plan) (s t : State) → DifferInValues s t → (p : Path) → IsLeft plan s t p → (r : HandedDown) (os qs : Objects) → DifferInSlots os qs → NodesAreSame p os qs
    → same_standing (standing_in p r (with_roles plan s os)) (standing_in p r (with_roles plan t qs)) ≡ true
same_roles plan s t values p left r none none d n = refl
same_roles plan s t values p left r none (node k inner more) d n = absurd d
same_roles plan s t values p left r (node h below rest) none d n = absurd d
same_roles plan s t values p left r (node h below rest) (node k inner more) d n =
    ap (same_standing (standing_in p r (with_roles plan s (node h below rest)))) (first_alike p r x y _ (with_roles plan t more) (status_alike plan s t h k d.0))
    ∙ same_first (is_path p (node_path x)) (record { context = c; object = derived_own plan s (record { head = h; inner = below }) }) (record { context = c; object = derived_own plan t (record { head = k; inner = inner }) })
    _ _ (standing_in p r (with_roles plan s rest)) (standing_in p r (with_roles plan t more))
    own
    (both_there p e _ _ (alike_append (listed (with_roles plan s below)) (listed (with_roles plan t inner)) (derived plan s (node_path h)) (derived plan t (node_path k)) (alike_listed (with_roles plan s below) (with_roles plan t inner) alike) more_alike))
    (ap₂ (λ i j. same_standing i j) (standing_in-behind p e (with_roles plan s below) (derived plan s (node_path h))) (standing_in-behind p e (with_roles plan t inner) (derived plan t (node_path k)))
    ∙ same_either (standing_in p e (with_roles plan s below)) (standing_in p e (with_roles plan t inner)) (standing_in p e (in_row (derived plan s (node_path h)))) (standing_in p e (in_row (derived plan t (node_path k))))
    (both_there p e (with_roles plan s below) (with_roles plan t inner) alike)
    (same_roles plan s t values p left e below inner d.2 n.1)
    (staying p e (in_row (derived plan s (node_path h))) (in_row (derived plan t (node_path k))) more_alike more_stay))
    (same_roles plan s t values p left r rest more d.3 n.2)
  where
    x : Head
    x = with_status plan s h

    y : Head
    y = with_status plan t k

    c : Context
    c = under r x.name

    e : HandedDown
    e = handed_down c x

    paths : node_path h ≡ node_path k
    paths = ap (λ (u : Head). node_path u) d.0

    alike : AreAlike (with_roles plan s below) (with_roles plan t inner)
    alike = roles_alike plan s t values.histories below inner d.2

    more_alike : AreAlike (in_row (derived plan s (node_path h))) (in_row (derived plan t (node_path k)))
    more_alike = subst (λ (o : Option Path). AreAlike (in_row (derived plan s (node_path h))) (in_row (derived plan t o))) paths (derived_alike plan s t values.histories (node_path h))

    more_stay : NodesStay (in_row (derived plan s (node_path h))) (in_row (derived plan t (node_path k)))
    more_stay = subst (λ (o : Option Path). NodesStay (in_row (derived plan s (node_path h))) (in_row (derived plan t o))) paths (derived_stay plan s t values.histories (node_path h))

    own : is_path p (node_path x) ≡ true → same_node c (derived_own plan s (record { head = h; inner = below })) (derived_own plan t (record { head = k; inner = inner })) ≡ true
    own found =
        let here : is_path p (node_path h) ≡ true = ap (is_path p) (sym (path_off plan s h (node_path h))) ∙ found in
        let is : node_path h ≡ Some p = at_path p (node_path h) here in
        let same : h ≡ k = n.0 here in
        let heads : x ≡ y =
        ap (with_status_at plan s h) is ∙ same_status_at plan s t p left h
        ∙ sym (ap (with_status_at plan t h) is) ∙ ap (λ (u : Head). with_status plan t u) same in
        own_nodes plan s t values (record { head = h; inner = below }) (record { head = k; inner = inner }) (d.0, d.1, d.2, tt) p is c
        ∙ and_true (same_values (head_in c x) (head_in c y)) (same_derived plan s t p)
        (sym (ap (λ (u : Head). same_values (head_in c x) (head_in c u)) heads) ∙ values_itself (head_in c x)) (left_derived plan s t p left)

-- a node that was left alone shows itself as before
pub left_alone : (plan : Plan) (s t : State) → DifferInValues s t → (p : Path) → IsLeft plan s t p → differs plan s t p ≡ false
left_alone plan s t values p left =
    ap not
    (ap₂ (λ i j. same_standing i j) (at_row plan s p) (at_row_of plan s t p values.library)
    ∙ same_roles plan s t values p left (root_row s.library) (node s.tree.head s.tree.inner none) (node t.tree.head t.tree.inner none) values.tree left.own)

-- what is among those of a list that pass a test
among_filter : (P : Path → Bool) (p : Path) (ps : List Path) → is_among p (filter P ps) ≡ (is_among p ps && P p)
among_filter P p [] = refl
among_filter P p (q ∷ ps) = go (bytes_eq q p) (P q) refl refl (among_filter P p ps)
  where
    go : (b d : Bool) → bytes_eq q p ≡ b → P q ≡ d → is_among p (filter P ps) ≡ (is_among p ps && P p) → is_among p (cond d (q ∷ filter P ps) (filter P ps)) ≡ ((b || is_among p ps) && P p)
    go true true e f h = ap (λ x. x || is_among p (filter P ps)) e ∙ sym f ∙ ap P ((bytes_eq-Decides q p).0 e)
    go true false e f h =
        let none : P p ≡ false = sym (ap P ((bytes_eq-Decides q p).0 e)) ∙ f in
        h ∙ ap (λ x. is_among p ps && x) none ∙ and_false (is_among p ps) ∙ sym none
    go false true e f h = ap (λ x. x || is_among p (filter P ps)) e ∙ h
    go false false e f h = h

pub looking : LookingIsEnough
looking plan s t values looked left p =
    among_filter (differs plan s t) p looked ∙ go (is_among p looked) refl
  where
    go : (b : Bool) → is_among p looked ≡ b → (b && differs plan s t p) ≡ differs plan s t p
    go true e = refl
    go false e = sym (left_alone plan s t values p (left p e))
