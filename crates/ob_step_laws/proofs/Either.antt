-- What own slots change and what another library changes: none undoes the other.
use Rattle.std.proofs.Common.{ℕ, ◌≡◌, Bool, true, false, not, ◌&&◌, ◌||◌, cond, List, [], ◌∷◌, ◌++◌, filter, length, map, Option, Some, None, option_map, refl, sym, ap, ap₂, ◌∙◌, subst}
use Rattle.std.specs.Prelude.{is_some, unwrap_or}
use Rattle.std.specs.Str.{bytes_eq}
use Rattle.circular_buffer.specs.Buffer.{last_item}
use Rattle.ob_times.specs.Times.{Instant}
use Rattle.ob_object.specs.declared.head.Head.{Head}
use Rattle.ob_object.specs.declared.head.Slot.{Slot}
use Rattle.ob_object.specs.declared.head.Slot.TheVariants.{Absent, Null, Is}
use Rattle.ob_object.specs.declared.status.Status.{Status}
use Rattle.ob_object.specs.Object.{Objects, none, node, Object, listed, in_row, in_row-listed}
use Rattle.ob_object.specs.Paths.{is_path, node_path}
use Rattle.ob_contracts.specs.Inherit.{Contracts, Words, or_else, only_if, first_given, sources, overridden, implied_by, inherited_head, bare, missing, result_of, head_with_default, row_with_defaults}
use Rattle.ob_site_rules.specs.Build.{Text, Path, time_slot}
use Rattle.ob_site_rules.specs.Shown.{first_record, rule_of, lobby_children, write_point_op, history_part, subject_children, derived, with_status_by, with_status_at, with_status, with_roles, dressed}
use Rattle.ob_site_rules.specs.State.{Log, State, at, is_among}
use Rattle.ob_site_rules.specs.declared.plan.Plan.{Plan}
use Rattle.ob_site_rules.specs.Entries.{empty_object}
use Rattle.ob_site_rules.specs.Sameness.{same_object}
use Rattle.ob_site_rules.specs.Sites.{plain_or_empty, watched_object}
use Rattle.ob_site_laws.proofs.Same.{object_decides}
use Rattle.ob_tree.specs.Contexts.{Context, HandedDown, sources_in, handed_down, under}
use Rattle.ob_shown_laws.specs.Alike.{row, without_values, AreAlike, DifferInSlots, DifferInValues, paths_of}
use Rattle.ob_shown_laws.specs.Numbered.{root_row}
use Rattle.ob_shown_laws.specs.Standing.{Standing, standing_in, root_standing, standing_at}
use Rattle.ob_shown_laws.specs.Changed.{head_in, is_watchable, reaches, differs}
use Rattle.ob_shown_laws.proofs.Standings.{own_row, effective_row, node_of-effective}
use Rattle.ob_shown_laws.proofs.Alikes.{under_alike, handed_alike, head_in-alike, missing_names, names_alike, watched}
use Rattle.ob_shown_laws.proofs.Touches.{in_alike, there}
use Rattle.ob_shown_laws.proofs.Reaching.{alike_itself, alike_listed, history_alike, roles_alike, at_both, at_row, changes_reach, as_watched}
use Rattle.ob_shown_laws.proofs.Looking.{first_alike, looking}
use Rattle.ob_shown_laws.proofs.Stamping.{stamps_tell}
use Rattle.ob_step_laws.specs.Defaults.{unslotted, defaults_off, StayGiven, with_library, is_same, ChangesAreEither, DefaultsSettle}
use Rattle.ob_step_laws.proofs.Unslotted.{off, first-map, overridden-off, sources-off, words-off}

-- what is handed down is the same but for slots
pub record Handed (r q : HandedDown) : Type 0 where
  pub library : defaults_off r.library ≡ defaults_off q.library
  pub implied : r.implied ≡ q.implied
  pub sources : map unslotted r.sources ≡ map unslotted q.sources

-- and a place
pub record Stands (c d : Context) : Type 0 where
  pub library : defaults_off c.library ≡ defaults_off d.library
  pub implied : c.implied ≡ d.implied
  pub over : option_map unslotted c.over ≡ option_map unslotted d.over

pub stands_under : (r q : HandedDown) → Handed r q → (name : Option Text) → Stands (under r name) (under q name)
stands_under r q h name = record {
  library = h.library;
  implied = h.implied;
  over = sym (overridden-off name r.sources) ∙ ap (overridden name) h.sources ∙ overridden-off name q.sources;
}

sources_same : (c d : Context) → Stands c d → (h : Head) → map unslotted (sources_in c h) ≡ map unslotted (sources_in d h)
sources_same c d s h =
    sym (sources-off c.library h c.implied c.over)
    ∙ ap (λ (lib : Contracts). sources lib (off h) c.implied (option_map unslotted c.over)) s.library
    ∙ ap (λ (ws : Option Words). sources (defaults_off d.library) (off h) ws (option_map unslotted c.over)) s.implied
    ∙ ap (λ (o : Option Object). sources (defaults_off d.library) (off h) d.implied o) s.over
    ∙ sources-off d.library h d.implied d.over

pub hands_down : (c d : Context) → Stands c d → (h : Head) → Handed (handed_down c h) (handed_down d h)
hands_down c d s h = record {
  library = s.library;
  implied = sym (words-off h (sources_in c h)) ∙ ap (λ (l : List Object). implied_by (inherited_head (off h) l)) (sources_same c d s h) ∙ words-off h (sources_in d h);
  sources = sources_same c d s h;
}

pub status_same : (c d : Context) → Stands c d → (h : Head) → (head_in c h).facets.status ≡ (head_in d h).facets.status
status_same c d s h =
    let first : List Object → Option Status = first_given (λ o. o.head.facets.status) in
    ap (or_else h.facets.status)
    (sym (first-map (λ o. o.head.facets.status) (sources_in c h)) ∙ ap first (sources_same c d s h) ∙ first-map (λ o. o.head.facets.status) (sources_in d h))

-- heads of the same values are one
abbrev with_values : Head → Slot → Option Status → Head
with_values h slot status = record h { slot = slot; facets = record h.facets { status = status } }

pub one_head : (x y : Head) → without_values x ≡ without_values y → x.slot ≡ y.slot → x.facets.status ≡ y.facets.status → x ≡ y
one_head x y e slot status =
    ap (λ (u : Head). with_values u x.slot x.facets.status) e
    ∙ ap (λ (s : Slot). with_values y s x.facets.status) slot
    ∙ ap (λ (s : Option Status). with_values y y.slot s) status

-- a slot that is the same with another library was the same before
slot_before : (c d : Context) (h k : Head) → without_values h ≡ without_values k → (k.slot ≡ Absent → h.slot ≡ Absent) → (head_in c h).slot ≡ (head_in d k).slot → (head_in c h).slot ≡ (head_in c k).slot
slot_before c d h k e stays same = go k.slot refl
  where
    none_given : (u : Head) → u.slot ≡ Absent → (head_in c u).slot ≡ (head_in c (without_values u)).slot
    none_given u f = ap (λ (v : Slot). (head_in c (record u { slot = v })).slot) f

    at_null : (a : Context) → k.slot ≡ Null → (head_in a k).slot ≡ Null
    at_null a f = ap (λ (v : Slot). (head_in a (record k { slot = v })).slot) f

    go : (v : Slot) → k.slot ≡ v → (head_in c h).slot ≡ (head_in c k).slot
    go Absent f = none_given h (stays f) ∙ ap (λ (u : Head). (head_in c u).slot) e ∙ sym (none_given k f)
    go Null f = same ∙ at_null d f ∙ sym (at_null c f)
    go (Is v) f =
        same ∙ ap (λ (v : Slot). (head_in d (record k { slot = v })).slot) f ∙ sym (ap (λ (v : Slot). (head_in c (record k { slot = v })).slot) f)

head_before : (c d : Context) → Stands c d → (h k : Head) → without_values h ≡ without_values k → (k.slot ≡ Absent → h.slot ≡ Absent)
    → (head_in c h).slot ≡ (head_in d k).slot → (head_in c h).facets.status ≡ (head_in d k).facets.status → head_in c h ≡ head_in c k
head_before c d s h k e stays slot status =
    one_head (head_in c h) (head_in c k) (head_in-alike c h k e) (slot_before c d h k e stays slot) (status ∙ sym (status_same c d s k))

-- rows that have more behind
abbrev pub behind : Objects → List Object → Objects
behind r os = row_with_defaults (in_row (listed r ++ os))

pub behind_rows : (r : Objects) (os : List Object) → behind r os ≡ in_row (listed (row_with_defaults r) ++ listed (row_with_defaults (in_row os)))
behind_rows none os = sym (in_row-listed (row_with_defaults (in_row os)))
behind_rows (node h inner rest) os = ap (node (head_with_default h) (row_with_defaults inner)) (behind_rows rest os)

-- what a row comes to is told by what its own objects come to
effective_same : (d : HandedDown) (below inner : Objects) → AreAlike below inner → row_with_defaults (own_row d below) ≡ row_with_defaults (own_row d inner) → effective_row d below ≡ effective_row d inner
effective_same d below inner alike e =
    behind_rows (own_row d below) (map bare (missing (listed below) d.sources))
    ∙ ap (λ (r : Objects). in_row (listed r ++ listed (row_with_defaults (in_row (map bare (missing (listed below) d.sources)))))) e
    ∙ sym (behind_rows (own_row d inner) (map bare (missing (listed below) d.sources)))
    ∙ ap (λ (l : List Object). behind (own_row d inner) (map bare l)) (missing_names (listed below) (listed inner) d.sources (names_alike below inner alike))

-- the parts of two rows that are one
abbrev pub head_of : Head → Objects → Head
head_of h none = h
head_of h (node k inner rest) = k

abbrev pub inner_of : Objects → Objects
inner_of none = none
inner_of (node k inner rest) = inner

abbrev pub rest_of : Objects → Objects
rest_of none = none
rest_of (node k inner rest) = rest

-- own objects that come to the same with another library came to the same before
row_before : (r q : HandedDown) → Handed r q → (os qs : Objects) → AreAlike os qs → StayGiven os qs → (xs ys : List Object)
    → behind (own_row r os) xs ≡ behind (own_row q qs) ys → row_with_defaults (own_row r os) ≡ row_with_defaults (own_row r qs)
unfolding result_of
row_before r q h none none a g xs ys e = refl
row_before r q h none (node k inner more) a g xs ys e = absurd a
row_before r q h (node i below rest) none a g xs ys e = absurd a
row_before r q h (node i below rest) (node k inner more) a g xs ys e =
    ap (λ (u : Head). node u (effective_row d below) (row_with_defaults (own_row r rest))) heads
    ∙ ap (λ (u : Objects). node (head_in c k) u (row_with_defaults (own_row r rest)))
    (inners (row_before d d2 (hands_down c c2 stands i) below inner a.1 g.1 (map bare (missing (listed below) d.sources)) (map bare (missing (listed inner) d2.sources))))
    ∙ ap (node (head_in c k) (effective_row d inner)) (row_before r q h rest more a.2 g.2 xs ys (ap rest_of e))
    ∙ ap (λ (u : Context). node (head_in u k) (effective_row d inner) (row_with_defaults (own_row r more))) (sym (under_alike r i k a.0))
    ∙ ap (λ (u : HandedDown). node (head_in (under r k.name) k) (effective_row u inner) (row_with_defaults (own_row r more)))
    (sym (ap (λ (u : Context). handed_down u k) (under_alike r i k a.0) ∙ handed_alike c i k a.0))
  where
    c : Context
    c = under r i.name

    c2 : Context
    c2 = under q i.name

    d : HandedDown
    d = handed_down c i

    d2 : HandedDown
    d2 = handed_down c2 i

    stands : Stands c c2
    stands = stands_under r q h i.name

    first : head_in c i ≡ head_in c2 k
    first = ap (head_of i) e ∙ ap (λ (u : Context). head_in u k) (under_alike q i k a.0)

    heads : head_in c i ≡ head_in c k
    heads = head_before c c2 stands i k a.0 g.0 (ap (λ (u : Head). u.slot) first) (ap (λ (u : Head). u.facets.status) first)

    second : effective_row d below ≡ effective_row d2 inner
    second =
        ap inner_of e
        ∙ ap (λ (u : HandedDown). effective_row u inner) (ap (λ (u : Context). handed_down u k) (under_alike q i k a.0) ∙ handed_alike c2 i k a.0)

    inners : (effective_row d below ≡ effective_row d2 inner → row_with_defaults (own_row d below) ≡ row_with_defaults (own_row d inner)) → effective_row d below ≡ effective_row d inner
    inners deep = effective_same d below inner a.1 (deep second)

abbrev pub plain_or : Bool → Object → Object
plain_or b o = cond b o empty_object

-- an object as it is watched, by its head and what is in it
abbrev pub shape : Context → Head → Objects → Object
shape c h below = record { head = record (head_in c h) { name = None; href = None }; inner = effective_row (handed_down c h) below }

pub as_shape : (c : Context) (h : Head) (below : Objects) → as_watched (Some (record { context = c; object = record { head = h; inner = below } })) ≡ plain_or (is_watchable h) (shape c h below)
unfolding result_of
as_shape c h below = refl

at_node : (c d : Context) → Stands c d → (h k : Head) (below inner : Objects) → without_values h ≡ without_values k → (k.slot ≡ Absent → h.slot ≡ Absent) → AreAlike below inner → StayGiven below inner
    → as_watched (Some (record { context = c; object = record { head = h; inner = below } })) ≡ as_watched (Some (record { context = d; object = record { head = k; inner = inner } }))
    → as_watched (Some (record { context = c; object = record { head = h; inner = below } })) ≡ as_watched (Some (record { context = c; object = record { head = k; inner = inner } }))
at_node c d s h k below inner e stays alike given same =
    as_shape c h below
    ∙ go (is_watchable h) refl (ap (λ (u : Head). is_watchable u) e) (sym (as_shape c h below) ∙ same ∙ as_shape d k inner)
    ∙ sym (as_shape c k inner)
  where
    heads : shape c h below ≡ shape d k inner → (shape c h below).head ≡ (shape c k inner).head
    heads f =
        let one : head_in c h ≡ head_in c k =
        head_before c d s h k e stays (ap (λ (o : Object). o.head.slot) f) (ap (λ (o : Object). o.head.facets.status) f) in
        ap (λ (u : Head). record u { name = None; href = None }) one

    rows : shape c h below ≡ shape d k inner → (shape c h below).inner ≡ (shape c k inner).inner
    rows f =
        let second : effective_row (handed_down c h) below ≡ effective_row (handed_down d h) inner =
        ap (λ (o : Object). o.inner) f ∙ ap (λ (u : HandedDown). effective_row u inner) (handed_alike d h k e) in
        effective_same (handed_down c h) below inner alike
        (row_before (handed_down c h) (handed_down d h) (hands_down c d s h) below inner alike given
        (map bare (missing (listed below) (handed_down c h).sources)) (map bare (missing (listed inner) (handed_down d h).sources)) second)
        ∙ ap (λ (u : HandedDown). effective_row u inner) (sym (handed_alike c h k e))

    go : (b : Bool) → is_watchable h ≡ b → is_watchable h ≡ is_watchable k → plain_or (is_watchable h) (shape c h below) ≡ plain_or (is_watchable k) (shape d k inner)
        → plain_or (is_watchable h) (shape c h below) ≡ plain_or (is_watchable k) (shape c k inner)
    go true f g both =
        let all : shape c h below ≡ shape d k inner =
        sym (ap (λ x. plain_or x (shape c h below)) f) ∙ both ∙ ap (λ x. plain_or x (shape d k inner)) (sym g ∙ f) in
        ap (λ x. plain_or x (shape c h below)) f
        ∙ ap₂ (λ (u : Head) (v : Objects). let o : Object = record { head = u; inner = v } in o) (heads all) (rows all)
        ∙ ap (λ x. plain_or x (shape c k inner)) (sym f ∙ g)
    go false f g both = ap (λ x. plain_or x (shape c h below)) f ∙ ap (λ x. plain_or x (shape c k inner)) (sym f ∙ g)

found_before : (p : Path) (r q : HandedDown) → Handed r q → (os qs : Objects) → AreAlike os qs → StayGiven os qs → as_watched (standing_in p r os) ≡ as_watched (standing_in p q qs)
    → as_watched (standing_in p r os) ≡ as_watched (standing_in p r qs)
found_before p r q h none none a g e = refl
found_before p r q h none (node k inner more) a g e = absurd a
found_before p r q h (node i below rest) none a g e = absurd a
found_before p r q h (node i below rest) (node k inner more) a g e =
    go (is_path p (node_path i)) (standing_in p d below) (standing_in p d2 inner) (standing_in p d inner)
    (there p d below ∙ in_alike p below inner a.1 ∙ sym (there p d2 inner))
    (there p d below ∙ in_alike p below inner a.1 ∙ sym (there p d inner))
    (found_before p d d2 (hands_down c c2 stands i) below inner a.1 g.1)
    (found_before p r q h rest more a.2 g.2)
    (e ∙ ap as_watched (first_alike p q i k inner more a.0))
    ∙ ap as_watched (sym (first_alike p r i k inner more a.0))
  where
    c : Context
    c = under r i.name

    c2 : Context
    c2 = under q i.name

    d : HandedDown
    d = handed_down c i

    d2 : HandedDown
    d2 = handed_down c2 i

    stands : Stands c c2
    stands = stands_under r q h i.name

    x : Standing
    x = record { context = c; object = record { head = i; inner = below } }

    y : Context → Standing
    y u = record { context = u; object = record { head = k; inner = inner } }

    go : (b : Bool) (u v w : Option Standing) → is_some u ≡ is_some v → is_some u ≡ is_some w
        → (as_watched u ≡ as_watched v → as_watched u ≡ as_watched w)
        → (as_watched (standing_in p r rest) ≡ as_watched (standing_in p q more) → as_watched (standing_in p r rest) ≡ as_watched (standing_in p r more))
        → as_watched (or_else (only_if b (Some x)) (or_else u (standing_in p r rest))) ≡ as_watched (or_else (only_if b (Some (y c2))) (or_else v (standing_in p q more)))
        → as_watched (or_else (only_if b (Some x)) (or_else u (standing_in p r rest))) ≡ as_watched (or_else (only_if b (Some (y c))) (or_else w (standing_in p r more)))
    go true u v w s t deep later f = at_node c c2 stands i k below inner a.0 g.0 a.1 g.1 f
    go false (Some u) (Some v) (Some w) s t deep later f = deep f
    go false (Some u) (Some v) None s t deep later f = absurd cc
    go false (Some u) None w s t deep later f = absurd cc
    go false None (Some v) w s t deep later f = absurd cc
    go false None None (Some w) s t deep later f = absurd cc
    go false None None None s t deep later f = later f

-- what roles derive is given, where it has a value
pub given_itself : (r : Objects) → StayGiven r r
given_itself none = tt
given_itself (node h inner rest) = (λ e. e, given_itself inner, given_itself rest)

given_append : (xs ys zs ws : List Object) → AreAlike (in_row xs) (in_row ys) → StayGiven (in_row xs) (in_row ys) → StayGiven (in_row zs) (in_row ws) → StayGiven (in_row (xs ++ zs)) (in_row (ys ++ ws))
given_append [] [] zs ws a g k = k
given_append [] (y ∷ ys) zs ws a g k = absurd a
given_append (x ∷ xs) [] zs ws a g k = absurd a
given_append (x ∷ xs) (y ∷ ys) zs ws a g k = (g.0, g.1, given_append xs ys zs ws a.2 g.2 k)

no_time : (o : Option Instant) → time_slot o ≡ Absent → ⊥
no_time None e = cc
no_time (Some t) e = cc

history_given : (p : Path) (o q : Option Log) → is_some o ≡ is_some q → StayGiven (in_row (history_part p o)) (in_row (history_part p q))
history_given p None q e = tt
history_given p (Some l) None e = tt
history_given p (Some l) (Some m) e =
    ((λ f. absurd cc), tt, ((λ f. absurd (no_time (option_map (λ r. r.time) (first_record m.kept)) f)), tt, ((λ f. absurd (no_time (option_map (λ r. r.time) (last_item m.kept)) f)), tt, ((λ f. refl), tt, ((λ f. refl), tt, tt)))))

subject_given : (b : Bool) (p : Path) (n m : ℕ) → StayGiven (in_row (cond b (subject_children p n) [])) (in_row (cond b (subject_children p m) []))
subject_given true p n m = ((λ f. absurd cc), tt, ((λ f. refl), tt, ((λ f. refl), tt, tt)))
subject_given false p n m = tt

derived_given : (plan : Plan) (s t : State) → paths_of s.logs ≡ paths_of t.logs → (o : Option Path) → StayGiven (in_row (derived plan s o)) (in_row (derived plan t o))
derived_given plan s t e None = tt
derived_given plan s t e (Some p) =
    let lobby : List Object = cond (plan.lobby && bytes_eq p plan.root) (lobby_children plan) [] in
    let point : List Object = cond (is_among p plan.points) (write_point_op p ∷ []) [] in
    let logs : is_some (at p s.logs) ≡ is_some (at p t.logs) = at_both p s.logs t.logs e in
    given_append lobby lobby _ _ (alike_itself (in_row lobby)) (given_itself (in_row lobby))
    (given_append point point _ _ (alike_itself (in_row point)) (given_itself (in_row point))
    (given_append (history_part p (at p s.logs)) (history_part p (at p t.logs)) _ _ (history_alike p (at p s.logs) (at p t.logs) logs) (history_given p (at p s.logs) (at p t.logs) logs)
    (subject_given (is_path p plan.subject) p (length s.alarms) (length t.alarms))))

slot_kept : (plan : Plan) (s : State) (h : Head) (o : Option Path) → (with_status_at plan s h o).slot ≡ h.slot
slot_kept plan s h None = refl
slot_kept plan s h (Some p) = by_rule (rule_of plan p)
  where
    by_rule : (r : Option ℕ) → (with_status_by plan s h r).slot ≡ h.slot
    by_rule None = refl
    by_rule (Some r) = refl

given_listed : (r q : Objects) → StayGiven r q → StayGiven (in_row (listed r)) (in_row (listed q))
given_listed r q g = subst (λ (x : Objects). StayGiven x (in_row (listed q))) (sym (in_row-listed r)) (subst (λ (x : Objects). StayGiven r x) (sym (in_row-listed q)) g)

pub roles_given : (plan : Plan) (s t : State) → paths_of s.logs ≡ paths_of t.logs → (os qs : Objects) → DifferInSlots os qs → StayGiven os qs → StayGiven (with_roles plan s os) (with_roles plan t qs)
roles_given plan s t e none none d g = tt
roles_given plan s t e none (node k inner more) d g = tt
roles_given plan s t e (node h below rest) none d g = tt
roles_given plan s t e (node h below rest) (node k inner more) d g = (
  λ f. slot_kept plan s h (node_path h) ∙ g.0 (sym (slot_kept plan t k (node_path k)) ∙ f),
  given_append (listed (with_roles plan s below)) (listed (with_roles plan t inner)) (derived plan s (node_path h)) (derived plan t (node_path k))
      (alike_listed (with_roles plan s below) (with_roles plan t inner) (roles_alike plan s t e below inner d.2))
      (given_listed (with_roles plan s below) (with_roles plan t inner) (roles_given plan s t e below inner d.2 g.1))
      (subst (λ (o : Option Path). StayGiven (in_row (derived plan s (node_path h))) (in_row (derived plan t o))) (ap (λ (u : Head). node_path u) d.0) (derived_given plan s t e (node_path h))),
  roles_given plan s t e rest more d.3 g.2,
)

-- statuses and what roles derive don't depend on the library
status_library : (plan : Plan) (s : State) (lib : Contracts) (h : Head) (o : Option Path) → with_status_at plan (with_library lib s) h o ≡ with_status_at plan s h o
status_library plan s lib h None = refl
status_library plan s lib h (Some p) = by_rule (rule_of plan p)
  where
    by_rule : (r : Option ℕ) → with_status_by plan (with_library lib s) h r ≡ with_status_by plan s h r
    by_rule None = refl
    by_rule (Some r) = refl

derived_library : (plan : Plan) (s : State) (lib : Contracts) (o : Option Path) → derived plan (with_library lib s) o ≡ derived plan s o
derived_library plan s lib None = refl
derived_library plan s lib (Some p) = refl

pub roles_library : (plan : Plan) (s : State) (lib : Contracts) (r : Objects) → with_roles plan (with_library lib s) r ≡ with_roles plan s r
roles_library plan s lib none = refl
roles_library plan s lib (node h inner rest) =
    ap (λ (k : Head). node k (in_row (listed (with_roles plan (with_library lib s) inner) ++ derived plan (with_library lib s) (node_path h))) (with_roles plan (with_library lib s) rest)) (status_library plan s lib h (node_path h))
    ∙ ap₂ (λ (q : Objects) (l : List Object). node (with_status plan s h) (in_row (listed q ++ l)) (with_roles plan (with_library lib s) rest)) (roles_library plan s lib inner) (derived_library plan s lib (node_path h))
    ∙ ap (node (with_status plan s h) (in_row (listed (with_roles plan s inner) ++ derived plan s (node_path h)))) (roles_library plan s lib rest)

pub watched_at : (plan : Plan) (s : State) (p : Path) → watched_object plan s p ≡ as_watched (standing_in p (root_row s.library) (row (dressed plan s)))
watched_at plan s p =
    ap (λ (o : Option Object). plain_or_empty (watched (unwrap_or o empty_object))) (node_of-effective p (root_standing plan s))
    ∙ ap as_watched (at_row plan s p)

-- where a watch shows the same after both changes it did after the first
shown_before : (plan : Plan) (s t : State) (new : Contracts) → DifferInValues s t → StayGiven (row s.tree) (row t.tree) → defaults_off t.library ≡ defaults_off new → (p : Path)
    → watched_object plan s p ≡ watched_object plan (with_library new t) p → watched_object plan s p ≡ watched_object plan t p
shown_before plan s t new values given differ p e =
    watched_at plan s p
    ∙ found_before p (root_row s.library) (root_row new) (record { library = ap defaults_off values.library ∙ differ; implied = refl; sources = refl })
    (row (dressed plan s)) (row (dressed plan t))
    (roles_alike plan s t values.histories (row s.tree) (row t.tree) values.tree)
    (roles_given plan s t values.histories (row s.tree) (row t.tree) values.tree given)
    (sym (watched_at plan s p) ∙ e ∙ watched_at plan (with_library new t) p ∙ ap (λ (r : Objects). as_watched (standing_in p (root_row new) r)) (roles_library plan t new (row t.tree)))
    ∙ ap (λ (lib : Contracts). as_watched (standing_in p (root_row lib) (row (dressed plan t)))) values.library
    ∙ sym (watched_at plan t p)

both_same : (a b c : Object) → (a ≡ c → a ≡ b) → same_object a c ≡ (same_object a b && same_object b c)
both_same a b c before = go (same_object a c) (same_object a b) (same_object b c) refl refl refl
  where
    go : (x y z : Bool) → same_object a c ≡ x → same_object a b ≡ y → same_object b c ≡ z → x ≡ (y && z)
    go true y z e f g =
        let one : a ≡ c = (object_decides a c).0 e in
        let two : a ≡ b = before one in
        ap₂ (λ u v. u && v) (sym ((object_decides a b).1 two) ∙ f) (sym ((object_decides b c).1 (sym two ∙ one)) ∙ g)
    go false false z e f g = refl
    go false true false e f g = refl
    go false true true e f g = sym e ∙ (object_decides a c).1 ((object_decides a b).0 f ∙ (object_decides b c).0 g)

pub changes_are_either : ChangesAreEither
changes_are_either plan s t new values given differ p =
    both_same (watched_object plan s p) (watched_object plan t p) (watched_object plan (with_library new t) p) (shown_before plan s t new values given differ p)

pub defaults_settle : DefaultsSettle
defaults_settle plan s t new values given differ paths looked left c vs past =
    (stamps_tell plan).settles s (with_library new t) (λ p. reaches touched (standing_at plan s p) || not (is_same plan t (with_library new t) p))
    (λ p. changes_are_either plan s t new values given differ p
    ∙ ap (λ b. b && is_same plan t (with_library new t) p) (changes_reach plan s t values paths touched (looking plan s t values looked left) p)
    ∙ either (reaches touched (standing_at plan s p)) (is_same plan t (with_library new t) p))
    c vs past
  where
    touched : List Path
    touched = filter (differs plan s t) looked

    either : (a b : Bool) → (not a && b) ≡ not (a || not b)
    either true b = refl
    either false true = refl
    either false false = refl
