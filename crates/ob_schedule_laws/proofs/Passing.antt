-- A value that a Put lets through is let through after writes too: limits, ranges and kinds stay.
use Rattle.std.proofs.Common.{◌≡◌, Bool, true, false, cond, not, ◌||◌, List, [], ◌∷◌, ◌++◌, map, Option, Some, None, option_map, refl, sym, ap, ap₂, subst, ◌∙◌}
use Rattle.std.specs.Prelude.{is_some, option_and_then, unwrap_or}
use Rattle.std.specs.List.{list_any}
use Rattle.ob_values.specs.declared.value.Value.{Value}
use Rattle.ob_values.specs.declared.value.Value.TheVariants as value
use Rattle.ob_contracts.specs.Inherit.{Contracts, contract_of, or_else, bare, missing, row_with_defaults, result_of}
use Rattle.ob_object.specs.declared.head.Slot.TheVariants.{Is}
use Rattle.ob_object.specs.declared.head.Head.{Head}
use Rattle.ob_object.specs.Object.{Objects, none, node, Object, in_row, listed}
use Rattle.ob_object.specs.Write.{verdict}
use Rattle.ob_object.specs.WellFormed.{has_name, named}
use Rattle.ob_object.specs.Paths.{node_path}
use Rattle.ob_points.specs.Points.{suits, passes}
use Rattle.ob_site_rules.specs.Build.{Text, Path}
use Rattle.ob_site_rules.specs.declared.fault.Fault.{Fault}
use Rattle.ob_site_rules.specs.Shown.{node_of, derived, with_roles, with_status, dressed, shown}
use Rattle.ob_site_rules.specs.State.{State}
use Rattle.ob_site_rules.specs.declared.plan.Plan.{Plan}
use Rattle.ob_site_rules.specs.Writes.{ranged, has_child, is_listed, verdict_fault, slot_fault}
use Rattle.ob_plain_state.proofs.Keeping.{found_or}
use Rattle.ob_shown_laws.specs.Alike.{row, without_values, AreAlike, DifferInSlots, DifferInValues}
use Rattle.ob_shown_laws.specs.Changed.{head_in, PathsDiffer}
use Rattle.ob_shown_laws.specs.Own.{derived_own}
use Rattle.ob_shown_laws.proofs.Alikes.{head_in-alike, handed_alike, missing_names, names_alike}
use Rattle.ob_shown_laws.proofs.OwnStanding.{own_tells_differences}
use Rattle.ob_shown_laws.proofs.Reaching.{status_alike, alike_append, alike_listed, roles_alike, derived_alike}
use Rattle.ob_shown_laws.proofs.Standings.{own_row, effective_row}
use Rattle.ob_tree.specs.Contexts.{Context, HandedDown, handed_down, comes_to}
use Rattle.ob_parts.proofs.Earliest.{some_one}
use Rattle.ob_schedule_laws.proofs.Shows.{IsShown, shown_at, same_node}
use Rattle.ob_schedule_laws.proofs.Slots.{AreSame, nodes_same}

abbrev names : List Object → List (Option Text)
names os = map (λ o. o.head.name) os

any_named : (n : Text) (os : List Object) → is_some (named n os) ≡ list_any (has_name n) (names os)
any_named n [] = refl
any_named n (o ∷ os) = found_or (has_name n o.head.name) o (named n os) ∙ ap (λ b. has_name n o.head.name || b) (any_named n os)

-- what rows that are alike come to has the same names
names_results : (r : HandedDown) (os qs : Objects) → AreAlike os qs → (behind : List Object)
    → names (listed (row_with_defaults (in_row (listed (own_row r os) ++ behind)))) ≡ names (listed (row_with_defaults (in_row (listed (own_row r qs) ++ behind))))
names_results r none none a behind = refl
names_results r none (node k inner more) a behind = absurd a
names_results r (node h below rest) none a behind = absurd a
names_results r (node h below rest) (node k inner more) a behind =
    ap₂ (λ (n : Option Text) (ns : List (Option Text)). n ∷ ns) (ap (λ (u : Head). u.name) a.0) (names_results r rest more a.2 behind)

names_inner : (r : HandedDown) (os qs : Objects) → AreAlike os qs → names (listed (effective_row r os)) ≡ names (listed (effective_row r qs))
names_inner r os qs a =
    names_results r os qs a (map bare (missing (listed os) r.sources))
    ∙ ap (λ (l : List Object). names (listed (row_with_defaults (in_row (listed (own_row r qs) ++ map bare l))))) (missing_names (listed os) (listed qs) r.sources (names_alike os qs a))

names_comes : (c : Context) (o q : Object) → without_values o.head ≡ without_values q.head → AreAlike o.inner q.inner → names (listed (comes_to c o).inner) ≡ names (listed (comes_to c q).inner)
unfolding result_of
names_comes c o q e a =
    names_inner (handed_down c o.head) o.inner q.inner a
    ∙ ap (λ (r : HandedDown). names (listed (effective_row r q.inner))) (sym (handed_alike c o.head q.head e))

-- what is asked of a value, apart from the range
abbrev verdict_by : Value → Head → Bool → Option Fault
verdict_by v h is_in = verdict_fault (verdict h.kind h.facets.min h.facets.max v is_in)

head_comes : (plan : Plan) (s : State) (c : Context) (o : Object) → (comes_to c (derived_own plan s o)).head ≡ head_in c (with_status plan s o.head)
unfolding result_of
head_comes plan s c o = refl

module _ (plan : Plan) (s t : State) (d : DifferInValues s t) (differ : PathsDiffer (row (dressed plan s))) (differ' : PathsDiffer (row (dressed plan t))) where
  -- an own node is shown with the same facets and with children of the same names
  module _ (p : Path) (v : IsShown plan s p) (w : IsShown plan t p) where
    objects : DifferInSlots (row v.at.object) (row w.at.object)
    objects = same_node s t p v.at.object w.at.object d v.node_is w.node_is

    context : w.at.context ≡ v.at.context
    context = (own_tells_differences plan s t d).stands p v.at w.at v.own w.own

    abbrev shown_s : Object
    shown_s = comes_to v.at.context (derived_own plan s v.at.object)

    abbrev shown_t : Object
    shown_t = comes_to w.at.context (derived_own plan t w.at.object)

    heads_alike : without_values (derived_own plan s v.at.object).head ≡ without_values (derived_own plan t w.at.object).head
    heads_alike = status_alike plan s t v.at.object.head w.at.object.head objects.0

    facets_stay : without_values shown_s.head ≡ without_values shown_t.head
    facets_stay =
        ap without_values (head_comes plan s v.at.context v.at.object)
        ∙ (head_in-alike v.at.context (with_status plan s v.at.object.head) (with_status plan t w.at.object.head) heads_alike
        ∙ (ap (λ (c : Context). without_values (head_in c (with_status plan t w.at.object.head))) (sym context)
        ∙ sym (ap without_values (head_comes plan t w.at.context w.at.object))))

    inner_alike : AreAlike (derived_own plan s v.at.object).inner (derived_own plan t w.at.object).inner
    inner_alike =
        alike_append (listed (with_roles plan s v.at.object.inner)) (listed (with_roles plan t w.at.object.inner)) (derived plan s (node_path v.at.object.head)) (derived plan t (node_path w.at.object.head))
        (alike_listed (with_roles plan s v.at.object.inner) (with_roles plan t w.at.object.inner) (roles_alike plan s t d.histories v.at.object.inner w.at.object.inner objects.2))
        (subst (λ (o : Option Path). AreAlike (in_row (derived plan s (node_path v.at.object.head))) (in_row (derived plan t o))) (ap (λ (u : Head). node_path u) objects.0) (derived_alike plan s t d.histories (node_path v.at.object.head)))

    names_stay : names (listed shown_s.inner) ≡ names (listed shown_t.inner)
    names_stay =
        names_comes v.at.context (derived_own plan s v.at.object) (derived_own plan t w.at.object) heads_alike inner_alike
        ∙ ap (λ (c : Context). names (listed (comes_to c (derived_own plan t w.at.object)).inner)) (sym context)

  there_stays : (p : Path) → is_some (node_of p t.tree) ≡ is_some (node_of p s.tree)
  there_stays p = go (node_of p s.tree) (node_of p t.tree) (nodes_same p (row s.tree) (row t.tree) d.tree)
    where
      go : (a b : Option Object) → AreSame a b → is_some b ≡ is_some a
      go None None e = refl
      go None (Some b) e = absurd e
      go (Some a) None e = absurd e
      go (Some a) (Some b) e = refl

  -- a range lists what it did
  ranged_stays : (n r : Text) → has_child n (ranged plan s r) ≡ has_child n (ranged plan t r)
  ranged_stays n r =
      ap (λ (l : Contracts). has_child n (or_else (contract_of l r) (cond (is_some (node_of r s.tree)) (shown plan s r) None))) d.library
      ∙ (go (contract_of t.library r) (is_some (node_of r s.tree)) refl
      ∙ ap (λ b. has_child n (or_else (contract_of t.library r) (cond b (shown plan t r) None))) (sym (there_stays r)))
    where
      go : (c : Option Object) (b : Bool) → is_some (node_of r s.tree) ≡ b → has_child n (or_else c (cond b (shown plan s r) None)) ≡ has_child n (or_else c (cond b (shown plan t r) None))
      go (Some o) b e = refl
      go None false e = refl
      go None true e =
          let v = shown_at plan s r differ e in
          let w = shown_at plan t r differ' (there_stays r ∙ e) in
          ap (has_child n) v.shows
          ∙ (any_named n (listed (shown_s r v w).inner) ∙ (ap (list_any (has_name n)) (names_stay r v w) ∙ sym (any_named n (listed (shown_t r v w).inner))))
          ∙ sym (ap (has_child n) w.shows)

  range_stays : (n : Text) (o : Option Text) → has_child n (option_and_then (ranged plan s) o) ≡ has_child n (option_and_then (ranged plan t) o)
  range_stays n None = refl
  range_stays n (Some r) = ranged_stays n r

  listed_stays : (v : Value) (h : Head) → is_listed plan s h v ≡ is_listed plan t h v
  listed_stays (value.Enum n) h = range_stays n h.facets.range
  listed_stays (value.Bool b) h = refl
  listed_stays (value.Int i) h = refl
  listed_stays (value.Real r) h = refl
  listed_stays (value.Str x) h = refl
  listed_stays (value.Uri x) h = refl
  listed_stays (value.Abstime a) h = refl
  listed_stays (value.Reltime a) h = refl
  listed_stays (value.Date a) h = refl
  listed_stays (value.Time a) h = refl

  listed_by : (v : Value) (h : Head) → is_listed plan t (without_values h) v ≡ is_listed plan t h v
  listed_by (value.Enum n) h = refl
  listed_by (value.Bool b) h = refl
  listed_by (value.Int i) h = refl
  listed_by (value.Real r) h = refl
  listed_by (value.Str x) h = refl
  listed_by (value.Uri x) h = refl
  listed_by (value.Abstime a) h = refl
  listed_by (value.Reltime a) h = refl
  listed_by (value.Date a) h = refl
  listed_by (value.Time a) h = refl

  -- what is wrong with a value stays
  pub fault_stays : (p : Path) (x : Value) (o q : Object) → is_some (node_of p s.tree) ≡ true → shown plan s p ≡ Some o → shown plan t p ≡ Some q
      → slot_fault plan s o.head (Is x) ≡ slot_fault plan t q.head (Is x)
  fault_stays p x o q there e f =
      ap (verdict_by x o.head) (listed_stays x o.head ∙ sym (listed_by x o.head))
      ∙ (ap (λ (u : Head). verdict_by x u (is_listed plan t u x)) alike
      ∙ ap (verdict_by x q.head) (listed_by x q.head))
    where
      v : IsShown plan s p
      v = shown_at plan s p differ there

      w : IsShown plan t p
      w = shown_at plan t p differ' (there_stays p ∙ there)

      alike : without_values o.head ≡ without_values q.head
      alike =
          ap (λ (z : Object). without_values z.head) (some_one o (shown_s p v w) (sym e ∙ v.shows))
          ∙ (facets_stay p v w ∙ ap (λ (z : Object). without_values z.head) (some_one (shown_t p v w) q (sym w.shows ∙ f)))

-- So a value that is let through is let through.
passes_by : (plan : Plan) (s : State) (x : Value) (r : Option Object) (o : Object) → r ≡ Some o → unwrap_or (option_map (suits plan s x) r) false ≡ true → slot_fault plan s o.head (Is x) ≡ None
passes_by plan s x r o e passes = go (slot_fault plan s o.head (Is x)) (sym (ap (λ (y : Option Object). unwrap_or (option_map (suits plan s x) y) false) e) ∙ passes)
  where
    go : (f : Option Fault) → not (is_some f) ≡ true → f ≡ None
    go None h = refl
    go (Some f) h = absurd cc

pub passes_still : (plan : Plan) (s t : State) → DifferInValues s t → PathsDiffer (row (dressed plan s)) → PathsDiffer (row (dressed plan t)) → (p : Path) (x : Value) (q : Object)
    → is_some (node_of p s.tree) ≡ true → passes plan s p x ≡ true → shown plan t p ≡ Some q → slot_fault plan t q.head (Is x) ≡ None
passes_still plan s t d differ differ' p x q there passes f =
    let v = shown_at plan s p differ there in
    sym (fault_stays plan s t d differ differ' p x _ q there v.shows f) ∙ passes_by plan s x (shown plan s p) _ v.shows passes
