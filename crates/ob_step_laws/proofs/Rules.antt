-- Limits of rules are of the kind of their source.
use Rattle.std.proofs.Common.{◌≡◌, ℕ, ◌+◌, Bool, true, false, cond, not, ◌&&◌, codes, bytes_eq, IsTrue, List, [], ◌∷◌, filter_map, flat_map, find, All, option_map, option_and_then, Option, Some, None, refl, sym, ap, ◌∙◌, subst, true≢false, add-one}
use Rattle.std.specs.Prelude.{slice_get}
use Rattle.std.specs.List.{AllByRecursion}
use Rattle.std.proofs.lemmas.Slice.Eq.{bytes_eq-Decides}
use Rattle.ob_values.specs.declared.value.Value.TheVariants as value
use Rattle.ob_object.specs.declared.kind.Kind.{Kind}
use Rattle.ob_object.specs.declared.kind.Kind.TheVariants as kind
use Rattle.ob_object.specs.declared.head.Head.{Head}
use Rattle.ob_object.specs.declared.head.Slot.{Slot}
use Rattle.ob_object.specs.declared.head.Slot.TheVariants.{Absent, Null, Is}
use Rattle.ob_object.specs.Kinds.{same_kind}
use Rattle.ob_object.specs.Fits.{fits_slot}
use Rattle.ob_object.specs.Object.{Object, Objects, none, node, count, listed, children, parts}
use Rattle.ob_object.specs.WellFormed.{has_name, named}
use Rattle.ob_object.specs.Paths.{is_path, node_path}
use Rattle.ob_contracts.proofs.Fitting.{one_kind}
use Rattle.ob_alarms.specs.declared.rule.Num.{Num}
use Rattle.ob_alarms.specs.declared.rule.Num.TheVariants as num
use Rattle.ob_alarms.specs.declared.rule.Rule.{Rule}
use Rattle.ob_alarms.specs.Limits.{IsRule, is_below, same_kind as same_kind_num}
use Rattle.ob_alarms.specs.Lists.{first_place}
use Rattle.ob_site_rules.specs.Build.{Text, Path, child}
use Rattle.ob_site_rules.specs.Shown.{rule_of}
use Rattle.ob_site_rules.specs.State.{numbered_from}
use Rattle.ob_site_rules.specs.declared.plan.Plan.{Plan}
use Rattle.ob_site_rules.specs.declared.plan.PointRule.{PointRule}
use Rattle.ob_site_rules.specs.Writes.{number_in}
use Rattle.ob_plain_state.specs.States.{IsOfKindAt, NodesAre, limits_fit, rule_at}
use Rattle.ob_plain_state.specs.States as states
use Rattle.ob_site_rules.specs.declared.roles.Roles.{Roles}
use Rattle.ob_site_rules.specs.Roles.{is_part, is_dropped, role_at}
use Rattle.ob_site_rules.specs.Loading.{Part, parts_of, kept_row, items_of, numbered, of_kind, child_of, own_number, is_number_kind, node_there, source_ref, truth_in, rule_from, rule_on, rule_in, subjects}
use Rattle.ob_step_laws.proofs.Lists.{each_filter, each_found, each_flat_map, each_filter_map, each_more, all_places}
use Rattle.ob_step_laws.proofs.Walk.{Walks, each_part}
use Rattle.ob_step_laws.proofs.Sound.{Sound}

abbrev pub num_kind : Num → Kind
num_kind (num.Int i) = kind.Int
num_kind (num.Real r) = kind.Real

-- the number of a slot is of the kind that the slot fits
num_of_slot : (k : Kind) (slot : Slot) (x : Num) → IsTrue (fits_slot k slot) → number_in slot ≡ Some x → k ≡ num_kind x
num_of_slot k Absent x f h = absurd (let e : None ≡ Some x = h in cc)
num_of_slot k Null x f h = absurd (let e : None ≡ Some x = h in cc)
num_of_slot k (Is (value.Bool b)) x f h = absurd (let e : None ≡ Some x = h in cc)
num_of_slot k (Is (value.Int i)) x f h =
    let e : Some (num.Int i) ≡ Some x = h in
    let same : num.Int i ≡ x = cc in one_kind k kind.Int f ∙ ap num_kind same
num_of_slot k (Is (value.Real i)) x f h =
    let e : Some (num.Real i) ≡ Some x = h in
    let same : num.Real i ≡ x = cc in one_kind k kind.Real f ∙ ap num_kind same
num_of_slot k (Is (value.Str t)) x f h = absurd (let e : None ≡ Some x = h in cc)
num_of_slot k (Is (value.Enum t)) x f h = absurd (let e : None ≡ Some x = h in cc)
num_of_slot k (Is (value.Uri t)) x f h = absurd (let e : None ≡ Some x = h in cc)
num_of_slot k (Is (value.Abstime t)) x f h = absurd (let e : None ≡ Some x = h in cc)
num_of_slot k (Is (value.Reltime t)) x f h = absurd (let e : None ≡ Some x = h in cc)
num_of_slot k (Is (value.Date d)) x f h = absurd (let e : None ≡ Some x = h in cc)
num_of_slot k (Is (value.Time t)) x f h = absurd (let e : None ≡ Some x = h in cc)

-- the slot of a child that is found fits its kind
abbrev pub FitsIfThere : Option Object → Type 0
FitsIfThere None = Unit {0}
FitsIfThere (Some c) = IsTrue (fits_slot c.head.kind c.head.slot)

pub child_fits : (n : Text) (r : Objects) → Sound r → FitsIfThere (named n (listed r))
child_fits n none s = tt
child_fits n (node h inner rest) s = go (has_name n h.name) (child_fits n rest s.3)
  where
    go : (b : Bool) → FitsIfThere (named n (listed rest)) → FitsIfThere (cond b (Some (record { head = h; inner = inner })) (named n (listed rest)))
    go true later = s.0
    go false later = later

num_of_child : (k : Kind) (c : Option Object) (x : Num) → FitsIfThere c → option_and_then (λ (o : Object). number_in o.head.slot) (option_and_then (of_kind k) c) ≡ Some x → k ≡ num_kind x
num_of_child k None x f h = absurd (let e : None ≡ Some x = h in cc)
num_of_child k (Some c) x f h = go (same_kind c.head.kind k) refl h
  where
    go : (b : Bool) → same_kind c.head.kind k ≡ b → option_and_then (λ (o : Object). number_in o.head.slot) (cond b (Some c) None) ≡ Some x → k ≡ num_kind x
    go true is g = sym (one_kind c.head.kind k is) ∙ num_of_slot c.head.kind c.head.slot x f g
    go false is g = absurd (let e : None ≡ Some x = g in cc)

num_of_own : (n : Text) (k : Kind) (o : Object) (x : Num) → Sound o.inner → own_number n k o ≡ Some x → k ≡ num_kind x
num_of_own n k o x s h = num_of_child k (child n o) x (child_fits n o.inner s) h

-- what a rule was made from
record From (p : Option Path) (low high : Option Num) (r : PointRule) : Type 0 where
  pub source : p ≡ Some r.source
  pub below : low ≡ Some r.low
  pub above : high ≡ Some r.high

from_if : (b : Bool) (q s r : PointRule) → cond b None (Some q) ≡ Some r → q ≡ r
from_if true q s r h = absurd (let e : None ≡ Some r = h in cc)
from_if false q s r h = let e : Some q ≡ Some r = h in cc

made_from : (p : Option Path) (low high : Option Num) (needs : Option Bool) (r : PointRule) → rule_from p low high needs ≡ Some r → From p low high r
made_from None low high needs r h = absurd (let e : None ≡ Some r = h in cc)
made_from (Some p) None high needs r h = absurd (let e : None ≡ Some r = h in cc)
made_from (Some p) (Some low) None needs r h = absurd (let e : None ≡ Some r = h in cc)
made_from (Some p) (Some low) (Some high) None r h = absurd (let e : None ≡ Some r = h in cc)
made_from (Some p) (Some low) (Some high) (Some needs) r h =
    let q : PointRule = record { source = p; low = low; high = high; needs_ack = needs } in
    let same : q ≡ r = from_if (is_below high low) q q r h in
    record {
      source = ap (λ (x : PointRule). Some x.source) same;
      below = ap (λ (x : PointRule). Some x.low) same;
      above = ap (λ (x : PointRule). Some x.high) same;
    }

module _ (kind_at : Path → Kind) where
  -- limits of one kind, that of the source
  pub record IsFit (r : PointRule) : Type 0 where
    pub low : kind_at r.source ≡ num_kind r.low
    pub high : kind_at r.source ≡ num_kind r.high

  abbrev pub IsKind : Part → Type 0
  IsKind q = IsOfKindAt kind_at (node_path q.own.head) q.own.head.kind

  kind_there : (p : Path) (o : Option Path) (k : Kind) → IsOfKindAt kind_at o k → is_path p o ≡ true → k ≡ kind_at p
  kind_there p None k is h = absurd (true≢false (sym h))
  kind_there p (Some q) k is h = is ∙ ap kind_at ((bytes_eq-Decides q p).0 h)

  and_last : (a b c : Bool) → (a && (b && c)) ≡ true → c ≡ true
  and_last true true c h = h
  and_last true false c h = absurd (true≢false (sym h))
  and_last false b c h = absurd (true≢false (sym h))

  -- what is found at a path is of its kind
  source_kind : (fits : Kind → Bool) (ps : List Part) (p : Path) (source : Object) → AllByRecursion IsKind ps → node_there fits ps p ≡ Some source → source.head.kind ≡ kind_at p
  source_kind fits ps p source ks h =
      let test : Part → Bool = λ q. not q.inside && (fits q.own.head.kind && is_path p (node_path q.own.head)) in
      go (find test ps) refl h
    where
      go : (o : Option Part) → find (λ (q : Part). not q.inside && (fits q.own.head.kind && is_path p (node_path q.own.head))) ps ≡ o → option_map (λ (q : Part). q.own) o ≡ Some source → source.head.kind ≡ kind_at p
      go None e g = absurd (let f : None ≡ Some source = g in cc)
      go (Some q) e g =
          let f : Some q.own ≡ Some source = g in
          let same : q.own ≡ source = cc in
          let there = each_found IsKind (λ (q : Part). not q.inside && (fits q.own.head.kind && is_path p (node_path q.own.head))) ps q ks e in
          ap (λ (o : Object). o.head.kind) (sym same)
          ∙ kind_there p (node_path q.own.head) q.own.head.kind there.0 (and_last (not q.inside) (fits q.own.head.kind) (is_path p (node_path q.own.head)) there.1)

  on_fit : (ps : List Part) (p : Option Path) (o : Object) (r : PointRule) → AllByRecursion IsKind ps → Sound o.inner
      → rule_on p (option_and_then (node_there is_number_kind ps) p) o ≡ Some r → IsFit r
  on_fit ps p o r ks s h = go (option_and_then (node_there is_number_kind ps) p) refl h
    where
      at_source : (source : Object) → option_and_then (node_there is_number_kind ps) p ≡ Some source → p ≡ Some r.source → source.head.kind ≡ kind_at r.source
      at_source source e is = source_kind is_number_kind ps r.source source ks (sym (ap (option_and_then (node_there is_number_kind ps)) is) ∙ e)

      go : (source : Option Object) → option_and_then (node_there is_number_kind ps) p ≡ source → rule_on p source o ≡ Some r → IsFit r
      go None e g = absurd (let f : None ≡ Some r = g in cc)
      go (Some source) e g =
          let low = own_number (codes "low") source.head.kind o in
          let high = own_number (codes "high") source.head.kind o in
          let made : From p low high r = made_from p low high (option_and_then (λ (c : Object). truth_in c.head.slot) (child_of (codes "needsAck") kind.Bool o)) r g in
          let is : source.head.kind ≡ kind_at r.source = at_source source e made.source in
          record {
            low = sym is ∙ num_of_own (codes "low") source.head.kind o r.low s made.below;
            high = sym is ∙ num_of_own (codes "high") source.head.kind o r.high s made.above;
          }

  rule_fit : (ps : List Part) (o : Object) (r : PointRule) → AllByRecursion IsKind ps → Sound o.inner → rule_in ps o ≡ Some r → IsFit r
  rule_fit ps o r ks s h = go (same_kind o.head.kind kind.Obj) h
    where
      go : (b : Bool) → cond b (rule_on (option_and_then (λ (x : Object). x.head.href) (source_ref o)) (option_and_then (node_there is_number_kind ps) (option_and_then (λ (x : Object). x.head.href) (source_ref o))) o) None ≡ Some r → IsFit r
      go true g = on_fit ps (option_and_then (λ (x : Object). x.head.href) (source_ref o)) o r ks s g
      go false g = absurd (let f : None ≡ Some r = g in cc)

abbrev pub InnerSound : ℕ × Object → Type 0
InnerSound i = Sound i.1.inner

numbered_sound : (n : ℕ) (r : Objects) → Sound r → AllByRecursion InnerSound (numbered n (listed r))
numbered_sound n none s = tt
numbered_sound n (node h inner rest) s = (s.2, numbered_sound (n + parts (record { head = h; inner = inner })) rest s.3)

-- the items of a list of a sound part
pub items_sound : (name : Text) (p : Part) → Sound p.own.inner → AllByRecursion InnerSound (items_of name p)
items_sound name p s =
    each_flat_map InnerSound (λ (c : ℕ × Object). cond (is_part name kind.List c.1.head) (numbered (c.0 + 1) (children c.1)) []) (numbered (p.number + 1) (children p.own))
    (each_more InnerSound (λ (c : ℕ × Object). AllByRecursion InnerSound (cond (is_part name kind.List c.1.head) (numbered (c.0 + 1) (children c.1)) [])) (numbered (p.number + 1) (children p.own)) one
    (numbered_sound (p.number + 1) p.own.inner s))
  where
    one : (c : ℕ × Object) → InnerSound c → AllByRecursion InnerSound (cond (is_part name kind.List c.1.head) (numbered (c.0 + 1) (children c.1)) [])
    one c t = go (is_part name kind.List c.1.head)
      where
        go : (b : Bool) → AllByRecursion InnerSound (cond b (numbered (c.0 + 1) (children c.1)) [])
        go true = numbered_sound (c.0 + 1) c.1.inner t
        go false = tt

abbrev pub PartSound : Part → Type 0
PartSound q = Sound q.own.inner

pub parts_sound : (rs : List Roles) (n : ℕ) (inside : Bool) (above : Roles) (r : Objects) → Sound r → AllByRecursion PartSound (parts_of rs n inside above r)
parts_sound rs n inside above r s = each_part rs PartSound (λ m up row. Sound row) walk n inside above r s
  where
    walk : Walks rs PartSound (λ m up row. Sound row)
    walk = record {
      here = λ m up inside h inner rest d f. f.2;
      below = λ m up h inner rest d f. f.2;
      later = λ m up h inner rest f. f.3;
    }

-- where the nodes that are kept are of the kinds of their paths, so is each part
pub parts_kinds : (kind_at : Path → Kind) (rs : List Roles) (n : ℕ) (inside : Bool) (above : Roles) (r : Objects) → NodesAre kind_at (kept_row rs n above r) → AllByRecursion (IsKind kind_at) (parts_of rs n inside above r)
parts_kinds kind_at rs n inside above r k = each_part rs (IsKind kind_at) Are walk n inside above r k
  where
    Are : ℕ → Roles → Objects → Type 0
    Are m up row = NodesAre kind_at (kept_row rs m up row)

    stays : (h : Head) (own others : Objects) (b : Bool) → b ≡ false → NodesAre kind_at (cond b others (node h own others)) → NodesAre kind_at (node h own others)
    stays h own others true d f = absurd (true≢false d)
    stays h own others false d f = f

    others_are : (h : Head) (own others : Objects) (b : Bool) → NodesAre kind_at (cond b others (node h own others)) → NodesAre kind_at others
    others_are h own others true f = f
    others_are h own others false f = f.2

    walk : Walks rs (IsKind kind_at) Are
    walk = record {
      here = λ m up inside h inner rest d f. (stays h (kept_row rs (m + 1) (role_at rs m) inner) (kept_row rs (m + 1 + count inner) up rest) (is_dropped up h) d f).0;
      below = λ m up h inner rest d f. (stays h (kept_row rs (m + 1) (role_at rs m) inner) (kept_row rs (m + 1 + count inner) up rest) (is_dropped up h) d f).1;
      later = λ m up h inner rest f. others_are h (kept_row rs (m + 1) (role_at rs m) inner) (kept_row rs (m + 1 + count inner) up rest) (is_dropped up h) f;
    }

-- the rules that parts make
abbrev pub rules_in : List Part → List PointRule
rules_in ps = flat_map (λ (p : Part). filter_map (λ (i : ℕ × Object). rule_in ps i.1) (items_of (codes "rules") p)) (subjects ps)

pub rules_fit : (kind_at : Path → Kind) (ps : List Part) → AllByRecursion (IsKind kind_at) ps → AllByRecursion PartSound ps → AllByRecursion (IsFit kind_at) (rules_in ps)
rules_fit kind_at ps ks ss =
    each_flat_map (IsFit kind_at) (λ (p : Part). filter_map (λ (i : ℕ × Object). rule_in ps i.1) (items_of (codes "rules") p)) (subjects ps)
    (each_more PartSound (λ (p : Part). AllByRecursion (IsFit kind_at) (filter_map (λ (i : ℕ × Object). rule_in ps i.1) (items_of (codes "rules") p))) (subjects ps) of_part
    (each_filter PartSound (λ (p : Part). p.roles.subject) ps ss))
  where
    of_part : (p : Part) → PartSound p → AllByRecursion (IsFit kind_at) (filter_map (λ (i : ℕ × Object). rule_in ps i.1) (items_of (codes "rules") p))
    of_part p s =
        each_filter_map (IsFit kind_at) (λ (i : ℕ × Object). rule_in ps i.1) (items_of (codes "rules") p)
        (each_more InnerSound (λ (i : ℕ × Object). (r : PointRule) → rule_in ps i.1 ≡ Some r → IsFit kind_at r) (items_of (codes "rules") p) (λ i t r h. rule_fit kind_at ps i.1 r ks t h)
        (items_sound (codes "rules") p s))

-- a rule with a number for its source
abbrev one_rule : ℕ → PointRule → Rule
one_rule n r = record { source = n; path = r.source; low = r.low; high = r.high; needs_ack = r.needs_ack }

no_rule : (k : Kind) → IsTrue (limits_fit k None)
no_rule k = refl

of_num : (x : Num) (r : Rule) → r.low ≡ x → IsTrue (limits_fit (num_kind x) (Some r))
of_num (num.Int i) r e = ap states.is_int e
of_num (num.Real i) r e = ap (λ y. not (states.is_int y)) e

abbrev picked : List Rule → Option ℕ → Option Rule
picked rules None = None
picked rules (Some i) = slice_get rules i

picked_more : (x : Rule) (xs : List Rule) (o : Option ℕ) → picked (x ∷ xs) (option_map (λ n. n + 1) o) ≡ picked xs o
picked_more x xs None = refl
picked_more x xs (Some i) = ap (slice_get (x ∷ xs)) (add-one i)

-- the rule of a path, if there is one, is of the path's kind
place_fits : (kind_at : Path → Kind) (p : Path) (n : ℕ) (rs : List PointRule) → AllByRecursion (IsFit kind_at) rs
    → IsTrue (limits_fit (kind_at p) (picked (numbered_from n rs) (first_place (λ r. bytes_eq r.source p) rs)))
place_fits kind_at p n [] f = no_rule (kind_at p)
place_fits kind_at p n (r ∷ rs) f = go (bytes_eq r.source p) refl (place_fits kind_at p (n + 1) rs f.1)
  where
    go : (b : Bool) → bytes_eq r.source p ≡ b
        → IsTrue (limits_fit (kind_at p) (picked (numbered_from (n + 1) rs) (first_place (λ r. bytes_eq r.source p) rs)))
        → IsTrue (limits_fit (kind_at p) (picked (numbered_from n (r ∷ rs)) (cond b (Some 0) (option_map (λ n. n + 1) (first_place (λ r. bytes_eq r.source p) rs)))))
    go true e later =
        let is : num_kind r.low ≡ kind_at p = sym f.0.low ∙ ap kind_at ((bytes_eq-Decides r.source p).0 e) in
        subst (λ (k : Kind). IsTrue (limits_fit k (Some (one_rule n r)))) is (of_num r.low (one_rule n r) refl)
    go false e later =
        subst (λ (o : Option Rule). IsTrue (limits_fit (kind_at p) o)) (sym (picked_more (one_rule n r) (numbered_from (n + 1) rs) (first_place (λ r. bytes_eq r.source p) rs)))
        later

rule_picked : (plan : Plan) (o : Option ℕ) → states.rule_in plan o ≡ picked (numbered_from 0 plan.rules) o
rule_picked plan None = refl
rule_picked plan (Some i) = refl

pub limits_are : (kind_at : Path → Kind) (plan : Plan) → AllByRecursion (IsFit kind_at) plan.rules → (p : Path) → IsTrue (limits_fit (kind_at p) (rule_at plan (Some p)))
limits_are kind_at plan f p =
    subst (λ (o : Option Rule). IsTrue (limits_fit (kind_at p) o)) (sym (rule_picked plan (rule_of plan p))) (place_fits kind_at p 0 plan.rules f)

-- the limits of each rule are of one kind
two_nums : (x y : Num) → num_kind x ≡ num_kind y → IsTrue (same_kind_num x y)
two_nums (num.Int i) (num.Int j) e = refl
two_nums (num.Int i) (num.Real j) e = absurd (let f : kind.Int ≡ kind.Real = e in cc)
two_nums (num.Real i) (num.Int j) e = absurd (let f : kind.Real ≡ kind.Int = e in cc)
two_nums (num.Real i) (num.Real j) e = refl

each_rule : (kind_at : Path → Kind) (n : ℕ) (rs : List PointRule) → AllByRecursion (IsFit kind_at) rs → AllByRecursion IsRule (numbered_from n rs)
each_rule kind_at n [] f = tt
each_rule kind_at n (r ∷ rs) f = (two_nums r.low r.high (sym f.0.low ∙ f.0.high), each_rule kind_at (n + 1) rs f.1)

pub all_rules : (kind_at : Path → Kind) (rs : List PointRule) → AllByRecursion (IsFit kind_at) rs → All IsRule (numbered_from 0 rs)
all_rules kind_at rs f = all_places IsRule (numbered_from 0 rs) (each_rule kind_at 0 rs f)
