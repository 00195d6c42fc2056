-- A write changes slots alone, and a node stands where it stood.
use Rattle.std.proofs.Common.{◌≡◌, ℕ, ◌+◌, Bool, true, false, not, ◌||◌, cond, List, [], ◌∷◌, ◌++◌, Option, Some, None, option_map, refl, sym, ap, ◌∙◌, subst, true≢false, IsTrue, add-one}
use Rattle.std.specs.Prelude.{ℤ, slice_get, is_some}
use Rattle.std.proofs.lemmas.List.{map-append}
use Rattle.std.proofs.lemmas.Slice.Eq.{bytes_eq-Decides}
use Rattle.ob_values.specs.declared.value.Value.{Value}
use Rattle.ob_values.specs.declared.value.Value.TheVariants as value
use Rattle.ob_object.specs.declared.kind.Kind.{Kind}
use Rattle.ob_object.specs.declared.kind.Kind.TheVariants as kind
use Rattle.ob_object.specs.declared.head.Head.{Head}
use Rattle.ob_object.specs.declared.head.Slot.{Slot}
use Rattle.ob_object.specs.declared.head.Slot.TheVariants.{Absent, Null, Is}
use Rattle.ob_object.specs.Kinds.{kind_of, has_values}
use Rattle.ob_object.specs.Fits.{fits_slot}
use Rattle.ob_object.specs.Object.{Object, Objects, none, node, listed}
use Rattle.ob_object.specs.Paths.{is_path, node_path}
use Rattle.ob_contracts.specs.Inherit.{or_else, only_if}
use Rattle.ob_alarms.specs.declared.rule.Num.{Num}
use Rattle.ob_alarms.specs.declared.rule.Num.TheVariants as num
use Rattle.ob_alarms.specs.declared.rule.Rule.{Rule}
use Rattle.ob_alarms.specs.Limits.{IsOfKind, same_kind as same_kind_num}
use Rattle.ob_alarms.specs.Lists.{first_place}
use Rattle.ob_site_rules.specs.Build.{Path}
use Rattle.ob_site_rules.specs.Shown.{node_in, derived}
use Rattle.ob_site_rules.specs.State.{State as SiteState, numbered_from}
use Rattle.ob_site_rules.specs.declared.plan.Plan.{Plan}
use Rattle.ob_site_rules.specs.declared.plan.PointRule.{PointRule}
use Rattle.ob_site_rules.specs.Writes.{with_slot, with_slot_in, number_in}
use Rattle.ob_plain_state.specs.States.{NamesAreFree, NodesAre, IsOfKindAt, limits_fit, is_int}
use Rattle.ob_plain_state.proofs.Slots.{unslotted, unslotted_row}
use Rattle.ob_plain_state.proofs.Keeping.{names_of, NamesDiffer-same}
use Rattle.ob_plain_state.specs.Fitting.{NodesTake}
use Rattle.ob_contracts.proofs.Fitting.{one_kind}

-- the kind of a value is one that has values
pub valued : (v : Value) → has_values (kind_of v) ≡ true
valued (value.Bool b) = refl
valued (value.Int i) = refl
valued (value.Real r) = refl
valued (value.Str t) = refl
valued (value.Enum t) = refl
valued (value.Uri t) = refl
valued (value.Abstime t) = refl
valued (value.Reltime t) = refl
valued (value.Date d) = refl
valued (value.Time t) = refl

-- a kind takes what another one does that is the same, if that is one of values
pub takes_too : (k j : Kind) (slot : Slot) → (has_values k ≡ true → k ≡ j) → IsTrue (fits_slot k slot) → IsTrue (fits_slot j slot)
takes_too k j Absent same fits = refl
takes_too k j Null same fits = refl
takes_too k j (Is v) same fits =
    let is : k ≡ kind_of v = one_kind k (kind_of v) fits in
    subst (λ (x : Kind). IsTrue (fits_slot x (Is v))) (same (ap has_values is ∙ valued v)) fits

pub nodes_take : (kind_at : Path → Kind) (p : Path) (slot : Slot) → IsTrue (fits_slot (kind_at p) slot) → (r : Objects) → NodesAre kind_at r → NodesTake p slot r
nodes_take kind_at p slot fits none n = tt
nodes_take kind_at p slot fits (node h inner rest) n =
    (λ is. here (node_path h) h.kind n.0 is, nodes_take kind_at p slot fits inner n.1, nodes_take kind_at p slot fits rest n.2)
  where
    here : (o : Option Path) (k : Kind) → IsOfKindAt kind_at o k → is_path p o ≡ true → IsTrue (fits_slot k slot)
    here None k of is = absurd (true≢false (sym is))
    here (Some q) k of is = subst (λ (x : Kind). IsTrue (fits_slot x slot)) (sym (of ∙ ap kind_at ((bytes_eq-Decides q p).0 is))) fits

pub some_rule : (P : PointRule → Bool) (rs : List PointRule) (n i : ℕ) → first_place P rs ≡ Some i → (r : Rule) × (slice_get (numbered_from n rs) i ≡ Some r)
some_rule P [] n i e = absurd cc
some_rule P (r ∷ rs) n i e = here (P r) (λ k f. some_rule P rs (n + 1) k f) e
  where
    next : (o : Option ℕ) → first_place P rs ≡ o → ((k : ℕ) → first_place P rs ≡ Some k → (q : Rule) × (slice_get (numbered_from (n + 1) rs) k ≡ Some q))
        → option_map (λ k. k + 1) o ≡ Some i → (q : Rule) × (slice_get (numbered_from n (r ∷ rs)) i ≡ Some q)
    next None f later g = absurd cc
    next (Some k) f later g =
        let at : k + 1 ≡ i = cc in
        let there = later k f in
        (there.0, ap (slice_get (numbered_from n (r ∷ rs))) (sym at ∙ add-one k) ∙ there.1)

    here : (b : Bool) → ((k : ℕ) → first_place P rs ≡ Some k → (q : Rule) × (slice_get (numbered_from (n + 1) rs) k ≡ Some q))
        → cond b (Some 0) (option_map (λ k. k + 1) (first_place P rs)) ≡ Some i → (q : Rule) × (slice_get (numbered_from n (r ∷ rs)) i ≡ Some q)
    here true later f =
        let at : 0 ≡ i = cc in
        (record { source = n; path = r.source; low = r.low; high = r.high; needs_ack = r.needs_ack }, ap (slice_get (numbered_from n (r ∷ rs))) (sym at))
    here false later f = next (first_place P rs) refl later f

pub int_low : (i : ℤ) (low : Num) → is_int low ≡ true → IsTrue (same_kind_num (num.Int i) low)
int_low i (num.Int z) h = refl
int_low i (num.Real z) h = absurd cc

pub real_low : (i : ℤ) (low : Num) → not (is_int low) ≡ true → IsTrue (same_kind_num (num.Real i) low)
real_low i (num.Int z) h = absurd cc
real_low i (num.Real z) h = refl

-- the number of a slot is of the kind of the limits, where the slot fits a kind that does
pub of_limits : (k : Kind) (r : Rule) (slot : Slot) → IsTrue (limits_fit k (Some r)) → IsTrue (fits_slot k slot) → IsOfKind r (number_in slot)
of_limits k r Absent h f = tt
of_limits k r Null h f = tt
of_limits k r (Is (value.Bool b)) h f = tt
of_limits k r (Is (value.Int i)) h f =
    let is : k ≡ kind.Int = one_kind k kind.Int f in
    int_low i r.low (subst (λ (x : Kind). IsTrue (limits_fit x (Some r))) is h)
of_limits k r (Is (value.Real i)) h f =
    let is : k ≡ kind.Real = one_kind k kind.Real f in
    real_low i r.low (subst (λ (x : Kind). IsTrue (limits_fit x (Some r))) is h)
of_limits k r (Is (value.Str t)) h f = tt
of_limits k r (Is (value.Enum t)) h f = tt
of_limits k r (Is (value.Uri t)) h f = tt
of_limits k r (Is (value.Abstime t)) h f = tt
of_limits k r (Is (value.Reltime t)) h f = tt
of_limits k r (Is (value.Date d)) h f = tt
of_limits k r (Is (value.Time t)) h f = tt

pub slot_path : (b : Bool) (h : Head) (slot : Slot) → node_path (cond b (record h { slot = slot }) h) ≡ node_path h
slot_path true h slot = refl
slot_path false h slot = refl

pub slot_kind : (b : Bool) (h : Head) (slot : Slot) → (cond b (record h { slot = slot }) h).kind ≡ h.kind
slot_kind true h slot = refl
slot_kind false h slot = refl

pub slot_name : (b : Bool) (h : Head) (slot : Slot) → (cond b (record h { slot = slot }) h).name ≡ h.name
slot_name true h slot = refl
slot_name false h slot = refl

slot_off : (b : Bool) (h : Head) (slot : Slot) → record (cond b (record h { slot = slot }) h) { slot = Absent } ≡ record h { slot = Absent }
slot_off true h slot = refl
slot_off false h slot = refl

pub names_slotted : (p : Path) (slot : Slot) (r : Objects) → names_of (listed (with_slot_in p slot r)) ≡ names_of (listed r)
names_slotted p slot none = refl
names_slotted p slot (node h inner rest) =
    ap (λ n. n ∷ names_of (listed (with_slot_in p slot rest))) (slot_name (is_path p (node_path h)) h slot)
    ∙ ap (λ ns. h.name ∷ ns) (names_slotted p slot rest)

pub free_slotted : (plan : Plan) (s : SiteState) (p : Path) (slot : Slot) (r : Objects) → NamesAreFree plan s r → NamesAreFree plan s (with_slot_in p slot r)
free_slotted plan s p slot none f = tt
free_slotted plan s p slot (node h inner rest) f =
    let name : Object → Option Path = λ o. o.head.name in
    let set : Objects = with_slot_in p slot inner in
    let changed : Head = cond (is_path p (node_path h)) (record h { slot = slot }) h in
    let names : names_of (listed inner ++ derived plan s (node_path h)) ≡ names_of (listed set ++ derived plan s (node_path changed)) =
    map-append name (listed inner) (derived plan s (node_path h))
    ∙ ap (λ ns. ns ++ names_of (derived plan s (node_path h))) (sym (names_slotted p slot inner))
    ∙ ap (λ (o : Option Path). names_of (listed set) ++ names_of (derived plan s o)) (sym (slot_path (is_path p (node_path h)) h slot))
    ∙ sym (map-append name (listed set) (derived plan s (node_path changed))) in
    (NamesDiffer-same _ _ names f.0, free_slotted plan s p slot inner f.1, free_slotted plan s p slot rest f.2)

pub kinds_slotted : (kind_at : Path → Kind) (p : Path) (slot : Slot) (r : Objects) → NodesAre kind_at r → NodesAre kind_at (with_slot_in p slot r)
kinds_slotted kind_at p slot none n = tt
kinds_slotted kind_at p slot (node h inner rest) n =
    let b : Bool = is_path p (node_path h) in
    let changed : Head = cond b (record h { slot = slot }) h in (
      subst (λ (k : Kind). IsOfKindAt kind_at (node_path changed) k) (sym (slot_kind b h slot))
          (subst (λ (o : Option Path). IsOfKindAt kind_at o h.kind) (sym (slot_path b h slot)) n.0),
      kinds_slotted kind_at p slot inner n.1,
      kinds_slotted kind_at p slot rest n.2,
    )

off_slotted : (p : Path) (slot : Slot) (r : Objects) → unslotted_row (with_slot_in p slot r) ≡ unslotted_row r
off_slotted p slot none = refl
off_slotted p slot (node h inner rest) =
    ap (λ (k : Head). node k (unslotted_row (with_slot_in p slot inner)) (unslotted_row (with_slot_in p slot rest))) (slot_off (is_path p (node_path h)) h slot)
    ∙ ap (λ r. node (record h { slot = Absent }) r (unslotted_row (with_slot_in p slot rest))) (off_slotted p slot inner)
    ∙ ap (λ r. node (record h { slot = Absent }) (unslotted_row inner) r) (off_slotted p slot rest)

pub unslotted-with_slot : (p : Path) (slot : Slot) (o : Object) → unslotted (with_slot p slot o) ≡ unslotted o
unslotted-with_slot p slot o =
    ap (λ (k : Head). let x : Object = record { head = k; inner = unslotted_row (with_slot_in p slot o.inner) } in x) (slot_off (is_path p (node_path o.head)) o.head slot)
    ∙ ap (λ (r : Objects). let x : Object = record { head = record o.head { slot = Absent }; inner = r } in x) (off_slotted p slot o.inner)

pub some_either : (a b : Option Object) → is_some (or_else a b) ≡ (is_some a || is_some b)
some_either None b = refl
some_either (Some x) b = refl

pub some_if : (b : Bool) (x : Object) → is_some (only_if b (Some x)) ≡ b
some_if true x = refl
some_if false x = refl

abbrev pub is_in : Path → Objects → Bool
is_in q none = false
is_in q (node h inner rest) = is_path q (node_path h) || (is_in q inner || is_in q rest)

pub in_row_there : (q : Path) (r : Objects) → is_some (node_in q r) ≡ is_in q r
in_row_there q none = refl
in_row_there q (node h inner rest) =
    some_either (only_if (is_path q (node_path h)) (Some (record { head = h; inner = inner }))) (or_else (node_in q inner) (node_in q rest))
    ∙ ap (λ b. b || is_some (or_else (node_in q inner) (node_in q rest))) (some_if (is_path q (node_path h)) (record { head = h; inner = inner }))
    ∙ ap (λ b. is_path q (node_path h) || b) (some_either (node_in q inner) (node_in q rest)
    ∙ ap (λ b. b || is_some (node_in q rest)) (in_row_there q inner)
    ∙ ap (λ b. is_in q inner || b) (in_row_there q rest))
