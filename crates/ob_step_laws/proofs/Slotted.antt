-- A slot that is set at a path.
use Rattle.std.proofs.Common.{◌≡◌, Bool, true, false, not, cond, List, [], ◌∷◌, map, Option, Some, None, option_map, refl, sym, ap, ap₂, ◌∙◌, true≢false}
use Rattle.std.specs.Prelude.{codes, is_some, unwrap_or}
use Rattle.std.specs.List.{cons_option, list_any}
use Rattle.ob_values.proofs.Bools.{neither}
use Rattle.ob_object.specs.declared.kind.Kind.{Kind}
use Rattle.ob_object.specs.declared.kind.Kind.TheVariants as kind
use Rattle.ob_object.specs.declared.head.Slot.{Slot}
use Rattle.ob_object.specs.declared.head.Slot.TheVariants.{Absent, Null, Is}
use Rattle.ob_object.specs.declared.head.Head.{Head}
use Rattle.ob_object.specs.Object.{Objects, none, node, Object, listed, children}
use Rattle.ob_object.specs.WellFormed.{named}
use Rattle.ob_object.specs.Paths.{is_path, node_path}
use Rattle.ob_object.specs.Kinds.{has_values}
use Rattle.ob_contracts.specs.Inherit.{Contracts, or_else, only_if, slot_or_default, effective_of, result_of}
use Rattle.ob_contracts.proofs.Children.{named-map}
use Rattle.ob_site_rules.specs.Build.{Path, child}
use Rattle.ob_site_rules.specs.State.{State}
use Rattle.ob_site_rules.specs.Shown.{node_in, node_of}
use Rattle.ob_site_rules.specs.Writes.{with_slot_in, with_slot, site_contracts, is_in_contract, given_by}
use Rattle.ob_plain_state.proofs.Slots.{nodes}
use Rattle.ob_shown_laws.specs.Alike.{row, without_slot, DifferInSlots}
use Rattle.ob_shown_laws.proofs.Bridging.{first_of}
use Rattle.ob_step_laws.specs.Defaults.{unslotted_row, unslotted, StayGiven}

abbrev pub set_if : Bool → Slot → Head → Head
set_if b slot h = cond b (record h { slot = slot }) h

-- a slot that is given is set
given_if : (b : Bool) (slot : Slot) (h : Head) → (slot ≡ Absent → ⊥) → (set_if b slot h).slot ≡ Absent → h.slot ≡ Absent
given_if true slot h some e = absurd (some e)
given_if false slot h some e = e

pub given_slotted : (p : Path) (slot : Slot) (os : Objects) → (slot ≡ Absent → ⊥) → StayGiven os (with_slot_in p slot os)
given_slotted p slot none some = tt
given_slotted p slot (node h below rest) some = (given_if (is_path p (node_path h)) slot h some, given_slotted p slot below some, given_slotted p slot rest some)

-- nothing else is
off_if : (b : Bool) (slot : Slot) (h : Head) → without_slot h ≡ without_slot (set_if b slot h)
off_if true slot h = refl
off_if false slot h = refl

pub differ_slotted : (p : Path) (slot : Slot) (os : Objects) → DifferInSlots os (with_slot_in p slot os)
differ_slotted p slot none = tt
differ_slotted p slot (node h below rest) = (
  off_if (is_path p (node_path h)) slot h,
  λ is. sym (ap (λ (o : Option Path). set_if (is_path p o) slot h) is),
  differ_slotted p slot below,
  differ_slotted p slot rest,
)

-- rows that differ in slots are the same without
pub unslotted_same : (os qs : Objects) → DifferInSlots os qs → unslotted_row os ≡ unslotted_row qs
unslotted_same none none d = refl
unslotted_same none (node k inner more) d = absurd d
unslotted_same (node h below rest) none d = absurd d
unslotted_same (node h below rest) (node k inner more) d =
    ap (λ (u : Head). node u (unslotted_row below) (unslotted_row rest)) d.0
    ∙ ap₂ (λ (x y : Objects). node (without_slot k) x y) (unslotted_same below inner d.2) (unslotted_same rest more d.3)

pub unslotted_object : (t u : Object) → DifferInSlots (row t) (row u) → unslotted t ≡ unslotted u
unslotted_object t u d = ap (λ (r : Objects). first_of t r) (unslotted_same (row t) (row u) d)

-- where no node of the path is, nothing is set
none_first : (a b : Option Object) → is_some (or_else a b) ≡ false → (is_some a ≡ false) × (is_some b ≡ false)
none_first None b e = (refl, e)
none_first (Some x) b e = absurd cc

pub path_if : (b : Bool) (slot : Slot) (h : Head) → node_path (set_if b slot h) ≡ node_path h
path_if true slot h = refl
path_if false slot h = refl

if_false : (b : Bool) (x : Object) → is_some (only_if b (Some x)) ≡ false → b ≡ false
if_false true x e = absurd cc
if_false false x e = refl

slot_off : (p : Path) (slot : Slot) (os : Objects) → is_some (node_in p (with_slot_in p slot os)) ≡ false → with_slot_in p slot os ≡ os
slot_off p slot none e = refl
slot_off p slot (node h below rest) e =
    ap (λ (b : Bool). node (set_if b slot h) (with_slot_in p slot below) (with_slot_in p slot rest)) here
    ∙ ap₂ (λ (x y : Objects). node h x y) (slot_off p slot below others.0) (slot_off p slot rest others.1)
  where
    g : Head
    g = set_if (is_path p (node_path h)) slot h

    x : Object
    x = record { head = g; inner = with_slot_in p slot below }

    parts : (is_some (only_if (is_path p (node_path g)) (Some x)) ≡ false) × (is_some (or_else (node_in p (with_slot_in p slot below)) (node_in p (with_slot_in p slot rest))) ≡ false)
    parts = none_first (only_if (is_path p (node_path g)) (Some x)) (or_else (node_in p (with_slot_in p slot below)) (node_in p (with_slot_in p slot rest))) e

    here : is_path p (node_path h) ≡ false
    here = ap (is_path p) (sym (path_if (is_path p (node_path h)) slot h)) ∙ if_false (is_path p (node_path g)) x parts.0

    others : (is_some (node_in p (with_slot_in p slot below)) ≡ false) × (is_some (node_in p (with_slot_in p slot rest)) ≡ false)
    others = none_first (node_in p (with_slot_in p slot below)) (node_in p (with_slot_in p slot rest)) parts.1

object_off : (p : Path) (slot : Slot) (o : Object) → is_some (node_of p (with_slot p slot o)) ≡ false → with_slot p slot o ≡ o
object_off p slot o e = ap (λ (r : Objects). first_of o r) (slot_off p slot (row o) e)

-- the contracts of a site in which no slot was set stay
name_if : (b : Bool) (slot : Slot) (h : Head) → (set_if b slot h).name ≡ h.name
name_if true slot h = refl
name_if false slot h = refl

listed_slotted : (p : Path) (slot : Slot) (r : Objects) → listed (with_slot_in p slot r) ≡ map (with_slot p slot) (listed r)
listed_slotted p slot none = refl
listed_slotted p slot (node h below rest) = ap (λ (l : List Object). with_slot p slot (record { head = h; inner = below }) ∷ l) (listed_slotted p slot rest)

child_slotted : (p : Path) (slot : Slot) (n : Path) (t : Object) → child n (with_slot p slot t) ≡ option_map (with_slot p slot) (child n t)
child_slotted p slot n t =
    ap (named n) (listed_slotted p slot t.inner)
    ∙ named-map (with_slot p slot) (λ o. name_if (is_path p (node_path o.head)) slot o.head) n (children t)

children_slotted : (p : Path) (slot : Slot) (o : Option Object) → unwrap_or (option_map children (option_map (with_slot p slot) o)) [] ≡ map (with_slot p slot) (unwrap_or (option_map children o) [])
children_slotted p slot None = refl
children_slotted p slot (Some x) = listed_slotted p slot x.inner

-- each contract of a site is what it was, with the slot set
nodes_slotted : (p : Path) (slot : Slot) (os : List Object) → nodes (map (with_slot p slot) os) ≡ map (λ c. (c.0, with_slot p slot c.1)) (nodes os)
nodes_slotted p slot [] = refl
nodes_slotted p slot (o ∷ os) = go (node_path (with_slot p slot o).head) (node_path o.head) (path_if (is_path p (node_path o.head)) slot o.head) (nodes_slotted p slot os)
  where
    go : (q r : Option Path) → q ≡ r → nodes (map (with_slot p slot) os) ≡ map (λ c. (c.0, with_slot p slot c.1)) (nodes os)
        → cons_option (option_map (λ x. (x, with_slot p slot o)) q) (nodes (map (with_slot p slot) os))
        ≡ map (λ c. (c.0, with_slot p slot c.1)) (cons_option (option_map (λ x. (x, o)) r) (nodes os))
    go None None is later = later
    go None (Some r) is later = absurd cc
    go (Some q) None is later = absurd cc
    go (Some q) (Some r) is later = let same : q ≡ r = cc in ap₂ (λ (x : Path) (l : Contracts). (x, with_slot p slot o) ∷ l) same later

pub contracts_slotted : (p : Path) (slot : Slot) (t : Object) → site_contracts (with_slot p slot t) ≡ map (λ c. (c.0, with_slot p slot c.1)) (site_contracts t)
contracts_slotted p slot t =
    ap (λ (o : Option Object). nodes (unwrap_or (option_map children o) [])) (child_slotted p slot (codes "contracts") t)
    ∙ ap nodes (children_slotted p slot (child (codes "contracts") t))
    ∙ nodes_slotted p slot (unwrap_or (option_map children (child (codes "contracts") t)) [])

nodes_stay : (p : Path) (slot : Slot) (os : List Object) → list_any (λ c. is_some (node_of p c.1)) (nodes (map (with_slot p slot) os)) ≡ false → nodes (map (with_slot p slot) os) ≡ nodes os
nodes_stay p slot [] e = refl
nodes_stay p slot (o ∷ os) e =
    go (node_path (with_slot p slot o).head) (node_path o.head) (path_if (is_path p (node_path o.head)) slot o.head) e (nodes_stay p slot os)
  where
    go : (q r : Option Path) → q ≡ r → list_any (λ c. is_some (node_of p c.1)) (cons_option (option_map (λ x. (x, with_slot p slot o)) q) (nodes (map (with_slot p slot) os))) ≡ false
        → (list_any (λ c. is_some (node_of p c.1)) (nodes (map (with_slot p slot) os)) ≡ false → nodes (map (with_slot p slot) os) ≡ nodes os)
        → cons_option (option_map (λ x. (x, with_slot p slot o)) q) (nodes (map (with_slot p slot) os)) ≡ cons_option (option_map (λ x. (x, o)) r) (nodes os)
    go None None is e later = later e
    go None (Some r) is e later = absurd cc
    go (Some q) None is e later = absurd cc
    go (Some q) (Some r) is e later =
        let parts = neither (is_some (node_of p (with_slot p slot o))) (list_any (λ c. is_some (node_of p c.1)) (nodes (map (with_slot p slot) os))) e in
        let same : q ≡ r = path_same is in
        ap₂ (λ (x : Object) (l : Contracts). (q, x) ∷ l) (object_off p slot o parts.0) (later parts.1)
        ∙ ap (λ (x : Path). (x, o) ∷ nodes os) same
      where
        path_same : {a b : Path} → Some a ≡ Some b → a ≡ b
        path_same f = cc

pub contracts_stay : (p : Path) (slot : Slot) (t : Object) → is_in_contract p (with_slot p slot t) ≡ false → site_contracts (with_slot p slot t) ≡ site_contracts t
contracts_stay p slot t e =
    by_children
    ∙ nodes_stay p slot (unwrap_or (option_map children (child (codes "contracts") t)) [])
    (sym (ap (list_any (λ c. is_some (node_of p c.1))) by_children) ∙ e)
  where
    by_children : site_contracts (with_slot p slot t) ≡ nodes (map (with_slot p slot) (unwrap_or (option_map children (child (codes "contracts") t)) []))
    by_children =
        ap (λ (o : Option Object). nodes (unwrap_or (option_map children o) [])) (child_slotted p slot (codes "contracts") t)
        ∙ ap nodes (children_slotted p slot (child (codes "contracts") t))

-- a kind with values has a default
default_given : (k : Kind) (v : Slot) → has_values k ≡ true → slot_or_default k v ≡ Absent → ⊥
default_given k Null is e = cc
default_given k (Is v) is e = cc
default_given kind.Bool Absent is e = cc
default_given kind.Int Absent is e = cc
default_given kind.Real Absent is e = cc
default_given kind.Str Absent is e = cc
default_given kind.Enum Absent is e = cc
default_given kind.Uri Absent is e = cc
default_given kind.Abstime Absent is e = cc
default_given kind.Reltime Absent is e = cc
default_given kind.Date Absent is e = cc
default_given kind.Time Absent is e = cc
default_given kind.Obj Absent is e = true≢false (sym is)
default_given kind.List Absent is e = true≢false (sym is)
default_given kind.Op Absent is e = true≢false (sym is)
default_given kind.Feed Absent is e = true≢false (sym is)
default_given kind.Ref Absent is e = true≢false (sym is)
default_given kind.Err Absent is e = true≢false (sym is)

-- so what a body gives has a value
pub value_given : (s : State) (body : Object) → has_values body.head.kind ≡ true → (given_by s body).slot ≡ Absent → ⊥
unfolding result_of
value_given s body is e = default_given body.head.kind (result_of s.library body None None).head.slot is e

pub kind_given : (s : State) (body : Object) → (given_by s body).kind ≡ body.head.kind
unfolding result_of
kind_given s body = refl
