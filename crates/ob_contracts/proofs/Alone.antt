-- What has nothing to inherit from, and no children, is itself.
use Rattle.std.proofs.Common.{◌≡◌, Bool, true, false, cond, List, [], ◌∷◌, ◌++◌, map, length, Option, Some, None, refl, sym, ap, ap₂, ◌∙◌, arith}
use Rattle.std.specs.Option.{option_copied}
use Rattle.ob_object.specs.declared.head.Head.{Head}
use Rattle.ob_object.specs.declared.head.Slot.{Slot}
use Rattle.ob_object.specs.declared.head.Slot.TheVariants.{Absent, Null, Is}
use Rattle.ob_object.specs.Kinds.{is_ref}
use Rattle.ob_object.specs.Object.{Object, Objects, none, node, listed, in_row, children}
use Rattle.ob_contracts.specs.Inherit.{Contracts, Words, bare, contract_of, given, inherited_facets, inherited_head, missing, or_else, present, result_of, slot_of, sources, words_in}
use Rattle.ob_contracts.specs.Settings.{completed_in}
use Rattle.ob_contracts.specs.Shown.{finish}
use Rattle.ob_contracts.specs.declared.completing.Setting.{Setting}

or_nothing : {A : Type 0} (o : Option A) → or_else o None ≡ o
or_nothing None = refl
or_nothing (Some x) = refl

own_slot : (s : Slot) → slot_of (or_else (given s) None) ≡ s
own_slot Absent = refl
own_slot Null = refl
own_slot (Is v) = refl

own_facets : (h : Head) → inherited_facets h [] ≡ h.facets
own_facets h = λ i. record {
  display = or_nothing h.facets.display i;
  display_name = or_nothing h.facets.display_name i;
  icon = or_nothing h.facets.icon i;
  min = or_nothing h.facets.min i;
  max = or_nothing h.facets.max i;
  precision = or_nothing h.facets.precision i;
  range = or_nothing h.facets.range i;
  status = or_nothing h.facets.status i;
  tz = or_nothing h.facets.tz i;
  unit = or_nothing h.facets.unit i;
  writable = or_nothing h.facets.writable i;
}

own_head : (h : Head) → inherited_head h [] ≡ h
own_head h = λ i. record {
  kind = h.kind;
  name = h.name;
  href = h.href;
  is = h.is;
  of = or_nothing h.of i;
  input = or_nothing h.input i;
  output = or_nothing h.output i;
  slot = own_slot h.slot i;
  facets = own_facets h i;
}

no_sources : (lib : Contracts) (h : Head) (implied : Option Words) (over : Option Object) → or_else h.is implied ≡ None → over ≡ None → sources lib h implied over ≡ []
no_sources lib h implied over e f =
    ap₂ (λ (ws : Option Words) (o : Option Object). present (cond (is_ref h.kind) [] (map (contract_of lib) (words_in ws) ++ o ∷ []))) e f ∙ go (is_ref h.kind)
  where
    go : (b : Bool) → present (cond b [] (None ∷ [])) ≡ (let none : List Object = [] in none)
    go true = refl
    go false = refl

leaf_alone : (lib : Contracts) (h : Head) (implied : Option Words) (over : Option Object) → or_else h.is implied ≡ None → over ≡ None
    → result_of lib (record { head = h; inner = none }) implied over ≡ record { head = h; inner = none }
unfolding result_of
leaf_alone lib h implied over e f =
    ap (λ (from : List Object). let o : Object = record { head = inherited_head h from; inner = in_row (map bare (missing [] from)) } in o) (no_sources lib h implied over e f)
    ∙ ap (λ (x : Head). let o : Object = record { head = x; inner = none } in o) (own_head h)

no_row : (r : Objects) → length (listed r) ≡ 0 → r ≡ none
no_row none e = refl
no_row (node h below rest) e = absurd (omega (arith, e))

finished_leaf : (d : Bool) (h : Head) → finish d (record { head = h; inner = none }) ≡ record { head = (finish d (record { head = h; inner = none })).head; inner = none }
finished_leaf true h = refl
finished_leaf false h = refl

finished_head : (d : Bool) (h : Head) (r s : Objects) → (finish d (record { head = h; inner = r })).head ≡ (finish d (record { head = h; inner = s })).head
finished_head true h r s = refl
finished_head false h r s = refl

-- with the default of its kind in the place of a slot that is not given
pub alone_completed : (s : Setting) (o : Object) → length (children o) ≡ 0 → or_else o.head.is (option_copied s.implied) ≡ None → option_copied s.over ≡ None
    → record o { head = (finish s.defaults o).head } ≡ completed_in s o
alone_completed s o empty e f =
    let is : o.inner ≡ none = no_row o.inner empty in
    let of : Objects → Object = λ r. record { head = o.head; inner = r } in
    ap (λ (x : Head). let p : Object = record { head = x; inner = o.inner } in p) (finished_head s.defaults o.head o.inner none)
    ∙ ap (λ (r : Objects). let p : Object = record { head = (finish s.defaults (of none)).head; inner = r } in p) is
    ∙ sym (finished_leaf s.defaults o.head)
    ∙ ap (finish s.defaults) (sym (leaf_alone s.library.now o.head (option_copied s.implied) (option_copied s.over) e f))
    ∙ ap (λ (r : Objects). finish s.defaults (result_of s.library.now (of r) (option_copied s.implied) (option_copied s.over))) (sym is)
