-- A head with what its sources give to it.
use Rattle.std.proofs.Common.{◌≡◌, Bool, true, false, List, Option, refl, sym, ap, ◌∙◌, true≢false}
use Rattle.std.specs.Prelude.{is_some}
use Rattle.ob_object.specs.Completed.{completed, facets_or, slot_or}
use Rattle.ob_object.specs.Kinds.{same_kind, has_of, has_input, has_output}
use Rattle.ob_object.specs.Object.{Object}
use Rattle.ob_object.specs.declared.head.Head.{Head}
use Rattle.ob_object.specs.declared.head.Slot.{Slot}
use Rattle.ob_object.specs.declared.head.Slot.TheVariants.{Absent, Null, Is}
use Rattle.ob_object.specs.declared.kind.Kind.{Kind}
use Rattle.ob_contracts.specs.Given.{given_facets, given_head, headed}
use Rattle.ob_contracts.specs.Inherit.{given, inherited_facets, inherited_head, or_else, slot_of, slot_or_default}
use Rattle.ob_contracts.specs.Shown.{finish, holder_in}
use Rattle.ob_contracts.specs.declared.reading.Part.TheVariants as part
use Rattle.ob_contracts.proofs.Giving.{completes, held}
use Rattle.ob_contracts.proofs.Parts.{head_as, slot_of-given}

completes_facets : (o : Object) (ss : List Object) → facets_or o.head.facets (given_facets o ss) ≡ inherited_facets o.head ss
completes_facets o ss = λ i. record {
  display = completes (λ s. s.head.facets.display) (λ s. true) o ss i;
  display_name = completes (λ s. s.head.facets.display_name) (λ s. true) o ss i;
  icon = completes (λ s. s.head.facets.icon) (λ s. true) o ss i;
  min = completes (λ s. s.head.facets.min) (λ s. same_kind s.head.kind o.head.kind) o ss i;
  max = completes (λ s. s.head.facets.max) (λ s. same_kind s.head.kind o.head.kind) o ss i;
  precision = completes (λ s. s.head.facets.precision) (λ s. true) o ss i;
  range = completes (λ s. s.head.facets.range) (λ s. true) o ss i;
  status = completes (λ s. s.head.facets.status) (λ s. true) o ss i;
  tz = completes (λ s. s.head.facets.tz) (λ s. true) o ss i;
  unit = completes (λ s. s.head.facets.unit) (λ s. true) o ss i;
  writable = completes (λ s. s.head.facets.writable) (λ s. true) o ss i;
}

completes_head : (o : Object) (ss : List Object) (s : Slot) → completed o.head (record (given_head o ss) { slot = s }) ≡ record (inherited_head o.head ss) { slot = slot_or o.head.slot s }
completes_head o ss s = λ i. record {
  kind = o.head.kind;
  name = o.head.name;
  href = o.head.href;
  is = o.head.is;
  of = completes (λ s. s.head.of) (λ s. has_of o.head.kind) o ss i;
  input = completes (λ s. s.head.input) (λ s. has_input o.head.kind) o ss i;
  output = completes (λ s. s.head.output) (λ s. has_output o.head.kind) o ss i;
  slot = slot_or o.head.slot s;
  facets = completes_facets o ss i;
}

-- an object's head, completed by what is given, is that of the object with all that it inherits
pub completes_whole : (d : Bool) (o : Object) (ss : List Object) (g : Head) (s : Slot) → g ≡ record (given_head o ss) { slot = s } → slot_or o.head.slot s ≡ (finish d (headed o ss)).head.slot → completed o.head g ≡ (finish d (headed o ss)).head
completes_whole d o ss g s is slot = ap (completed o.head) is ∙ completes_head o ss s ∙ head_as d (headed o ss) (slot_or o.head.slot s) (inherited_head o.head ss) refl slot

-- the slot of the object that holds it
pub held_slot : (o : Object) (ss : List Object) → (holder_in part.Slot o ss).head.slot ≡ (headed o ss).head.slot
held_slot o ss =
    sym (slot_of-given (holder_in part.Slot o ss).head.slot) ∙ ap slot_of (held (λ s. given s.head.slot) (λ s. same_kind s.head.kind o.head.kind) o ss)

-- and with the default of its kind, where that is asked
pub slot_with_default : (o : Object) (ss : List Object) (k : Kind) (s r : Slot) → r ≡ slot_or_default k s → k ≡ o.head.kind → s ≡ (holder_in part.Slot o ss).head.slot → r ≡ (finish true (headed o ss)).head.slot
slot_with_default o ss k s r is kind held = is ∙ ap (λ (x : Kind). slot_or_default x s) kind ∙ ap (slot_or_default o.head.kind) (held ∙ held_slot o ss)

slot_stays : (k : Kind) (s : Slot) (more : Option Slot) → is_some (given s) ≡ true → slot_or s Absent ≡ slot_of (or_else (given s) more)
slot_stays k Absent more h = absurd (true≢false (sym h))
slot_stays k Null more h = refl
slot_stays k (Is v) more h = refl

default_stays : (k : Kind) (s : Slot) (more : Option Slot) → is_some (given s) ≡ true → slot_or s Absent ≡ slot_or_default k (slot_of (or_else (given s) more))
default_stays k Absent more h = absurd (true≢false (sym h))
default_stays k Null more h = refl
default_stays k (Is v) more h = refl

-- where it has a slot itself none is given
pub slot_kept : (d : Bool) (o : Object) (ss : List Object) → is_some (given o.head.slot) ≡ true → slot_or o.head.slot Absent ≡ (finish d (headed o ss)).head.slot
slot_kept true o ss h = default_stays o.head.kind o.head.slot _ h
slot_kept false o ss h = slot_stays o.head.kind o.head.slot _ h

-- and where it has none, what is given is taken
pub slot_taken : (own s : Slot) → is_some (given own) ≡ false → slot_or own s ≡ s
slot_taken Absent s h = refl
slot_taken Null s h = absurd (true≢false h)
slot_taken (Is v) s h = absurd (true≢false h)
