-- Numbers of objects of a kind.
use Rattle.std.proofs.Common.{◌≡◌, Bool, true, false, cond, ◌&&◌, Option, Some, None, refl, sym, ap, ◌∙◌, subst, true≢false}
use Rattle.std.specs.Prelude.{IsTrue, IfSome, option_and_then}
use Rattle.ob_values.specs.declared.value.Value.TheVariants as value
use Rattle.ob_object.specs.declared.kind.Kind.{Kind}
use Rattle.ob_object.specs.declared.kind.Kind.TheVariants as kind
use Rattle.ob_object.specs.declared.head.Head.{Head}
use Rattle.ob_object.specs.declared.head.Slot.{Slot}
use Rattle.ob_object.specs.declared.head.Slot.TheVariants.{Absent, Null, Is}
use Rattle.ob_object.specs.Kinds.{same_kind}
use Rattle.ob_object.specs.Fits.{fits_name, fits_lists, fits_slot, fits_facets, fits_head}
use Rattle.ob_object.specs.Object.{Object}
use Rattle.ob_contracts.proofs.Fitting.{one_kind}
use Rattle.ob_site_rules.specs.Build.{Text, child}
use Rattle.ob_site_rules.specs.Writes.{number_in}
use Rattle.ob_site_rules.specs.Loading.{child_of, of_kind}
use Rattle.ob_site_file.specs.RulesAndRecords.{num_kind}

both : (a b c d : Bool) → IsTrue ((a && b) && (c && d)) → IsTrue c
both true true true d h = refl
both true true false d h = h
both true false c d h = absurd (true≢false (sym h))
both false b c d h = absurd (true≢false (sym h))

slot_fits : (h : Head) → IsTrue (fits_head h) → IsTrue (fits_slot h.kind h.slot)
slot_fits h f = both (fits_name h.name) (fits_lists h) (fits_slot h.kind h.slot) (fits_facets h.kind h.facets) f

child_kind : (n : Text) (k : Kind) (o c : Object) → Some c ≡ child_of n k o → c.head.kind ≡ k
child_kind n k o c e = at_child (child n o) e
  where
    at_test : (x : Object) (b : Bool) → same_kind x.head.kind k ≡ b → Some c ≡ cond b (Some x) None → c.head.kind ≡ k
    at_test x true t h = let same : c ≡ x = cc in ap (λ (z : Object). z.head.kind) same ∙ one_kind x.head.kind k t
    at_test x false t h = absurd cc

    at_child : (m : Option Object) → Some c ≡ option_and_then (of_kind k) m → c.head.kind ≡ k
    at_child None h = absurd cc
    at_child (Some x) h = at_test x (same_kind x.head.kind k) refl h

number_kind : (k : Kind) (s : Slot) → IsTrue (fits_slot k s) → IfSome (number_in s) (λ n. num_kind n ≡ k)
number_kind k (Is (value.Int i)) f = sym (one_kind k kind.Int f)
number_kind k (Is (value.Real r)) f = sym (one_kind k kind.Real f)
number_kind k (Is (value.Bool b)) f = tt
number_kind k (Is (value.Str t)) f = tt
number_kind k (Is (value.Enum t)) f = tt
number_kind k (Is (value.Uri t)) f = tt
number_kind k (Is (value.Abstime t)) f = tt
number_kind k (Is (value.Reltime t)) f = tt
number_kind k (Is (value.Date t)) f = tt
number_kind k (Is (value.Time t)) f = tt
number_kind k Absent f = tt
number_kind k Null f = tt

-- the number of an own child of a kind is of the kind
pub own_kind : (n : Text) (k : Kind) (o c : Object) → Some c ≡ child_of n k o → IsTrue (fits_head c.head) → IfSome (number_in c.head.slot) (λ m. num_kind m ≡ k)
own_kind n k o c e f =
    subst (λ (l : Kind). IfSome (number_in c.head.slot) (λ m. num_kind m ≡ l)) (child_kind n k o c e) (number_kind c.head.kind c.head.slot (slot_fits c.head f))
