-- A slot in which nothing is wrong fits the kind.
use Rattle.std.proofs.Common.{◌≡◌, Bool, true, false, not, ◌&&◌, cond, Option, None, refl, sym, subst, IsTrue}
use Rattle.std.specs.Prelude.{Result, Err}
use Rattle.ob_object.specs.declared.head.Head.{Head}
use Rattle.ob_object.specs.declared.head.Slot.{Slot}
use Rattle.ob_object.specs.declared.head.Slot.TheVariants.{Absent, Null, Is}
use Rattle.ob_object.specs.declared.write.WriteFault.{WriteFault}
use Rattle.ob_object.specs.declared.write.WriteFault.TheVariants.{WrongKind}
use Rattle.ob_object.specs.Fits.{fits_slot, fits_value, fits_head, fits_if_there, fits_facets, fits_name, fits_lists}
use Rattle.ob_values.specs.declared.value.Value.{Value}
use Rattle.ob_site_rules.specs.declared.plan.Plan.{Plan}
use Rattle.ob_site_rules.specs.State.{State}
use Rattle.ob_site_rules.specs.Writes.{verdict_fault, slot_fault}

of_kind : (b : Bool) (rest : Result (Unit {0}) WriteFault) → verdict_fault (cond (not b) (Err WrongKind) rest) ≡ None → b ≡ true
of_kind true rest h = refl
of_kind false rest h = absurd cc

pub slot_fits : (plan : Plan) (s : State) (h : Head) (slot : Slot) → slot_fault plan s h slot ≡ None → IsTrue (fits_slot h.kind slot)
slot_fits plan s h Absent e = refl
slot_fits plan s h Null e = refl
slot_fits plan s h (Is v) e = of_kind (fits_value h.kind v) _ e

both : (a b : Bool) → IsTrue (a && b) → IsTrue a × IsTrue b
both true b h = (refl, h)
both false b h = absurd cc

limits : (h : Head) → IsTrue (fits_head h) → IsTrue (fits_if_there h.kind h.facets.min) × IsTrue (fits_if_there h.kind h.facets.max)
limits h f =
    both (fits_if_there h.kind h.facets.min) (fits_if_there h.kind h.facets.max)
    (both (fits_slot h.kind h.slot) (fits_facets h.kind h.facets)
    (both (fits_name h.name && fits_lists h) (fits_slot h.kind h.slot && fits_facets h.kind h.facets) f).1).1

pub min_fits : (h k : Head) (o : Option Value) → IsTrue (fits_head h) → k ≡ h → o ≡ k.facets.min → IsTrue (fits_if_there k.kind o)
min_fits h k o fits same is =
    subst (λ (v : Option Value). IsTrue (fits_if_there k.kind v)) (sym is)
    (subst (λ (x : Head). IsTrue (fits_if_there x.kind x.facets.min)) (sym same) (limits h fits).0)

pub max_fits : (h k : Head) (o : Option Value) → IsTrue (fits_head h) → k ≡ h → o ≡ k.facets.max → IsTrue (fits_if_there k.kind o)
max_fits h k o fits same is =
    subst (λ (v : Option Value). IsTrue (fits_if_there k.kind v)) (sym is)
    (subst (λ (x : Head). IsTrue (fits_if_there x.kind x.facets.max)) (sym same) (limits h fits).1)
