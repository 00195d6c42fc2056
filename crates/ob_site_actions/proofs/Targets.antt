-- What is wrong with a write is told by what is asked of its target.
use Rattle.std.proofs.Common.{◌≡◌, ℕ, Bool, true, false, not, cond, ◌∷◌, [], Option, Some, None, option_map, refl, sym, ap, ◌∙◌}
use Rattle.std.specs.Prelude.{is_some, unwrap_or, IfSome}
use Rattle.std.specs.Option.{option_or}
use Rattle.ob_values.specs.declared.value.Value.{Value}
use Rattle.ob_values.specs.declared.value.Value.TheVariants as value
use Rattle.ob_object.specs.declared.head.Head.{Head}
use Rattle.ob_object.specs.declared.head.Slot.{Slot}
use Rattle.ob_object.specs.declared.head.Slot.TheVariants.{Absent, Null, Is}
use Rattle.ob_object.specs.Kinds.{same_kind}
use Rattle.ob_object.specs.Object.{Object}
use Rattle.ob_object.specs.Write.{verdict}
use Rattle.ob_points.specs.Points.{suits, passes}
use Rattle.ob_site_rules.specs.Build.{Path}
use Rattle.ob_site_rules.specs.declared.fault.Fault.{Fault}
use Rattle.ob_site_rules.specs.declared.fault.Fault.TheVariants.{OtherKind, TooManyEntries}
use Rattle.ob_site_rules.specs.Faults.{err, first_fault}
use Rattle.ob_site_rules.specs.Shown.{shown}
use Rattle.ob_site_rules.specs.declared.plan.Plan.{Plan}
use Rattle.ob_site_rules.specs.State.{State}
use Rattle.ob_site_rules.specs.Writes.{given_by, is_listed, overfills, showing, slot_fault, target_fault, unless, value_fault, verdict_fault, write_by, written}
use Rattle.ob_site_reads.specs.Targets.{target, target_head}
use Rattle.ob_site_actions.specs.Targets.{IsRefused, IsTarget}

-- what is asked of what is shown is a target
is_target : (plan : Plan) (s : State) (p : Path) (o : Object) → option_map target (shown plan s p) ≡ Some o → IsTarget plan s p o
is_target plan s p o e = go (shown plan s p) refl e
  where
    none_same : (let q : Option Object = None in q) ≡ Some o → ⊥
    none_same f = cc

    some_same : {a b : Object} → Some a ≡ Some b → a ≡ b
    some_same f = cc

    go : (q : Option Object) → shown plan s p ≡ q → option_map target q ≡ Some o → IsTarget plan s p o
    go None f g = absurd (none_same g)
    go (Some x) f g = (x, (f, ap target (some_same g)))

pub all_targets : (plan : Plan) (s : State) (p : Path) (found : Option Object) → IfSome found (λ o. option_map target (shown plan s p) ≡ Some o) → IfSome found (λ o. IsTarget plan s p o)
all_targets plan s p None is = tt
all_targets plan s p (Some o) is = is_target plan s p o is

-- a value is held against a target as against the object
listed_same : (plan : Plan) (s : State) (h : Head) (v : Value) → is_listed plan s (target_head h) v ≡ is_listed plan s h v
listed_same plan s h (value.Bool b) = refl
listed_same plan s h (value.Int i) = refl
listed_same plan s h (value.Real r) = refl
listed_same plan s h (value.Str t) = refl
listed_same plan s h (value.Enum t) = refl
listed_same plan s h (value.Uri t) = refl
listed_same plan s h (value.Abstime t) = refl
listed_same plan s h (value.Reltime t) = refl
listed_same plan s h (value.Date d) = refl
listed_same plan s h (value.Time t) = refl

slot_same : (plan : Plan) (s : State) (h : Head) (slot : Slot) → slot_fault plan s (target_head h) slot ≡ slot_fault plan s h slot
slot_same plan s h Absent = refl
slot_same plan s h Null = refl
slot_same plan s h (Is v) = ap (λ (b : Bool). verdict_fault (verdict h.kind h.facets.min h.facets.max v b)) (listed_same plan s h v)

value_same : (plan : Plan) (s : State) (now : ℕ) (p : Path) (h new : Head) → value_fault plan s now p (target_head h) new ≡ value_fault plan s now p h new
value_same plan s now p h new =
    ap (λ (f : Option Fault). option_or (first_fault ((not (same_kind new.kind h.kind), OtherKind) ∷ [])) (option_or f (first_fault ((overfills plan s now p h new.slot, TooManyEntries) ∷ []))))
    (slot_same plan s h new.slot)

-- so what lets a value through tells what is shown
pub passes_by : (plan : Plan) (s : State) (p : Path) (v : Value) (o : Object) → IsTarget plan s p o → suits plan s v o ≡ passes plan s p v
passes_by plan s p v o is =
    ap (λ (f : Option Fault). not (is_some f))
    (sym (slot_same plan s o.head (Is v)) ∙ sym (ap (λ (x : Object). slot_fault plan s x.head (Is v)) is.1.1) ∙ slot_same plan s is.0.head (Is v))
    ∙ sym (ap (λ (q : Option Object). unwrap_or (option_map (suits plan s v) q) false) is.1.0)

pub value_told : (plan : Plan) (s : State) (now : ℕ) (p : Path) (new : Head) (o x : Object) → target x ≡ target o → value_fault plan s now p x.head new ≡ value_fault plan s now p o.head new
value_told plan s now p new o x same =
    sym (value_same plan s now p x.head new) ∙ ap (λ (y : Object). value_fault plan s now p y.head new) same ∙ value_same plan s now p o.head new

-- what is wrong with a value refuses its write
refuses_value : (plan : Plan) (s : State) (now : ℕ) (p : Path) (o body : Object) (before : Option Fault) (f : Fault) (is : IsTarget plan s p o) → before ≡ None
    → value_fault plan s now p o.head (given_by s body) ≡ Some f → write_by plan s now p is.0 before body ≡ (s, err f)
refuses_value plan s now p o body before f is free e =
    ap (λ (b : Option Fault). write_by plan s now p is.0 b body) free
    ∙ ap (λ (b : Option Fault). unless b s (showing plan p is.0 (written plan now p is.0 (given_by s body).slot s))) (value_told plan s now p (given_by s body) o is.0 is.1.1 ∙ e)

pub write_refused : (plan : Plan) (s : State) (now : ℕ) (p : Path) (o body : Object) (fault : Option Fault) → IsTarget plan s p o → fault ≡ value_fault plan s now p o.head (given_by s body)
    → IfSome fault (λ f. IsRefused plan s p (λ x. write_by plan s now p x None body) f)
write_refused plan s now p o body None is e = tt
write_refused plan s now p o body (Some f) is e = (is.0, (is.1.0, refuses_value plan s now p o body None f is refl (sym e)))

-- and what is wrong with the target
pub target_told : (o x : Object) → target x ≡ target o → target_fault x.head ≡ target_fault o.head
target_told o x same = ap (λ (y : Object). target_fault y.head) same
