-- A lease that can be asked for.
use Rattle.std.proofs.Common.{◌≡◌, ℕ, ℤ, pos, negsuc, Bool, true, false, cond, ◌&&◌, Some, None, Option, Result, Ok, Err, refl, sym, subst, arith}
use Rattle.std.specs.Prelude.{nat_le}
use Rattle.std.specs.Ordering.{int_eq}
use Rattle.std.proofs.lemmas.Bool.Decides.{nat_tests}
use Rattle.ob_object.specs.Object.{Object}
use Rattle.ob_object.specs.Kinds.{same_kind}
use Rattle.ob_object.specs.declared.kind.Kind.TheVariants as kind
use Rattle.ob_object.specs.declared.head.Slot.{Slot}
use Rattle.ob_object.specs.declared.head.Slot.TheVariants.{Absent, Null, Is}
use Rattle.ob_values.specs.declared.value.Value.TheVariants as value
use Rattle.ob_contracts.specs.Inherit.{Contracts, effective_of}
use Rattle.ob_site_rules.specs.declared.fault.Fault.{Fault}
use Rattle.ob_site_rules.specs.declared.fault.Fault.TheVariants.{LeaseOutOfRange, OtherKind}
use Rattle.ob_site_rules.specs.Watched.{lease_of, lease_within}
use Rattle.ob_requests.specs.Calls.{lease_in}
use Rattle.ob_watch.specs.Tables.{IsLease}

ok_same : (a b : ℕ) → (let r : Result ℕ Fault = Ok a in r) ≡ Ok b → a ≡ b
ok_same a b h = cc

not_ok : (a : ℕ) (f : Fault) → (let r : Result ℕ Fault = Ok a in r) ≡ Err f → ⊥
not_ok a f h = cc

within_fits : (months nanos : ℤ) (lease : ℕ) → Ok lease ≡ lease_within months nanos → IsLease lease
within_fits months (negsuc n) lease e = absurd (not_ok lease LeaseOutOfRange e)
within_fits months (pos n) lease e = go (int_eq months (pos 0)) (nat_le 1_000_000_000 n) refl (nat_le n 86_400_000_000_000) refl e
  where
    go : (a b : Bool) → nat_le 1_000_000_000 n ≡ b → (c : Bool) → nat_le n 86_400_000_000_000 ≡ c → Ok lease ≡ cond (a && (b && c)) (Ok n) (Err LeaseOutOfRange) → IsLease lease
    go true true h true k e = subst IsLease (sym (ok_same lease n e)) (record { long = grind (arith, nat_tests, h); short = grind (arith, nat_tests, k) })
    go true true h false k e = absurd (not_ok lease LeaseOutOfRange e)
    go true false h c k e = absurd (not_ok lease LeaseOutOfRange e)
    go false b h c k e = absurd (not_ok lease LeaseOutOfRange e)

slot_fits : (s : Slot) (lease : ℕ) → Ok lease ≡ lease_of s → IsLease lease
slot_fits (Is (value.Reltime r)) lease e = within_fits r.months r.nanos lease e
slot_fits Absent lease e = absurd (not_ok lease LeaseOutOfRange e)
slot_fits Null lease e = absurd (not_ok lease LeaseOutOfRange e)
slot_fits (Is (value.Bool x)) lease e = absurd (not_ok lease LeaseOutOfRange e)
slot_fits (Is (value.Int x)) lease e = absurd (not_ok lease LeaseOutOfRange e)
slot_fits (Is (value.Real x)) lease e = absurd (not_ok lease LeaseOutOfRange e)
slot_fits (Is (value.Str x)) lease e = absurd (not_ok lease LeaseOutOfRange e)
slot_fits (Is (value.Enum x)) lease e = absurd (not_ok lease LeaseOutOfRange e)
slot_fits (Is (value.Uri x)) lease e = absurd (not_ok lease LeaseOutOfRange e)
slot_fits (Is (value.Abstime x)) lease e = absurd (not_ok lease LeaseOutOfRange e)
slot_fits (Is (value.Date x)) lease e = absurd (not_ok lease LeaseOutOfRange e)
slot_fits (Is (value.Time x)) lease e = absurd (not_ok lease LeaseOutOfRange e)

pub asked_fits : (library : Contracts) (input : Option Object) (lease : ℕ) → Ok lease ≡ lease_in library input → IsLease lease
asked_fits library None lease e = absurd (cc)
asked_fits library (Some o) lease e = go (same_kind o.head.kind kind.Reltime) e
  where
    go : (b : Bool) → Ok lease ≡ cond b (lease_of (effective_of library o None None).head.slot) (Err OtherKind) → IsLease lease
    go true e = slot_fits (effective_of library o None None).head.slot lease e
    go false e = absurd (not_ok lease OtherKind e)
