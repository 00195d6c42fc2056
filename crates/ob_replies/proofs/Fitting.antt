-- Slots of records have values of their kinds.
use Rattle.std.proofs.Common.{◌≡◌, true, List, ◌++◌, refl, sym, ◌∙◌}
use Rattle.std.specs.Prelude.{Bool, All, slice_index_or}
use Rattle.std.specs.List.{list_all}
use Rattle.std.proofs.lemmas.List.Sums.{list_all-from_AllPass}
use Rattle.std.proofs.lemmas.List.Folds.{list_all-append}
use Rattle.ob_values.proofs.Bools.{and_second, both_true}
use Rattle.ob_object.specs.declared.kind.Kind.{Kind}
use Rattle.ob_object.specs.declared.head.Slot.{Slot}
use Rattle.ob_object.specs.declared.head.Slot.TheVariants.{Absent, Null, Is}
use Rattle.ob_object.specs.Fits.{fits_slot}
use Rattle.ob_object.specs.Kinds.{has_values}
use Rattle.ob_history.specs.declared.records.Record.{Record}
use Rattle.ob_history.specs.Records.{holds_value, IsRecord}
use Rattle.ob_replies.specs.Queries.{values_fit}

fits : (k : Kind) (slot : Slot) → holds_value k slot ≡ true → fits_slot k slot ≡ true
fits k Absent e = absurd cc
fits k Null e = refl
fits k (Is v) e = e

pub records_fit : (rs : List Record) → All IsRecord rs → values_fit rs ≡ true
records_fit rs all =
    list_all-from_AllPass (λ (r : Record). fits_slot r.kind r.slot) rs
    (λ k d lt.
    let r : Record = slice_index_or rs k d in
    fits r.kind r.slot (and_second (has_values r.kind) (holds_value r.kind r.slot) (all k d lt)))

abbrev fit : Record → Bool
fit r = fits_slot r.kind r.slot

pub front_fit : (front back : List Record) → values_fit (front ++ back) ≡ true → values_fit front ≡ true
front_fit front back e = (both_true (list_all fit front) (list_all fit back) (sym (list_all-append fit front back) ∙ e)).0

pub back_fit : (front back : List Record) → values_fit (front ++ back) ≡ true → values_fit back ≡ true
back_fit front back e = (both_true (list_all fit front) (list_all fit back) (sym (list_all-append fit front back) ∙ e)).1
