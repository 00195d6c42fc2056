use Rattle.std.specs.Prelude.{IsTrue}
use Rattle.std.specs.List.{list_all}
use Rattle.ob_object.specs.Fits.{fits_slot}
use Rattle.ob_site_file.proofs.Recorded.{RecordsMade}
use Rattle.ob_site_file.proofs.records.records_in.Given as goal

abbrev pub invariant-loop-item : goal.invariant-loop-item
invariant-loop-item l = record {
  fits : IsTrue (list_all (λ r. fits_slot r.kind r.slot) l.records.items);
  made : RecordsMade l.items l.item-index l.records.items;
}
