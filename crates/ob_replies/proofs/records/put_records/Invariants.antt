use Rattle.std.proofs.Common.{◌≡◌, ◌++◌, map, take}
use Rattle.ob_site_rules.specs.Entries.{record_object}
use Rattle.ob_replies.proofs.records.put_records.Given as goal

abbrev pub invariant-loop-record : goal.invariant-loop-record
invariant-loop-record l = record {
  times : l.times.items ≡ l.fn.times.items ++ map (λ r. r.time) (take l.record-index l.records);
  objects : l.objects.items ≡ l.fn.objects.items ++ map record_object (take l.record-index l.records);
}
