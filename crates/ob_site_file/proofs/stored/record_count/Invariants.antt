use Rattle.std.proofs.Common.{◌≡◌, ◌+◌, ◌≤◌, length, drop}
use Rattle.std.specs.List.{filter_map}
use Rattle.ob_site_rules.specs.Loading.{record_in}
use Rattle.ob_site_file.proofs.stored.record_count.Given as goal

abbrev pub invariant-loop-item : goal.invariant-loop-item
invariant-loop-item l = record {
  counted : l.count + length (filter_map record_in (drop l.item-index l.items)) ≡ length (filter_map record_in l.items);
  few : l.count ≤ l.item-index;
}
