use Rattle.std.proofs.Common.{◌≡◌, ◌-◌, ◌^◌, min, take}
use Rattle.ob_watch.specs.Items.{bytes_of}
use Rattle.ob_watch.proofs.items.count_bytes.Given as goal

abbrev pub invariant-loop-item : goal.invariant-loop-item
invariant-loop-item l = l.bytes ≡ min (bytes_of (take l.item-index l.items)) (2 ^ 64 - 1)
