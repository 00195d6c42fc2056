use Rattle.std.proofs.Common.{◌≡◌, take, true}
use Rattle.ob_client.specs.Tables.{texts_of, have_keys, KeepsIndex}
use Rattle.ob_client.proofs.table.add_keys.Given as goal

abbrev pub invariant-loop-new : goal.invariant-loop-new
invariant-loop-new l = record {
  index : KeepsIndex l.fn.places l.places;
  keys : have_keys l.places (texts_of (take l.new-index l.news)) ≡ true;
}
