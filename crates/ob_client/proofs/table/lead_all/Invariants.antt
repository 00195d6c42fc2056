use Rattle.std.proofs.Common.{◌≡◌, ◌-◌, length, true}
use Rattle.ob_client.specs.Tables.{texts_of, have_keys}
use Rattle.ob_client.proofs.TableLemmas.{IsLed}
use Rattle.ob_client.proofs.table.lead_all.Given as goal

abbrev pub invariant-loop-later : goal.invariant-loop-later
invariant-loop-later l = record {
  led : IsLed l.places (length l.kept - l.later) (texts_of l.kept);
  keys : have_keys l.places (texts_of l.kept) ≡ true;
}
