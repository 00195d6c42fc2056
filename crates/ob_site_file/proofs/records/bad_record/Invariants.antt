use Rattle.ob_site_file.proofs.Recorded.{RecordsLeft}
use Rattle.ob_site_file.proofs.records.bad_record.Given as goal

abbrev pub invariant-loop-item : goal.invariant-loop-item
invariant-loop-item l = RecordsLeft l.items.number l.items.objects.now l.item-index l.before l.number
