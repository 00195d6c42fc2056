use Rattle.std.proofs.Common.{take}
use Rattle.ob_site_rules.specs.Entries.{numbered}
use Rattle.ob_replies.proofs.Numbered.{IsGivenOf}
use Rattle.ob_replies.proofs.alarms.alarms_out.Given as goal

abbrev pub invariant-loop-place : goal.invariant-loop-place
invariant-loop-place l =
    IsGivenOf l.filter l.alarms (take l.place (numbered 1 l.alarms.alarms)) l.times.items l.objects.items
