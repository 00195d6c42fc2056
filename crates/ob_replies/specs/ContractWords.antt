-- The contracts that the server names, as words.
use Rattle.std.specs.Prelude.{codes}
use Rattle.ob_site_rules.specs.Build.{Text}
use Rattle.ob_replies.specs.declared.contract.Contract.{Contract}
use Rattle.ob_replies.specs.declared.contract.Contract.TheVariants as named

-- the word that names a contract
abbrev pub contract : Contract → Text
contract named.Nil = codes "obix:Nil"
contract named.About = codes "obix:About"
contract named.BatchIn = codes "obix:BatchIn"
contract named.BatchOut = codes "obix:BatchOut"
contract named.BadUriErr = codes "obix:BadUriErr"
contract named.UnsupportedErr = codes "obix:UnsupportedErr"
contract named.PermissionErr = codes "obix:PermissionErr"
contract named.WatchService = codes "obix:WatchService"
contract named.Watch = codes "obix:Watch"
contract named.WatchIn = codes "obix:WatchIn"
contract named.WatchOut = codes "obix:WatchOut"
contract named.Point = codes "obix:Point"
contract named.WritePointIn = codes "obix:WritePointIn"
contract named.HistoryRecord = codes "obix:HistoryRecord"
contract named.HistoryFilter = codes "obix:HistoryFilter"
contract named.HistoryQueryOut = codes "obix:HistoryQueryOut"
contract named.Alarm = codes "obix:Alarm"
contract named.AlarmFilter = codes "obix:AlarmFilter"
contract named.AlarmQueryOut = codes "obix:AlarmQueryOut"
contract named.AckAlarmIn = codes "obix:AckAlarmIn"
contract named.AckAlarmOut = codes "obix:AckAlarmOut"
