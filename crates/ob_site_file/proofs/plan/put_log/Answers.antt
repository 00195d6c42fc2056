use Rattle.std.proofs.Common.{map, ap, sym, subst, arith}
use Rattle.ob_roles.proofs.PartRows.{map_push}
use Rattle.ob_site_rules.specs.State.{Log}
use Rattle.ob_plain_state.specs.States.{entry_of, AreCounted}
use Rattle.ob_site_file.proofs.Planned.{counted_more}
use Rattle.ob_site_file.proofs.plan.put_log.Goals as goal

pub returns-clause-counted : goal.returns-clause-counted
returns-clause-counted c = λ before.
    let none_gone = ap (λ (l : Log). l.gone) c.in_ok-log.ensures.log in
    subst AreCounted (sym (map_push entry_of c.args.logs.now.items c.push.new.self.items (c.in_ok-path.path, c.in_ok-log.log) c.in_ok-push.ensures.items))
    (counted_more (map entry_of c.args.logs.now.items) (entry_of (c.in_ok-path.path, c.in_ok-log.log)) (omega (arith, c.in_ok-log.ensures.counted, none_gone)) before)
