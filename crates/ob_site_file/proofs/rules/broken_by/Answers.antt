use Rattle.ob_site_file.specs.RulesAndRecords.{rule_by}
use Rattle.ob_site_file.proofs.Ruled.{next_is}
use Rattle.ob_site_file.proofs.rules.broken_by.Goals as goal

pub returns-then-fresh : goal.returns-then-fresh
returns-then-fresh c = λ ps before sees has.
    next_is ps before c.args.item.now c.args.sources.now c.insert.new.self c.as_str.result (rule_by c.in-Ok.source.now c.in-Ok._limits) c.in_ok-fresh-in-Ok.fresh (c.in-Ok.ensures.ok ps sees) c.as_str.ensures.value
    c.in_ok-fresh-in-Ok.ensures.added c.in_ok-fresh-in-Ok.ensures.updates.0 has c.if-fresh.true
