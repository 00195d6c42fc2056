use Rattle.ob_program.proofs.StormLemmas.{comes_printed}
use Rattle.ob_program.proofs.storm.ask.Goals as goal

pub returns-in-Ok-clause-comes : goal.returns-in-Ok-clause-comes
returns-in-Ok-clause-comes g c = comes_printed c.print.result _ c.args.site c.in-Ok.totals _ _ c.requires c.in-Ok.ensures c.print.ensures.printed
