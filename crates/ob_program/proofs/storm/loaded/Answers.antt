use Rattle.ob_program.proofs.StormLemmas.{unrefused, all_opened}
use Rattle.ob_program.proofs.storm.loaded.Goals as goal

pub returns-clause-opened : goal.returns-clause-opened
returns-clause-opened c = all_opened c.load.result _ _ c.requires c.moment.ensures c.load.ensures.site

pub returns-clause-unrefused : goal.returns-clause-unrefused
returns-clause-unrefused c =
    unrefused c.opened_is_not_refused.ensures c.load.result _ _ c.requires c.load.ensures.refused c.load.ensures.cause.failed
